-- How many edits files are removed.
use Rattle.std.proofs.Common.{◌≡◌, ◌≢◌, inl, inr, ℕ, ◌+◌, ◌≤◌, ◌<◌, List, [], ◌∷◌, length, take, drop, get_or, Contains, Option, refl, sym, ap, ◌∙◌, subst, arith}
use Rattle.std.specs.Prelude.{Result}
use Rattle.std.proofs.lemmas.List.{take_more, take_all, take-append-drop}
use Rattle.std.proofs.lemmas.List.Elements.{Contains-append_left, Contains-push, Contains-push_cases, Contains-get_or}
use Rattle.log_model.specs.declared.name.Name.{Name}
use Rattle.log_model.specs.declared.name.NameKind.TheVariants as kinds
use Rattle.log_model.specs.Entry.{Entry}
use Rattle.log_model.specs.Files.{Files, content, IsAbsent}
use Rattle.disk_images.specs.Crash.{DiskView, Throughout}
use Rattle.disk_images.specs.Calls.{Removes}
use Rattle.disk_images.proofs.Moments.{at_once, joined}
use Rattle.recovery_laws.specs.Change.{HasText}
use Rattle.recovery_laws.specs.Laws.{IsFlushedEntry}
use Rattle.recovery_laws.specs.Alike.{AllAlike}
use Rattle.wal_split.specs.Held.{IsHeld}
use Rattle.wal_split.proofs.Moving.{remove_moments, removed_held}
use Rattle.wal_split.proofs.Above.{entry_kept}
use Rattle.region_replay.specs.Cuts.{AreEdits, EditsFlushed}

abbrev pub IsElse : List Name → Name → Type 0
IsElse names m = (n : Name) → Contains names n → m ≢ n

pub record Going (told : Type 0) (first now : DiskView) (names : List Name) (count : ℕ) : Type 0 where
  pub others : told → (m : Name) → IsElse (take count names) m → content now.files m ≡ content first.files m
  pub left : told → (m : Name) → Contains (take count names) m → IsAbsent now.files m
  pub held : told → (base : Files) → IsHeld base first → EditsFlushed first.files names → IsHeld base now × Throughout (AllAlike base) count first now

none_of : {A : Type 0} (xs : List A) (x : A) → Contains (take 0 xs) x → ⊥
none_of [] x h = omega (arith, h.1)
none_of (y ∷ ys) x h = omega (arith, h.1)

pub none_gone : (told : Type 0) (v : DiskView) (names : List Name) → Going told v v names 0
none_gone told v names = record {
  others = λ is_told m other. refl;
  left = λ is_told m has. absurd (none_of names m has);
  held = λ is_told base held flushed. (held, at_once (AllAlike base) v held.alike);
}

module _ (told : Type 0) (first v w : DiskView) (names : List Name) (count : ℕ) (x : Name) (there : count < length names) (edits : AreEdits told names) (so_far : Going told first v names count) where
  abbrev pub this : Name
  this = get_or names count x

  pub among : Contains names this
  among = Contains-get_or names count x there

  this_else : told → IsElse (take count names) this
  this_else is_told n has = edits.apart is_told count x n there has

  pub same_now : told → content v.files this ≡ content first.files this
  same_now is_told = so_far.others is_told this (this_else is_told)

  kind : this.kind ≡ kinds.Edits
  kind = edits.kind this among

  taken_in : (m : Name) → Contains (take count names) m → m.kind ≡ kinds.Edits
  taken_in m has = edits.kind m (subst (λ (l : List Name). Contains l m) (take-append-drop count names) (Contains-append_left (take count names) (drop count names) m has))

  flushed_now : told → (es : List Entry) → ((e : Entry) → Contains es e → IsFlushedEntry first.files e) → (e : Entry) → Contains es e → IsFlushedEntry v.files e
  flushed_now is_told es flushed e has =
      entry_kept first.files v.files (λ m store. so_far.others is_told m (λ n in_it is. absurd (cc (sym store ∙ ap (λ (k : Name). k.kind) is ∙ taken_in n in_it)))) e (flushed e has)

  module _ {T E : Type 0} {result : Result T E} (removes : told → Removes this result v w) where
    pub moments_on : told → (base : Files) → IsHeld base first → EditsFlushed first.files names → Throughout (AllAlike base) (count + 1) first w
    moments_on is_told base held flushed =
        let h = so_far.held is_told base held flushed in
        let k = flushed this among in
        joined (AllAlike base) count 1 first v w h.1
        (remove_moments base v w h.0 this kind k.0 k.1 (subst (λ (o : Option (List ℕ)). HasText this k.0 k.1 o) (sym (same_now is_told)) k.2) (flushed_now is_told k.0 k.3) (removes is_told))

    pub one_gone : (told → IsAbsent w.files this) → Going told first w names (count + 1)
    one_gone done = record {
      others = λ is_told m other.
          (removes is_told).others m (other this (subst (λ (l : List Name). Contains l this) (sym (take_more names count x there)) (Contains-push (take count names) this)))
          ∙ so_far.others is_told m (λ n has. other n (subst (λ (l : List Name). Contains l n) (sym (take_more names count x there)) (Contains-append_left (take count names) (this ∷ []) n has)));
      left = λ is_told m has. elim (Contains-push_cases (take count names) this m (subst (λ (l : List Name). Contains l m) (take_more names count x there) has)) as (λ _. IsAbsent w.files m) [
        | inl before ↦ (removes is_told).others m (λ is. edits.apart is_told count x m there before (sym is)) ∙ so_far.left is_told m before
        | inr is ↦ subst (λ (n : Name). IsAbsent w.files n) is (done is_told)
      ];
      held = λ is_told base held flushed.
          let h = so_far.held is_told base held flushed in
          let k = flushed this among in (
            removed_held base v w h.0 this kind k.0 k.1 (subst (λ (o : Option (List ℕ)). HasText this k.0 k.1 o) (sym (same_now is_told)) k.2) (flushed_now is_told k.0 k.3) (removes is_told) (done is_told),
            moments_on is_told base held flushed,
          );
    }

pub all_taken : (names : List Name) (count : ℕ) (m : Name) → length names ≤ count → Contains names m → Contains (take count names) m
all_taken names count m le has = subst (λ (l : List Name). Contains l m) (sym (take_all count names le)) has

pub all_else : (names : List Name) (count : ℕ) (m : Name) → length names ≤ count → IsElse names m → IsElse (take count names) m
all_else names count m le other n has = other n (subst (λ (l : List Name). Contains l n) (take_all count names le) has)
