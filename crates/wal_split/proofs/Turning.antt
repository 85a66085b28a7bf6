-- How far logs are renamed.
use Rattle.std.proofs.Common.{◌≡◌, ◌⊎◌, inl, inr, ℕ, ◌+◌, ◌≤◌, ◌<◌, List, [], ◌∷◌, length, take, get_or, Contains, Option, Some, None, refl, sym, ap, ◌∙◌, subst, arith}
use Rattle.std.specs.Prelude.{Result}
use Rattle.std.proofs.Math.Logic.{∥∥₁_elim}
use Rattle.std.proofs.lemmas.List.{take_more, take_all}
use Rattle.std.proofs.lemmas.List.Elements.{Contains-append_left, Contains-push, Contains-push_cases, Contains-get_or}
use Rattle.log_model.specs.declared.name.Name.{Name}
use Rattle.log_model.specs.declared.name.NameKind.TheVariants as kinds
use Rattle.log_model.specs.Entry.{Entry}
use Rattle.log_model.specs.Files.{Files, content, Reads, IsAbsent, IsLogFile}
use Rattle.disk_images.specs.Crash.{DiskView, Throughout}
use Rattle.disk_images.specs.Calls.{Renames, Renamed}
use Rattle.disk_images.proofs.Moments.{at_once, joined}
use Rattle.recovery_laws.specs.Change.{HasText}
use Rattle.recovery_laws.specs.Laws.{IsFlushedEntry}
use Rattle.recovery_laws.specs.Alike.{AllAlike}
use Rattle.recovery_laws.specs.OpeningSteps.{AreKept}
use Rattle.wal_split.specs.Held.{IsHeld}
use Rattle.wal_split.proofs.Above.{entry_kept}
use Rattle.wal_split.proofs.Moving.{rename_moments, renamed_held}
use Rattle.wal_split.specs.Logs.{AreFree, AreRising, LogsKept, IsOther, log_name, old_name}

pub record Going (told : Type 0) (first now : DiskView) (logs : List ℕ) (count : ℕ) : Type 0 where
  pub others : told → (m : Name) → IsOther (take count logs) m → content now.files m ≡ content first.files m
  pub gone : told → (m : Name) → now.gone m → first.gone m ⊎ ((n : ℕ) × Contains (take count logs) n × (m ≡ log_name n))
  pub left : told → (n : ℕ) → Contains (take count logs) n → IsAbsent now.files (log_name n)
  pub moved : told → (n : ℕ) → Contains (take count logs) n → content now.files (old_name n) ≡ content first.files (log_name n)
  pub held : told → (base : Files) → IsHeld base first → LogsKept first.files logs → IsHeld base now × Throughout (AllAlike base) count first now

none_of : {A : Type 0} (xs : List A) (x : A) → Contains (take 0 xs) x → ⊥
none_of [] x h = omega (arith, h.1)
none_of (y ∷ ys) x h = omega (arith, h.1)

pub none_renamed : (told : Type 0) (v : DiskView) (logs : List ℕ) → Going told v v logs 0
none_renamed told v logs = record {
  others = λ is_told m other. refl;
  gone = λ is_told m gone. inl gone;
  left = λ is_told n has. absurd (none_of logs n has);
  moved = λ is_told n has. absurd (none_of logs n has);
  held = λ is_told base held kept. (held, at_once (AllAlike base) v held.alike);
}

no_old : kinds.Log ≡ kinds.Old → ⊥
no_old is = absurd cc

pub edits_other : (logs : List ℕ) (m : Name) → m.kind ≡ kinds.Edits → IsOther logs m
edits_other logs m kind n has = (λ is. absurd (cc (sym kind ∙ ap (λ (x : Name). x.kind) is)), λ is. absurd (cc (sym kind ∙ ap (λ (x : Name). x.kind) is)))

store_other : (logs : List ℕ) (m : Name) → m.kind ≡ kinds.Store → IsOther logs m
store_other logs m kind n has = (λ is. absurd (cc (sym kind ∙ ap (λ (x : Name). x.kind) is)), λ is. absurd (cc (sym kind ∙ ap (λ (x : Name). x.kind) is)))

-- what is kept in edits files and stores stays kept
still_kept : (told : Type 0) (first now : DiskView) (logs : List ℕ) (count : ℕ) → Going told first now logs count → told → (es : List Entry) → AreKept first.files es → AreKept now.files es
still_kept told first now logs count so_far is_told es kept e member = elim (kept e member) as (λ _. ((m : Name) × (ds : List Entry) × (m.kind ≡ kinds.Edits) × IsLogFile now.files m ds × Contains ds e) ⊎ IsFlushedEntry now.files e) [
  | inl (m, ds, kind, file, among) ↦ inl (m, ds, kind, record { kind = file.kind; bytes = file.bytes; there = so_far.others is_told m (edits_other (take count logs) m kind) ∙ file.there; ended = file.ended; text = file.text }, among)
  | inr flushed ↦ inr (entry_kept first.files now.files (λ m store. so_far.others is_told m (store_other (take count logs) m store)) e flushed)
]

module _ (told : Type 0) (first v w : DiskView) (logs : List ℕ) (count : ℕ) (there : count < length logs) (rising : told → AreRising logs) (so_far : Going told first v logs count) where
  abbrev pub this : ℕ
  this = get_or logs count 0

  among : Contains logs this
  among = Contains-get_or logs count 0 there

  -- the log is as it was, and its old name too
  log_other : told → IsOther (take count logs) (log_name this)
  log_other is_told n has = (λ is. (let same : this ≡ n = ap (λ (m : Name). m.number) is in omega (arith, same, rising is_told count n there has)), λ is. no_old (ap (λ (m : Name). m.kind) is))

  old_other : told → IsOther (take count logs) (old_name this)
  old_other is_told n has = (λ is. no_old (sym (ap (λ (m : Name). m.kind) is)), λ is. (let same : this ≡ n = ap (λ (m : Name). m.number) is in omega (arith, same, rising is_told count n there has)))

  pub reads_log : told → AreFree first logs → (c : List ℕ) × Reads v.files (log_name this) c
  reads_log is_told free = (let r = free.there this among in (r.0, so_far.others is_told (log_name this) (log_other is_told) ∙ r.1))

  pub old_absent : told → AreFree first logs → IsAbsent v.files (old_name this)
  old_absent is_told free = so_far.others is_told (old_name this) (old_other is_told) ∙ (free.old this among).0

  pub old_not_gone : told → AreFree first logs → ¬ v.gone (old_name this)
  old_not_gone is_told free gone = elim (so_far.gone is_told (old_name this) gone) as (λ _. ⊥) [
    | inl was ↦ (free.old this among).1 was
    | inr (n, has, is) ↦ no_old (sym (ap (λ (m : Name). m.kind) is))
  ]

  module _ {T E : Type 0} {result : Result T E} (renames : told → Renames (log_name this) (old_name this) result v w) where
    pub moments_on : told → (base : Files) → IsHeld base first → LogsKept first.files logs → Throughout (AllAlike base) (count + 1) first w
    moments_on is_told base held kept =
        let h = so_far.held is_told base held kept in
        let k = kept this among in
        joined (AllAlike base) count 1 first v w h.1
        (rename_moments base v w h.0 (log_name this) (old_name this) refl refl k.0 k.1 (subst (λ (x : Option (List ℕ)). HasText (log_name this) k.0 k.1 x) (sym (so_far.others is_told (log_name this) (log_other is_told))) k.2)
        (still_kept told first v logs count so_far is_told k.0 k.3) (renames is_told))

    pub one_renamed : (told → Renamed (log_name this) (old_name this) v.files w.files) → Going told first w logs (count + 1)
    one_renamed done = record {
      others = λ is_told m other.
          let last = other this (subst (λ (l : List ℕ). Contains l this) (sym (take_more logs count 0 there)) (Contains-push (take count logs) this)) in
          (renames is_told).others m last.0 last.1 ∙ so_far.others is_told m (λ n has. other n (subst (λ (l : List ℕ). Contains l n) (sym (take_more logs count 0 there)) (Contains-append_left (take count logs) (this ∷ []) n has)));
      gone = λ is_told m gone. elim ((renames is_told).gone m gone) as (λ _. first.gone m ⊎ ((n : ℕ) × Contains (take (count + 1) logs) n × (m ≡ log_name n))) [
        | inl was ↦ elim (so_far.gone is_told m was) as (λ _. first.gone m ⊎ ((n : ℕ) × Contains (take (count + 1) logs) n × (m ≡ log_name n))) [
          | inl before ↦ inl before
          | inr (n, has, is) ↦ inr (n, subst (λ (l : List ℕ). Contains l n) (sym (take_more logs count 0 there)) (Contains-append_left (take count logs) (this ∷ []) n has), is)
        ]
        | inr is ↦ inr (this, subst (λ (l : List ℕ). Contains l this) (sym (take_more logs count 0 there)) (Contains-push (take count logs) this), is)
      ];
      left = λ is_told n has. elim (Contains-push_cases (take count logs) this n (subst (λ (l : List ℕ). Contains l n) (take_more logs count 0 there) has)) as (λ _. IsAbsent w.files (log_name n)) [
        | inl before ↦ (renames is_told).others (log_name n) (λ is. (let same : n ≡ this = ap (λ (m : Name). m.number) is in omega (arith, same, rising is_told count n there before))) (λ is. no_old (ap (λ (m : Name). m.kind) is)) ∙ so_far.left is_told n before
        | inr is ↦ subst (λ (k : ℕ). IsAbsent w.files (log_name k)) is (done is_told).left
      ];
      moved = λ is_told n has. elim (Contains-push_cases (take count logs) this n (subst (λ (l : List ℕ). Contains l n) (take_more logs count 0 there) has)) as (λ _. content w.files (old_name n) ≡ content first.files (log_name n)) [
        | inl before ↦ (renames is_told).others (old_name n) (λ is. no_old (sym (ap (λ (m : Name). m.kind) is))) (λ is. (let same : n ≡ this = ap (λ (m : Name). m.number) is in omega (arith, same, rising is_told count n there before))) ∙ so_far.moved is_told n before
        | inr is ↦ subst (λ (k : ℕ). content w.files (old_name k) ≡ content first.files (log_name k)) is ((done is_told).there ∙ so_far.others is_told (log_name this) (log_other is_told))
      ];
      held = λ is_told base held kept.
          let h = so_far.held is_told base held kept in
          let k = kept this among in (
            renamed_held base v w h.0 (log_name this) (old_name this) refl refl k.0 k.1 (subst (λ (x : Option (List ℕ)). HasText (log_name this) k.0 k.1 x) (sym (so_far.others is_told (log_name this) (log_other is_told))) k.2)
                (still_kept told first v logs count so_far is_told k.0 k.3) (renames is_told) (done is_told),
            moments_on is_told base held kept,
          );
    }

-- what isn't there by some witness isn't there
pub absent_by : {X : Type 0} (image : Option (List ℕ)) → ∥ X ∥₁ → (X → image ≡ None) → image ≡ None
absent_by None some then = refl
absent_by (Some bytes) some then = absurd (∥∥₁_elim some (λ a b. absurd a) (λ x. absurd (cc (then x))))

pub all_taken : (logs : List ℕ) (count n : ℕ) → length logs ≤ count → Contains logs n → Contains (take count logs) n
all_taken logs count n le has = subst (λ (l : List ℕ). Contains l n) (sym (take_all count logs le)) has

pub all_other : (logs : List ℕ) (count : ℕ) (m : Name) → length logs ≤ count → IsOther logs m → IsOther (take count logs) m
all_other logs count m le other n has = other n (subst (λ (l : List ℕ). Contains l n) (take_all count logs le) has)
