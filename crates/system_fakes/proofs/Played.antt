-- The calls of a history, played once more in a crash.
use Rattle.std.proofs.Common.{◌≡◌, ◌≢◌, ◌⊎◌, inl, inr, ℕ, ◌+◌, ◌-◌, ◌≤◌, ◌<◌, zero, suc, List, [], ◌∷◌, ◌++◌, length, Some, None, Vec, set, get_or, take, drop, refl, sym, ◌∙◌, ap, subst, arith, length-append}
use Rattle.std.proofs.lemmas.Bool.{cases_lt}
use Rattle.std.proofs.lemmas.List.{drop-drop, length-set, get_or-set_same, get_or-set_other}
use Rattle.std.specs.FinMap.{get, insert, remove}
use Rattle.log_model.specs.declared.name.Name.{Name}
use Rattle.disk_images.specs.Crash.{overwritten, Torn}
use Rattle.system_fakes.specs.declared.op.Op.{Op}
use Rattle.system_fakes.specs.declared.op.Op.TheVariants.{Create, Begin, Write, Tear, Doubt, Sync, Move, Unlink, Place, SyncFolder, Tick}
use Rattle.system_fakes.specs.Held.{Held, bytes_of, created, written, moved, unlinked}
use Rattle.system_fakes.specs.History.{State, torn_in, pinned_in, step, after, quiet, Meets, MeetAll}
use Rattle.system_fakes.specs.Fair.{IsFair, IsPlain, IsStart, nat_cases, bytes_pushed, bytes_beyond, written_here, written_other, written_torn, without_name, fair_after, fair_quiet}
use Rattle.system_fakes.specs.Image.{IsPlayed, Plays, skipped, replaced, pointed, named_as}
use Rattle.system_fakes.specs.Conditions.{no_length}
use Rattle.system_fakes.proofs.Steps.{after_push}

torn_more : (at k n : ℕ) (c d : List ℕ) → k ≤ n → Torn at k c d → Torn at n c d
torn_more at k n c d le torn =
    let sum : at + n ≡ (at + k) + (n - k) = omega (arith, le) in
    let later : (l : List ℕ) → drop (at + n) l ≡ drop (n - k) (drop (at + k) l) = λ l. ap (λ (m : ℕ). drop m l) sum ∙ sym (drop-drop (n - k) (at + k) l) in
    record {
      before = torn.before;
      after = later d ∙ ap (drop (n - k)) torn.after ∙ sym (later c);
      no_shorter = torn.no_shorter;
      no_longer = omega (arith, torn.no_longer, le);
    }

module _ (s : State) (fair : IsFair s) (I : Held) (was : IsPlayed s I) where
  pushed_too : length (I.files ++ [] ∷ []) ≡ length (s.held.files ++ [] ∷ [])
  pushed_too = omega (arith, length-append I.files ([] ∷ []), length-append s.held.files ([] ∷ []), was.as_many)

  pub create_done : (name : Name) → IsPlayed (step s (Create name)) (created I name)
  create_done name = record {
    folder = (I.folder, was.folder, inr (ap (insert I.folder name) was.as_many));
    bytes = λ i. subst (s.texts i) (sym (bytes_pushed I.files i)) (was.bytes i);
    as_many = pushed_too;
    no_part = was.no_part;
    certain = was.certain;
  }

  pub create_lost : (name : Name) → IsPlayed (step s (Create name)) (skipped I)
  create_lost name = record {
    folder = (I.folder, was.folder, inl refl);
    bytes = λ i. subst (s.texts i) (sym (bytes_pushed I.files i)) (was.bytes i);
    as_many = pushed_too;
    no_part = was.no_part;
    certain = was.certain;
  }

  pub begin_any : (name : Name) → IsPlayed (step s (Begin name)) (skipped I)
  begin_any name = record {
    folder = was.folder;
    bytes = λ i. subst (s.texts i) (sym (bytes_pushed I.files i)) (was.bytes i);
    as_many = pushed_too;
    no_part = was.no_part;
    certain = was.certain;
  }

  torn_written : (i at n : ℕ) (piece : List ℕ) → length piece ≤ n → i < length I.files → at ≤ length (bytes_of I i) → (j : ℕ) → torn_in s.texts i at n j (bytes_of (written I i at piece) j)
  torn_written i at n piece le lt reaches j = elim (nat_cases j i) as (λ _. torn_in s.texts i at n j (bytes_of (written I i at piece) j)) [
    | inl same ↦ (
      bytes_of I j,
      was.bytes j,
      inr (
        same,
        subst (λ (k : ℕ). Torn at n (bytes_of I k) (bytes_of (written I i at piece) k)) (sym same)
            (torn_more at (length piece) n (bytes_of I i) (bytes_of (written I i at piece) i) le (written_torn I i at piece lt reaches)),
      ),
    )
    | inr other ↦ (bytes_of I j, was.bytes j, inl (other, written_other I i at piece j other))
  ]

  torn_same : (i at n : ℕ) (j : ℕ) → torn_in s.texts i at n j (bytes_of I j)
  torn_same i at n j = elim (nat_cases j i) as (λ _. torn_in s.texts i at n j (bytes_of I j)) [
    | inl same ↦ (bytes_of I j, was.bytes j, inr (same, record { before = refl; after = refl; no_shorter = omega arith; no_longer = omega arith }))
    | inr other ↦ (bytes_of I j, was.bytes j, inl (other, refl))
  ]

  as_many_written : (i at : ℕ) (b piece : List ℕ) → length (written I i at piece).files ≡ length (written s.held i at b).files
  as_many_written i at b piece = omega (arith, length-set I.files i (overwritten (bytes_of I i) at piece), length-set s.held.files i (overwritten (bytes_of s.held i) at b), was.as_many)

  as_many_lost : (i at : ℕ) (b : List ℕ) → length I.files ≡ length (written s.held i at b).files
  as_many_lost i at b = omega (arith, length-set s.held.files i (overwritten (bytes_of s.held i) at b), was.as_many)

  pub write_done : (i at : ℕ) (b : Vec ℕ _) (piece : List ℕ) → length piece ≤ length b.items → i < length I.files → at ≤ length (bytes_of I i) → IsPlayed (step s (Write i at b)) (written I i at piece)
  write_done i at b piece le lt reaches = record { folder = was.folder; bytes = torn_written i at (length b.items) piece le lt reaches; as_many = as_many_written i at b.items piece; no_part = was.no_part; certain = was.certain }

  pub write_lost : (i at : ℕ) (b : Vec ℕ _) → IsPlayed (step s (Write i at b)) I
  write_lost i at b = record { folder = was.folder; bytes = torn_same i at (length b.items); as_many = as_many_lost i at b.items; no_part = was.no_part; certain = was.certain }

  pub tear_done : (i at : ℕ) (b : Vec ℕ _) (piece : List ℕ) → length piece ≤ length b.items → i < length I.files → at ≤ length (bytes_of I i) → IsPlayed (step s (Tear i at b)) (written I i at piece)
  tear_done i at b piece le lt reaches = record { folder = was.folder; bytes = torn_written i at (length b.items) piece le lt reaches; as_many = as_many_written i at b.items piece; no_part = was.no_part; certain = was.certain }

  pub tear_lost : (i at : ℕ) (b : Vec ℕ _) → IsPlayed (step s (Tear i at b)) I
  tear_lost i at b = record { folder = was.folder; bytes = torn_same i at (length b.items); as_many = as_many_lost i at b.items; no_part = was.no_part; certain = was.certain }

  -- an inode that was never given has no bytes
  replaced_here : (i : ℕ) → bytes_of (replaced I i (bytes_of s.held i)) i ≡ bytes_of s.held i
  replaced_here i = elim (cases_lt i (length I.files)) as (λ _. bytes_of (replaced I i (bytes_of s.held i)) i ≡ bytes_of s.held i) [
    | inl lt ↦ get_or-set_same I.files i (bytes_of s.held i) [] lt
    | inr far ↦ bytes_beyond (set I.files i (bytes_of s.held i)) i (omega (arith, length-set I.files i (bytes_of s.held i), far)) ∙ sym (bytes_beyond s.held.files i (omega (arith, far, was.as_many)))
  ]

  pub sync_any : (i : ℕ) → IsPlayed (step s (Sync i)) (replaced I i (bytes_of s.held i))
  sync_any i = record {
    folder = was.folder;
    bytes = λ j. elim (nat_cases j i) as (λ _. pinned_in s.texts i (bytes_of s.held i) j (bytes_of (replaced I i (bytes_of s.held i)) j)) [
      | inl same ↦
          let here : bytes_of (replaced I i (bytes_of s.held i)) j ≡ bytes_of s.held i = ap (bytes_of (replaced I i (bytes_of s.held i))) same ∙ replaced_here i in
          (subst (s.texts j) (ap (bytes_of s.held) same ∙ sym here) (fair.bytes_now j), λ is. here)
      | inr other ↦ (subst (s.texts j) (sym (get_or-set_other I.files i j (bytes_of s.held i) [] other)) (was.bytes j), λ is. absurd (other is))
    ];
    as_many = length-set I.files i (bytes_of s.held i) ∙ was.as_many;
    no_part = was.no_part;
    certain = was.certain;
  }

  pub doubt_any : (i : ℕ) → IsPlayed (step s (Doubt i)) I
  doubt_any i = record { folder = was.folder; bytes = was.bytes; as_many = was.as_many; no_part = was.no_part; certain = was.certain }

  pub move_done : (i : ℕ) (from to : Name) → get I.folder from ≡ Some i → IsPlayed (step s (Move i from to)) (moved I i from to)
  move_done i from to leads = record { folder = (I.folder, was.folder, inr (from, leads, refl)); bytes = was.bytes; as_many = was.as_many; no_part = was.no_part; certain = was.certain }

  pub move_lost : (i : ℕ) (from to : Name) → IsPlayed (step s (Move i from to)) I
  move_lost i from to = record { folder = (I.folder, was.folder, inl refl); bytes = was.bytes; as_many = was.as_many; no_part = was.no_part; certain = was.certain }

  pub unlink_done : (i : ℕ) (name : Name) → get I.folder name ≡ Some i → IsPlayed (step s (Unlink i name)) (unlinked I name)
  unlink_done i name leads = record {
    folder = (I.folder, was.folder, inr (without_name (length s.held.files) i I.folder name (fair.plain I.folder was.folder) leads));
    bytes = was.bytes;
    as_many = was.as_many;
    no_part = was.no_part;
    certain = was.certain;
  }

  pub unlink_lost : (i : ℕ) (name : Name) → IsPlayed (step s (Unlink i name)) I
  unlink_lost i name = record { folder = (I.folder, was.folder, inl refl); bytes = was.bytes; as_many = was.as_many; no_part = was.no_part; certain = was.certain }

  pub place_done : (i : ℕ) (name : Name) → IsPlayed (step s (Place i name)) (pointed I name i)
  place_done i name = record { folder = (I.folder, was.folder, inr refl); bytes = was.bytes; as_many = was.as_many; no_part = was.no_part; certain = was.certain }

  pub place_lost : (i : ℕ) (name : Name) → IsPlayed (step s (Place i name)) I
  place_lost i name = record { folder = (I.folder, was.folder, inl refl); bytes = was.bytes; as_many = was.as_many; no_part = was.no_part; certain = was.certain }

  pub folder_any : IsPlayed (step s SyncFolder) (named_as I s.held.folder)
  folder_any = record { folder = refl; bytes = was.bytes; as_many = was.as_many; no_part = was.no_part; certain = was.certain }

  pub tick_any : IsPlayed (step s Tick) I
  tick_any = record { folder = was.folder; bytes = was.bytes; as_many = was.as_many; no_part = was.no_part; certain = was.certain }

met_parts : (s : State) (ops : List Op) (op : Op) → MeetAll s (ops ++ op ∷ []) → MeetAll s ops × Meets (after s ops).held op
met_parts s [] op met = (tt, met.0)
met_parts s (o ∷ ops) op met = let more = met_parts (step s o) ops op met.1 in ((met.0, more.0), more.1)

pub plays : (op : Op) (truth I J : Held) → ((s : State) → IsFair s → s.held ≡ truth → IsPlayed s I → IsPlayed (step s op) J) → Plays op truth I J
plays op truth I J one first done start met same was =
    let parts = met_parts (quiet first) done op met in
    after_push (λ t. IsPlayed t J) (quiet first) done op (one (after (quiet first) done) (fair_after (quiet first) done (fair_quiet first start) parts.0) same was)

-- at the beginning
pub played_quiet : (h : Held) → IsStart h → (t : Held) → t ≡ h → IsPlayed (quiet h) t
played_quiet h start t same = subst (IsPlayed (quiet h)) (sym same) record {
  folder = refl;
  bytes = λ i. refl;
  as_many = refl;
  no_part = start.parts;
  certain = ap length start.certain;
}

met_take_step : (s : State) (ops : List Op) (k : ℕ) → MeetAll s ops → MeetAll s (take k ops)
met_take_step s ops zero met = tt
met_take_step s [] (suc k) met = tt
met_take_step s (op ∷ ops) (suc k) met = (met.0, met_take_step (step s op) ops k met.1)

pub met_take : (s : State) (k : ℕ) (ops : List Op) → MeetAll s ops → MeetAll s (take k ops)
met_take s k ops met = met_take_step s ops k met

pub met_last : (s : State) (ops : List Op) (op : Op) → MeetAll s (ops ++ op ∷ []) → Meets (after s ops).held op
met_last s ops op met = (met_parts s ops op met).1

-- what a crash leaves is something to begin with
pub start_played : (s : State) → IsFair s → (h : Held) → IsPlayed s h → IsStart h
start_played s fair h played = record {
  plain = subst (λ (n : ℕ). IsPlain n h.folder) (sym played.as_many) (fair.plain h.folder played.folder);
  parts = played.no_part;
  certain = no_length h.doubtful played.certain;
}

pub plays_to : (op : Op) (truth I J K : Held) → K ≡ J → ((s : State) → IsFair s → s.held ≡ truth → IsPlayed s I → IsPlayed (step s op) J) → Plays op truth I K
plays_to op truth I J K is one = plays op truth I K (λ s fair same was. subst (IsPlayed (step s op)) (sym is) (one s fair same was))
