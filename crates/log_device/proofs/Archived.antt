-- What renaming a closed log leaves.
use Rattle.std.proofs.Common.{◌≡◌, ◌≢◌, ◌⊎◌, inl, inr, ℕ, ◌<◌, ◌≤◌, ◌==◌, Bool, true, false, not, List, [], length, Contains, Option, Some, None, refl, sym, ap, ◌∙◌, subst, arith}
use Rattle.std.proofs.lemmas.List.{append-nil}
use Rattle.std.proofs.lemmas.Bool.{eq-eqb}
use Rattle.std.proofs.lemmas.Bool.Decides.{nat_tests}
use Rattle.log_model.specs.declared.name.Name.{Name}
use Rattle.log_model.specs.declared.name.NameKind.TheVariants as kinds
use Rattle.log_model.specs.Files.{Files, content, IsAbsent, Reads, Same, IsPresent}
use Rattle.log_model.specs.Recovered.{IsWhollyFlushed}
use Rattle.disk_images.specs.Crash.{DiskView, IsImageNow, Throughout}
use Rattle.disk_images.specs.Calls.{Renamed}
use Rattle.disk_images.specs.OneFile.{IsDurableFile}
use Rattle.disk_images.specs.Moved.{HasEitherName, TouchesBoth}
use Rattle.disk_images.proofs.Moments.{weaker, at_end}
use Rattle.recovery_laws.specs.Change.{HasText}
use Rattle.recovery_laws.proofs.Names.{name_cases}
use Rattle.recovery_laws.proofs.Logs.{grown}
use Rattle.recovery_laws.proofs.Likes.{none_fresh, like_same}
use Rattle.recovery_laws.proofs.Archived.{archived}
use Rattle.log_file.specs.LogText.{ended_text, at_rest}
use Rattle.log_file.specs.Open.{OpenLog}
use Rattle.log_file.proofs.Committed.{ended_has}
use Rattle.log_ledger.specs.History.{ClosedLog, History, archived_in}
use Rattle.log_device.specs.Bears.{Bears}
use Rattle.log_device.specs.Keeps.{Keeps, Shows, IsClosedLog, log_name, old_name}
use Rattle.log_device.proofs.Bearing.{bears_same, bears_moved}
use Rattle.log_device.proofs.Lists.{passes, passed}

module _ (log : OpenLog) (u v : DiskView) (h : History) (ns : List ℕ) (keeps : Keeps log u h ns) (c : ClosedLog) (is_closed : Contains h.logs c)
    (flushed : IsWhollyFlushed h.kept.flushed c.entries) (over : Throughout (HasEitherName (log_name c.number) (old_name c.number) (ended_text c.number c.entries) u) 1 u v)
    (touches : TouchesBoth (log_name c.number) (old_name c.number) u v) where
  abbrev pub name : Name
  name = log_name c.number

  abbrev pub old : Name
  old = old_name c.number

  closed : IsClosedLog u c.number c.entries
  closed = (keeps.logs c is_closed).0

  low : c.number < log.name.number
  low = (keeps.logs c is_closed).1

  no_old : (m : Name) → m.kind ≡ kinds.Log → m ≢ old
  no_old m kind is = absurd (cc (sym kind ∙ ap (λ (n : Name). n.kind) is))

  log_apart : log.name ≢ name
  log_apart is = let at : log.name.number ≡ c.number = ap (λ (n : Name). n.number) is in omega (arith, at, low)

  has_in : (I : Files) → IsImageNow u I → HasText name c.entries (Some (length c.entries)) (content I name)
  has_in I there = ended_has name c.entries (content I name) closed.each (closed.file.durable I there)

  -- nothing happened
  as_before : (I J : Files) → IsImageNow u I → Same I J → Shows h.kept log.name h.current J
  as_before I J there same =
      let was = keeps.images I there in
      let has = has_in I there in
      record {
        like = like_same h.kept I J was.like (grown name (inl refl) I J (λ m far. same m) c.entries [] c.entries (sym (append-nil c.entries)) (inl (Some (length c.entries), has))
            (inl (Some (length c.entries), subst (λ (b : Option (List ℕ)). HasText name c.entries (Some (length c.entries)) b) (sym (same name)) has)) was.like.fit (none_fresh I));
        ended = was.ended;
        text = subst (λ (b : Option (List ℕ)). HasText log.name h.current was.ended b) (sym (same log.name)) was.text;
        up_to = λ m kind present. was.up_to m kind (λ none. present (same m ∙ none));
      }

  -- it moved
  moved : (I J : Files) → IsImageNow u I → IsAbsent J name → ((m : Name) → m ≢ name → m ≢ old → content J m ≡ content I m) → Shows h.kept log.name h.current J
  moved I J there gone same =
      let was = keeps.images I there in record {
        like = archived (record { kind = inl refl; others = λ m far kind. same m far (λ is. kind (ap (λ (n : Name). n.kind) is)); had = inl (Some (length c.entries), has_in I there); gone = gone }) h.kept flushed was.like;
        ended = was.ended;
        text = subst (λ (b : Option (List ℕ)). HasText log.name h.current was.ended b) (sym (same log.name log_apart (no_old log.name keeps.kind))) was.text;
        up_to = λ m kind present. elim (name_cases m name) as (λ _. (m.region ≡ 0) × (m.number ≤ log.name.number)) [
          | inl is ↦ absurd (present (subst (λ (n : Name). content J n ≡ None) (sym is) gone))
          | inr far ↦ was.up_to m kind (λ none. present (same m far (no_old m kind) ∙ none))
        ];
      }

  stays_in : (J : Files) (at : HasEitherName name old (ended_text c.number c.entries) u J) → Reads J name (ended_text c.number c.entries) → IsAbsent J old → Same at.base J
  stays_in J at reads none m = elim (name_cases m name) as (λ _. content J m ≡ content at.base m) [
    | inl is ↦ subst (λ (n : Name). content J n ≡ content at.base n) (sym is) (reads ∙ sym at.had)
    | inr far ↦ elim (name_cases m old) as (λ _. content J m ≡ content at.base m) [
      | inl is ↦ subst (λ (n : Name). content J n ≡ content at.base n) (sym is) (none ∙ sym at.free)
      | inr off ↦ at.elsewhere m far off
    ]
  ]

  image_of : (J : Files) → HasEitherName name old (ended_text c.number c.entries) u J → Shows h.kept log.name h.current J
  image_of J at = elim at.here as (λ _. Shows h.kept log.name h.current J) [
    | inl stays ↦ as_before at.base J at.was (stays_in J at stays.0 stays.1)
    | inr moves ↦ moved at.base J at.was moves.0 at.elsewhere
  ]

  names_of : (J : Files) → HasEitherName name old (ended_text c.number c.entries) u J → Bears h.kept.base ns log.name.number J
  names_of J at = elim at.here as (λ _. Bears h.kept.base ns log.name.number J) [
    | inl stays ↦ bears_same h.kept.base ns log.name.number at.base J (stays_in J at stays.0 stays.1) (keeps.names at.base at.was)
    | inr moves ↦ bears_moved h.kept.base ns log.name.number c.number at.base J low moves.0 at.elsewhere (keeps.names at.base at.was)
  ]

  now_either : (J : Files) → IsImageNow v J → HasEitherName name old (ended_text c.number c.entries) u J
  now_either = at_end (HasEitherName name old (ended_text c.number c.entries) u) 1 u v over

  pub rename_names : Throughout (Bears h.kept.base ns log.name.number) 1 u v
  rename_names = weaker (HasEitherName name old (ended_text c.number c.entries) u) (Bears h.kept.base ns log.name.number) 1 u v names_of over

  pub rename_moments : Throughout (Shows h.kept log.name h.current) 1 u v
  rename_moments = weaker (HasEitherName name old (ended_text c.number c.entries) u) (Shows h.kept log.name h.current) 1 u v image_of over

  -- another log stays durable
  still : (m : Name) (bytes : List ℕ) → m.kind ≡ kinds.Log → m ≢ name → IsDurableFile u m bytes → IsDurableFile v m bytes
  still m bytes kind far file = record {
    reads = touches.others m far (no_old m kind) ∙ file.reads;
    durable = λ J now.
        let at = now_either J now in
        at.elsewhere m far (no_old m kind) ∙ file.durable at.base at.was;
    unmoved = λ n former. elim (touches.formerly m n former) as (λ _. ⊥) [
      | inl before ↦ file.unmoved n before
      | inr new ↦ no_old m kind new.0
    ];
  }

  abbrev pub left : List ClosedLog
  left = (archived_in h c.number).logs

  other_number : (b : Bool) → not b ≡ true → b ≡ false
  other_number true is = sym is
  other_number false is = refl

  left_is : (d : ClosedLog) → Contains left d → Contains h.logs d × (d.number ≢ c.number)
  left_is d member =
      let was = passed (λ (x : ClosedLog). not (x.number == c.number)) h.logs d member in
      (was.0, λ same. absurd (cc (sym (other_number (d.number == c.number) was.1) ∙ eq-eqb d.number c.number same)))

  stays_left : (d : ClosedLog) → Contains h.logs d → d.number ≢ c.number → Contains left d
  stays_left d member differs = passes (λ (x : ClosedLog). not (x.number == c.number)) h.logs d member (grind (arith, nat_tests))

  number_apart : (n : ℕ) → n ≢ c.number → log_name n ≢ name
  number_apart n differs is = differs (ap (λ (m : Name). m.number) is)

  module _ (renamed : Renamed name old u.files v.files) where
    present_was : (m : Name) → m ≢ name → m ≢ old → IsPresent v.files m → IsPresent u.files m
    present_was m far off there none = there (touches.others m far off ∙ none)

    pub archived_kept : Keeps log v (archived_in h c.number) ns
    archived_kept = record {
      kind = keeps.kind;
      region = keeps.region;
      open_log = record { each = keeps.open_log.each; file = still log.name (at_rest log.name.number h.current) keeps.kind log_apart keeps.open_log.file; gate = keeps.open_log.gate; count = keeps.open_log.count };
      staged = keeps.staged;
      orderly = keeps.orderly;
      images = λ J now. image_of J (now_either J now);
      names = λ J now. names_of J (now_either J now);
      served = keeps.served;
      few = keeps.few;
      logs = λ d member.
          let was = left_is d member in
          let l = keeps.logs d was.0 in
          (record { each = l.0.each; file = still (log_name d.number) (ended_text d.number d.entries) refl (number_apart d.number was.1) l.0.file }, l.1);
      one = λ d e d_in e_in. keeps.one d e (left_is d d_in).0 (left_is e e_in).0;
      there = λ m kind there. elim (name_cases m name) as (λ _. (m ≡ log.name) ⊎ ((d : ClosedLog) × Contains left d × (log_name d.number ≡ m))) [
        | inl is ↦ absurd (there (subst (λ (n : Name). content v.files n ≡ None) (sym is) renamed.left))
        | inr far ↦ elim (keeps.there m kind (present_was m far (no_old m kind) there)) as (λ _. (m ≡ log.name) ⊎ ((d : ClosedLog) × Contains left d × (log_name d.number ≡ m))) [
          | inl is ↦ inl is
          | inr one ↦ inr (one.0, stays_left one.0 one.1 (λ same. far (sym one.2 ∙ ap log_name same)), one.2)
        ]
      ];
      gone = λ m is. elim (touches.gone m is) as (λ _. (m.kind ≡ kinds.Log) × (m.region ≡ 0) × (m.number < log.name.number)) [
        | inl before ↦ keeps.gone m before
        | inr at ↦ let number : m.number ≡ c.number = ap (λ (n : Name). n.number) at in (ap (λ (n : Name). n.kind) at, ap (λ (n : Name). n.region) at, omega (arith, number, low))
      ];
      olds = λ m kind there. elim (name_cases m old) as (λ _. (m.number < log.name.number) × ((d : ClosedLog) → Contains left d → d.number ≢ m.number)) [
        | inl is ↦ let number : m.number ≡ c.number = ap (λ (n : Name). n.number) is in (omega (arith, number, low), λ d member same. (left_is d member).1 (same ∙ number))
        | inr off ↦ let o = keeps.olds m kind (present_was m (λ is. absurd (cc (sym kind ∙ ap (λ (n : Name). n.kind) is))) off there) in (o.0, λ d member. o.1 d (left_is d member).0)
      ];
      stores = λ m kind there. keeps.stores m kind (present_was m (λ is. absurd (cc (sym kind ∙ ap (λ (n : Name). n.kind) is))) (λ is. absurd (cc (sym kind ∙ ap (λ (n : Name). n.kind) is))) there);
      found = keeps.found;
    }

-- the old name is free
pub old_free : (log : OpenLog) (u : DiskView) (h : History) (ns : List ℕ) (c : ClosedLog) → Keeps log u h ns → Contains h.logs c → IsAbsent u.files (old_name c.number) × (¬ u.gone (old_name c.number))
old_free log u h ns c keeps member = (none_there (content u.files (old_name c.number)) refl, λ gone. absurd (cc ((keeps.gone (old_name c.number) gone).0)))
  where
    none_there : (image : Option (List ℕ)) → content u.files (old_name c.number) ≡ image → content u.files (old_name c.number) ≡ None
    none_there None is = is
    none_there (Some bytes) is = absurd ((keeps.olds (old_name c.number) refl (λ none. absurd (cc (sym none ∙ is)))).1 c member refl)
