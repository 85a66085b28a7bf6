-- The names of a store's files tell which logs are there.
use Rattle.std.proofs.Common.{◌≡◌, ◌⊎◌, inl, inr, ℕ, true, cond, List, Option, Some, None, is_some, refl, sym, ap, ◌∙◌, subst}
use Rattle.std.specs.FinMap.{keys}
use Rattle.std.proofs.lemmas.Bool.{cases_Bool, cond-true, cond-false}
use Rattle.cell_model.specs.Join.{or_else}
use Rattle.log_model.specs.declared.name.Name.{Name}
use Rattle.log_model.specs.declared.name.NameKind.{NameKind}
use Rattle.log_model.specs.declared.name.NameKind.TheVariants as kinds
use Rattle.log_model.specs.Files.{Files, content, Reads, IsName, IsPresent}
use Rattle.disk_images.proofs.Settled.{among_names, read_of, present_cases}
use Rattle.chronicle_model.specs.Chronicle.{log_name, old_name}
use Rattle.log_tail.specs.Reads.{HasHigher, HasNoLog, IsCounted}
use Rattle.log_tail.specs.declared.finding.Seen.{Seen}
use Rattle.log_tail.specs.Found.{HasName, HasHigherName, HasSeen, IsTheCounted, HasFound, counted_name}

pub some_or : (a b : Option (List ℕ)) (c : List ℕ) → a ≡ Some c → or_else a b ≡ Some c
some_or None b c is = absurd (cc is)
some_or (Some x) b c is = is

pub none_or : (a b : Option (List ℕ)) → a ≡ None → or_else a b ≡ b
none_or None b is = refl
none_or (Some x) b is = absurd (cc is)

-- either has what the first or the second has
pub one_of_both : (a b : Option (List ℕ)) (c : List ℕ) → or_else a b ≡ Some c → (a ≡ Some c) ⊎ (b ≡ Some c)
one_of_both None b c is = inr is
one_of_both (Some x) b c is = inl is

-- what is in one of them is in either
in_either : (a b : Option (List ℕ)) (c : List ℕ) → b ≡ Some c → (d : List ℕ) × (or_else a b ≡ Some d)
in_either None b c is = (c, is)
in_either (Some x) b c is = (x, refl)

pub some_there : (files : Files) (m : Name) (c : List ℕ) → Reads files m c → IsPresent files m
some_there files m c reads none = absurd (cc (sym none ∙ reads))

named_so : (m : Name) (kind : NameKind) (number : ℕ) → m.kind ≡ kind → m.region ≡ 0 → m.number ≡ number → m ≡ record { kind = kind; region = 0; number = number }
named_so m kind number k r n i = record { kind = k i; region = r i; number = n i }

module _ (files : Files) (named : (m : Name) → is_some (content files m) ≡ true → IsName m) where
  -- a log that is among the names reads as some bytes under its number's name
  log_reads : (n : ℕ) → HasName (keys files) kinds.Log n → (c : List ℕ) × Reads files (log_name n) c
  log_reads n (m, has, kind, number) =
      let r = read_of files m has in
      let is = named_so m kinds.Log n kind (named m (ap is_some r.1) (inl kind)) number in
      (r.0, subst (λ (x : Name). Reads files x r.0) is r.1)

  old_reads : (n : ℕ) → HasName (keys files) kinds.Old n → (c : List ℕ) × Reads files (old_name n) c
  old_reads n (m, has, kind, number) =
      let r = read_of files m has in
      let is = named_so m kinds.Old n kind (named m (ap is_some r.1) (inr kind)) number in
      (r.0, subst (λ (x : Name). Reads files x r.0) is r.1)

  log_is_named : (n : ℕ) (c : List ℕ) → Reads files (log_name n) c → HasName (keys files) kinds.Log n
  log_is_named n c reads = (log_name n, among_names files (log_name n) (some_there files (log_name n) c reads), refl, refl)

  old_is_named : (n : ℕ) (c : List ℕ) → Reads files (old_name n) c → HasName (keys files) kinds.Old n
  old_is_named n c reads = (old_name n, among_names files (old_name n) (some_there files (old_name n) c reads), refl, refl)

  pub higher_there : (n : ℕ) → HasHigherName (keys files) n → HasHigher files n
  higher_there n (m, has, inl log, above) =
      let r = log_reads m.number (m, has, log, refl) in
      (m.number, above, (r.0, some_or (content files (log_name m.number)) (content files (old_name m.number)) r.0 r.1))
  higher_there n (m, has, inr old, above) =
      let r = old_reads m.number (m, has, old, refl) in
      (m.number, above, in_either (content files (log_name m.number)) (content files (old_name m.number)) r.0 r.1)

  pub higher_named : (n : ℕ) → HasHigher files n → HasHigherName (keys files) n
  higher_named n (higher, above, (c, is)) = elim (one_of_both (content files (log_name higher)) (content files (old_name higher)) c is) as (λ _. HasHigherName (keys files) n) [
    | inl log ↦ (log_name higher, among_names files (log_name higher) (some_there files (log_name higher) c log), inl refl, above)
    | inr old ↦ (old_name higher, among_names files (old_name higher) (some_there files (old_name higher) c old), inr refl, above)
  ]

  pub log_counts : (n : ℕ) → HasName (keys files) kinds.Log n → IsCounted files n (log_name n) × ((c : List ℕ) × Reads files (log_name n) c)
  log_counts n has = (inl refl, log_reads n has)

  none_named : (n : ℕ) → (HasName (keys files) kinds.Log n → ⊥) → content files (log_name n) ≡ None
  none_named n none = elim (present_cases files (log_name n)) as (λ _. content files (log_name n) ≡ None) [ inl absent ↦ absent | inr some ↦ absurd (none (log_is_named n some.0 some.1)) ]

  pub old_counts : (n : ℕ) → (HasName (keys files) kinds.Log n → ⊥) → HasName (keys files) kinds.Old n → IsCounted files n (old_name n) × ((c : List ℕ) × Reads files (old_name n) c)
  old_counts n none has = (inr (none_named n none, refl), old_reads n has)

  pub neither_counts : (n : ℕ) → (HasName (keys files) kinds.Log n → ⊥) → (HasName (keys files) kinds.Old n → ⊥) → HasNoLog files n
  neither_counts n none none_old =
      let absent : content files (old_name n) ≡ None =
      elim (present_cases files (old_name n)) as (λ _. content files (old_name n) ≡ None) [ inl absent ↦ absent | inr some ↦ absurd (none_old (old_is_named n some.0 some.1)) ] in
      none_or (content files (log_name n)) (content files (old_name n)) (none_named n none) ∙ absent

  -- what was seen among the names is what is found
  pub found_so : (n : ℕ) (s : Seen) → HasSeen (keys files) n s → HasFound files n (record { name = counted_name s n; has_higher = s.has_higher })
  found_so n s seen = record {
    name = elim (cases_Bool s.has_log) as (λ _. IsTheCounted files n (counted_name s n)) [
      | inl log ↦ subst (IsTheCounted files n) (sym (cond-true s.has_log (Some (log_name n)) (cond s.has_old (Some (old_name n)) None) log)) (log_counts n (seen.log.0 log))
      | inr no_log ↦ subst (IsTheCounted files n) (sym (cond-false s.has_log (Some (log_name n)) (cond s.has_old (Some (old_name n)) None) no_log))
          (elim (cases_Bool s.has_old) as (λ _. IsTheCounted files n (cond s.has_old (Some (old_name n)) None)) [
            | inl old ↦ subst (IsTheCounted files n) (sym (cond-true s.has_old (Some (old_name n)) None old)) (old_counts n (λ has. absurd (cc (sym no_log ∙ seen.log.1 has))) (seen.old.0 old))
            | inr no_old ↦ subst (IsTheCounted files n) (sym (cond-false s.has_old (Some (old_name n)) None no_old))
                (neither_counts n (λ has. absurd (cc (sym no_log ∙ seen.log.1 has))) (λ has. absurd (cc (sym no_old ∙ seen.old.1 has))))
          ])
    ];
    higher = ((λ is. higher_there n (seen.higher.0 is)), (λ has. seen.higher.1 (higher_named n has)));
  }
