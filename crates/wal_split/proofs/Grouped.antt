-- Entries go to the edits files of their regions.
use Rattle.std.proofs.Common.{◌≡◌, ◌≢◌, inl, inr, ℕ, Bool, cond, ◌+◌, ◌-◌, ◌<◌, ◌≤◌, List, [], ◌∷◌, ◌++◌, get_or, Contains, slice_set, refl, sym, ap, ◌∙◌, subst, arith, get_or-set_other, get_or-set_same}
use Rattle.std.proofs.Math.ListN.{length-set}
use Rattle.std.proofs.lemmas.Bool.{cases_eq, eq-eqb, ne_eqb}
use Rattle.std.proofs.lemmas.List.{append-nil}
use Rattle.std.proofs.lemmas.List.Elements.{Contains-append_left, Contains-push, Contains-push_cases, filter-append}
use Rattle.log_model.specs.Entry.{Entry, IsEntry}
use Rattle.log_model.specs.Recovered.{is_of, entries_of}
use Rattle.wal_split.specs.declared.job.EditsJob.{EditsJob}
use Rattle.wal_split.specs.Grouped.{edits_name, AreJobsOf, AddsTo}

-- the entries of a region, with one entry more
pub of_more : (r : ℕ) (entries : List Entry) (entry : Entry) → entries_of r (entries ++ entry ∷ []) ≡ entries_of r entries ++ cond (is_of r entry) (entry ∷ []) []
of_more r entries entry = filter-append (is_of r) entries (entry ∷ [])

module _ (entries : List Entry) (number : ℕ) (old new : List EditsJob) (entry : Entry) (are : AreJobsOf entries number old) (given : 1 ≤ entry.region) (low : entry.region ≤ 64) (valid : IsEntry entry) (adds : AddsTo entry old new) where
  abbrev at : ℕ
  at = entry.region - 1

  abbrev now : List EditsJob
  now = slice_set old at adds.0

  here : (k : ℕ) (d : EditsJob) → k ≡ at → get_or now k d ≡ adds.0
  here k d is = ap (λ (i : ℕ). get_or now i d) is ∙ get_or-set_same old at adds.0 d (omega (arith, given, low, are.long))

  elsewhere : (k : ℕ) (d : EditsJob) → k ≢ at → get_or now k d ≡ get_or old k d
  elsewhere k d other = get_or-set_other old at k adds.0 d other

  pub one_grouped : AreJobsOf (entries ++ entry ∷ []) number new
  one_grouped = subst (λ (l : List EditsJob). AreJobsOf (entries ++ entry ∷ []) number l) (sym adds.1) (record {
    long = length-set old at adds.0 ∙ are.long;
    names = λ k d lt. elim (cases_eq k at) as (λ _. (get_or now k d).name ≡ edits_name (k + 1) number) [
      | inl is ↦ ap (λ (j : EditsJob). j.name) (here k d is) ∙ (adds.2 d).0 ∙ ap (λ (i : ℕ). (get_or old i d).name) (sym is) ∙ are.names k d lt
      | inr other ↦ ap (λ (j : EditsJob). j.name) (elsewhere k d other) ∙ are.names k d lt
    ];
    each = λ k d e lt has. elim (cases_eq k at) as (λ _. Contains (entries ++ entry ∷ []) e × (e.region ≡ k + 1) × IsEntry e) [
      | inl is ↦ elim (Contains-push_cases (get_or old at d).entries.items entry e (subst (λ (l : List Entry). Contains l e) (ap (λ (j : EditsJob). j.entries.items) (here k d is) ∙ (adds.2 d).1) has)) as (λ _. Contains (entries ++ entry ∷ []) e × (e.region ≡ k + 1) × IsEntry e) [
        | inl before ↦ (let r = are.each k d e lt (subst (λ (i : ℕ). Contains (get_or old i d).entries.items e) (sym is) before) in (Contains-append_left entries (entry ∷ []) e r.0, r.1, r.2))
        | inr this ↦ subst (λ (x : Entry). Contains (entries ++ entry ∷ []) x × (x.region ≡ k + 1) × IsEntry x) this (Contains-push entries entry, omega (arith, is, given), valid)
      ]
      | inr other ↦ (let r = are.each k d e lt (subst (λ (j : EditsJob). Contains j.entries.items e) (elsewhere k d other) has) in (Contains-append_left entries (entry ∷ []) e r.0, r.1, r.2))
    ];
    are = λ k d lt. elim (cases_eq k at) as (λ _. (get_or now k d).entries.items ≡ entries_of (k + 1) (entries ++ entry ∷ [])) [
      | inl is ↦ ap (λ (j : EditsJob). j.entries.items) (here k d is) ∙ (adds.2 d).1 ∙ ap (λ (i : ℕ). (get_or old i d).entries.items ++ entry ∷ []) (sym is) ∙ ap (λ (l : List Entry). l ++ entry ∷ []) (are.are k d lt)
          ∙ sym (of_more (k + 1) entries entry ∙ ap (λ (b : Bool). entries_of (k + 1) entries ++ cond b (entry ∷ []) []) (eq-eqb entry.region (k + 1) (omega (arith, is, given))))
      | inr other ↦ ap (λ (j : EditsJob). j.entries.items) (elsewhere k d other) ∙ are.are k d lt
          ∙ sym (of_more (k + 1) entries entry ∙ ap (λ (b : Bool). entries_of (k + 1) entries ++ cond b (entry ∷ []) []) (ne_eqb entry.region (k + 1) (λ is. other (omega (arith, is, given)))) ∙ append-nil (entries_of (k + 1) entries))
    ];
    all = λ e has. elim (Contains-push_cases entries entry e has) as (λ _. (k : ℕ) × (k < 64) × ((d : EditsJob) → Contains (get_or now k d).entries.items e)) [
      | inl before ↦ (let r = are.all e before in (
        r.0,
        r.1,
        λ d. elim (cases_eq r.0 at) as (λ _. Contains (get_or now r.0 d).entries.items e) [
          | inl is ↦ subst (λ (l : List Entry). Contains l e) (sym (ap (λ (j : EditsJob). j.entries.items) (here r.0 d is) ∙ (adds.2 d).1)) (Contains-append_left (get_or old at d).entries.items (entry ∷ []) e (subst (λ (i : ℕ). Contains (get_or old i d).entries.items e) is (r.2 d)))
          | inr other ↦ subst (λ (j : EditsJob). Contains j.entries.items e) (sym (elsewhere r.0 d other)) (r.2 d)
        ],
      ))
      | inr this ↦ (at, omega (arith, given, low), λ d. subst (λ (l : List Entry). Contains l e) (sym (ap (λ (j : EditsJob). j.entries.items) (here at d refl) ∙ (adds.2 d).1)) (subst (λ (x : Entry). Contains ((get_or old at d).entries.items ++ entry ∷ []) x) this (Contains-push (get_or old at d).entries.items entry)))
    ];
  })
