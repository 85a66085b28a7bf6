-- Which entries are not flushed.
use Rattle.std.proofs.Common.{◌≡◌, ◌≢◌, ◌⊎◌, ◌↔◌, inl, inr, ℕ, ◌<◌, ◌≤◌, Bool, true, List, [], ◌∷◌, ◌++◌, length, get_or, Contains, refl, sym, ap, ◌∙◌, subst, arith, length-append}
use Rattle.std.specs.declared.cmp.Ordering.{Ordering}
use Rattle.std.specs.declared.cmp.Ordering.TheVariants.{Less}
use Rattle.std.proofs.lemmas.Bool.{cases_Bool, cases_eq, cases_lt}
use Rattle.std.proofs.lemmas.List.Elements.{Contains-append_left, Contains-push, Contains-push_cases, Contains-get_or, at_from_Contains}
use Rattle.std.proofs.lemmas.List.Quantifiers.{all_pairs_push}
use Rattle.std.proofs.lemmas.List.{get_or_append_left}
use Rattle.std.proofs.Math.Seq.{get_or-append_seam}
use Rattle.std.specs.Ordering.{nat_cmp, ordering_then}
use Rattle.log_model.specs.declared.name.NameKind.{NameKind}
use Rattle.log_model.specs.declared.name.NameKind.TheVariants as kinds
use Rattle.log_model.specs.Entry.{Entry, IsEntry}
use Rattle.log_model.specs.Files.{rank_of}
use Rattle.found_files.specs.declared.found.FoundEntry.{FoundEntry}
use Rattle.found_files.specs.Sorted.{IsOfSame, IsUpTo, AreOrdered, AllAgree}
use Rattle.found_files.proofs.Agreement.{region_up, number_up}
use Rattle.found_files.proofs.Placing.{none_in}
use Rattle.wal_split.specs.declared.flushed.RegionFlushed.{RegionFlushed}
use Rattle.wal_split.specs.declared.gathered.Unflushed.{Unflushed}
use Rattle.wal_split.specs.Unflushed.{AreUnflushedOf, IsNew, IsAbove, IsBefore, Adds}

-- what stands before another in order is up to it
pub up_to_next : (xs ys rest : List FoundEntry) (x z : FoundEntry) → AreOrdered xs → xs ≡ ys ++ x ∷ rest → Contains ys z → IsUpTo z x
up_to_next xs ys rest x z ordered is has =
    let p = at_from_Contains ys z has in
    let long : length xs ≡ length (ys ++ x ∷ rest) = ap length is in
    let here : IsUpTo (get_or xs p.0 x) (get_or xs (length ys) x) = ordered p.0 (length ys) x (omega (arith, p.1)) (omega (arith, long, length-append ys (x ∷ rest))) in
    let first : get_or xs p.0 x ≡ z = ap (λ (l : List FoundEntry). get_or l p.0 x) is ∙ get_or_append_left ys (x ∷ rest) x p.0 p.1 ∙ p.2 x in
    let second : get_or xs (length ys) x ≡ x = ap (λ (l : List FoundEntry). get_or l (length ys) x) is ∙ get_or-append_seam ys x rest x in
    subst (λ (w : FoundEntry). IsUpTo w x) first (subst (λ (w : FoundEntry). IsUpTo (get_or xs p.0 x) w) second here)

pub agree_next : (xs ys rest : List FoundEntry) (x z : FoundEntry) → AllAgree xs → xs ≡ ys ++ x ∷ rest → Contains ys z → IsOfSame z x → z.entry ≡ x.entry
agree_next xs ys rest x z agree is has same =
    let p = at_from_Contains ys z has in
    let long : length xs ≡ length (ys ++ x ∷ rest) = ap length is in
    let first : get_or xs p.0 x ≡ z = ap (λ (l : List FoundEntry). get_or l p.0 x) is ∙ get_or_append_left ys (x ∷ rest) x p.0 p.1 ∙ p.2 x in
    let second : get_or xs (length ys) x ≡ x = ap (λ (l : List FoundEntry). get_or l (length ys) x) is ∙ get_or-append_seam ys x rest x in
    let within : length ys < length xs = omega (arith, long, length-append ys (x ∷ rest)) in
    let here : (get_or xs p.0 x).entry ≡ (get_or xs (length ys) x).entry = agree p.0 (length ys) x (omega (arith, p.1, within)) within (
      ap (λ (w : FoundEntry). w.entry.region) first ∙ same.0 ∙ sym (ap (λ (w : FoundEntry). w.entry.region) second),
      ap (λ (w : FoundEntry). w.entry.number) first ∙ same.1 ∙ sym (ap (λ (w : FoundEntry). w.entry.number) second),
    ) in
    sym (ap (λ (w : FoundEntry). w.entry) first) ∙ here ∙ ap (λ (w : FoundEntry). w.entry) second

first_kind : (k j : NameKind) (rest : Ordering) → k ≡ kinds.Log → ordering_then (nat_cmp (rank_of k) (rank_of j)) rest ≢ Less → j ≡ kinds.Log
first_kind k kinds.Log rest is not = refl
first_kind k kinds.Old rest is not = absurd (not (ap (λ (x : NameKind). ordering_then (nat_cmp (rank_of x) 1) rest) is))
first_kind k kinds.Store rest is not = absurd (not (ap (λ (x : NameKind). ordering_then (nat_cmp (rank_of x) 2) rest) is))
first_kind k kinds.Edits rest is not = absurd (not (ap (λ (x : NameKind). ordering_then (nat_cmp (rank_of x) 3) rest) is))

log_or_not : (k : NameKind) → (k ≡ kinds.Log) ⊎ (k ≢ kinds.Log)
log_or_not kinds.Log = inl refl
log_or_not kinds.Old = inr (λ is. absurd (cc is))
log_or_not kinds.Store = inr (λ is. absurd (cc is))
log_or_not kinds.Edits = inr (λ is. absurd (cc is))

-- of two entries of one region and number in order, the first stands in a log where the second does
log_first : (y x : FoundEntry) → IsUpTo y x → IsOfSame y x → x.name.kind ≡ kinds.Log → y.name.kind ≡ kinds.Log
log_first y x (inl less) same log = absurd (omega (arith, less, same.0))
log_first y x (inr (region, inl less)) same log = absurd (omega (arith, less, same.1))
log_first y x (inr (region, inr (number, not))) same log = first_kind x.name.kind y.name.kind (ordering_then (nat_cmp x.name.region y.name.region) (nat_cmp x.name.number y.name.number)) log not

pub record Going (ys : List FoundEntry) (flushed : List RegionFlushed) (region number : ℕ) (ls ks : List Entry) : Type 0 where
  pub parts : AreUnflushedOf ys flushed ls ks
  pub last : (ys ≡ []) × (region ≡ 0) ⊎ ((y : FoundEntry) × Contains ys y × (y.entry.region ≡ region) × (y.entry.number ≡ number))
  pub upto : (z : FoundEntry) → Contains ys z → (z.entry.region ≤ region) × (z.entry.region ≡ region → z.entry.number ≤ number)

module _ (ys : List FoundEntry) (flushed : List RegionFlushed) (region number : ℕ) (x : FoundEntry) (old new : Unflushed) (so_far : Going ys flushed region number old.logged.items old.kept.items)
    (ups : (z : FoundEntry) → Contains ys z → IsUpTo z x) (agree : (z : FoundEntry) → Contains ys z → IsOfSame z x → z.entry ≡ x.entry) (valid : IsEntry x.entry) where
  abbrev ls : List Entry
  ls = old.logged.items

  abbrev ks : List Entry
  ks = old.kept.items

  abbrev zs : List FoundEntry
  zs = ys ++ x ∷ []

  more : (z : FoundEntry) → Contains ys z → Contains zs z
  more z has = Contains-append_left ys (x ∷ []) z has

  last_now : (zs ≡ []) × (x.entry.region ≡ 0) ⊎ ((y : FoundEntry) × Contains zs y × (y.entry.region ≡ x.entry.region) × (y.entry.number ≡ x.entry.number))
  last_now = inr (x, Contains-push ys x, refl, refl)

  upto_now : (z : FoundEntry) → Contains zs z → (z.entry.region ≤ x.entry.region) × (z.entry.region ≡ x.entry.region → z.entry.number ≤ x.entry.number)
  upto_now z has = elim (Contains-push_cases ys x z has) as (λ _. (z.entry.region ≤ x.entry.region) × (z.entry.region ≡ x.entry.region → z.entry.number ≤ x.entry.number)) [
    | inl before ↦ (region_up z x (ups z before), number_up z x (ups z before))
    | inr is ↦ (omega (arith, ap (λ (w : FoundEntry). w.entry.region) is), λ same. omega (arith, ap (λ (w : FoundEntry). w.entry.number) is))
  ]

  logs_more : (e : Entry) → Contains ls e → (z : FoundEntry) × Contains zs z × (z.entry ≡ e) × (z.name.kind ≡ kinds.Log) × IsAbove flushed e
  logs_more e has = (let r = so_far.parts.from_logs e has in (r.0, more r.0 r.1, r.2, r.3, r.4))

  edits_more : (e : Entry) → Contains ks e → (z : FoundEntry) × Contains zs z × (z.entry ≡ e) × (z.name.kind ≢ kinds.Log) × IsAbove flushed e
  edits_more e has = (let r = so_far.parts.from_edits e has in (r.0, more r.0 r.1, r.2, r.3, r.4))

  module _ (is_new : IsNew x region number flushed) where
    before : (z : FoundEntry) → Contains ys z → IsBefore z.entry x.entry
    before z has = elim (cases_lt z.entry.region x.entry.region) as (λ _. IsBefore z.entry x.entry) [
      | inl less ↦ inl less
      | inr not ↦
          let z_up = so_far.upto z has in
          let x_above = elim so_far.last as (λ _. (region ≤ x.entry.region) × (x.entry.region ≡ region → number ≤ x.entry.number)) [
            | inl (none, zero) ↦ absurd (none_in z (subst (λ (l : List FoundEntry). Contains l z) none has))
            | inr (y, in_it, y_region, y_number) ↦ (omega (arith, y_region, region_up y x (ups y in_it)), λ same. omega (arith, y_number, number_up y x (ups y in_it) (y_region ∙ sym same)))
          ] in
          let one : x.entry.region ≡ region = omega (arith, not, z_up.0, x_above.0) in
          let here : z.entry.region ≡ region = omega (arith, not, z_up.0, x_above.0) in
          let apart : x.entry.number ≢ number = is_new.0 one in
          inr (here ∙ sym one, strict (z_up.1 here) (x_above.1 one) apart)
    ]
      where
        strict : {a b c : ℕ} → a ≤ b → b ≤ c → c ≢ b → a < c
        strict {a} {b} {c} h k not = elim (cases_lt a c) as (λ _. a < c) [ inl less ↦ less | inr more ↦ absurd (not (omega (arith, h, k, more))) ]

    logs_before : (e : Entry) → Contains ls e → IsBefore e x.entry
    logs_before e has = (let r = so_far.parts.from_logs e has in subst (λ (d : Entry). IsBefore d x.entry) r.2 (before r.0 r.1))

    edits_before : (e : Entry) → Contains ks e → IsBefore e x.entry
    edits_before e has = (let r = so_far.parts.from_edits e has in subst (λ (d : Entry). IsBefore d x.entry) r.2 (before r.0 r.1))

    not_same : (d : Entry) → IsBefore d x.entry → d.region ≡ x.entry.region → d.number ≢ x.entry.number
    not_same d (inl less) region same = omega (arith, less, region)
    not_same d (inr (region, less)) is same = omega (arith, less, same)

    added_logged : x.name.kind ≡ kinds.Log → AreUnflushedOf zs flushed (ls ++ x.entry ∷ []) ks
    added_logged log = record {
      from_logs = λ e has. elim (Contains-push_cases ls x.entry e has) as (λ _. (z : FoundEntry) × Contains zs z × (z.entry ≡ e) × (z.name.kind ≡ kinds.Log) × IsAbove flushed e) [
        | inl was ↦ logs_more e was
        | inr is ↦ (x, Contains-push ys x, is, log, subst (λ (d : Entry). IsAbove flushed d) is is_new.1)
      ];
      from_edits = edits_more;
      all = λ z has above. elim (Contains-push_cases ys x z has) as (λ _. Contains (ls ++ x.entry ∷ []) z.entry ⊎ Contains ks z.entry) [
        | inl was ↦ elim (so_far.parts.all z was above) as (λ _. Contains (ls ++ x.entry ∷ []) z.entry ⊎ Contains ks z.entry) [ inl l ↦ inl (Contains-append_left ls (x.entry ∷ []) z.entry l) | inr k ↦ inr k ]
        | inr is ↦ inl (subst (λ (w : FoundEntry). Contains (ls ++ x.entry ∷ []) w.entry) is (Contains-push ls x.entry))
      ];
      all_logged = λ z has kind above. elim (Contains-push_cases ys x z has) as (λ _. Contains (ls ++ x.entry ∷ []) z.entry) [
        | inl was ↦ Contains-append_left ls (x.entry ∷ []) z.entry (so_far.parts.all_logged z was kind above)
        | inr is ↦ subst (λ (w : FoundEntry). Contains (ls ++ x.entry ∷ []) w.entry) is (Contains-push ls x.entry)
      ];
      logged_rise = all_pairs_push IsBefore ls x.entry so_far.parts.logged_rise (λ k d lt. logs_before (get_or ls k d) (Contains-get_or ls k d lt));
      kept_rise = so_far.parts.kept_rise;
      apart = λ d e has in_kept same. elim (Contains-push_cases ls x.entry d has) as (λ _. d.number ≢ e.number) [
        | inl was ↦ so_far.parts.apart d e was in_kept same
        | inr is ↦ λ number. not_same e (edits_before e in_kept) (sym same ∙ sym (ap (λ (w : Entry). w.region) is)) (sym number ∙ sym (ap (λ (w : Entry). w.number) is))
      ];
    }

    added_kept : x.name.kind ≢ kinds.Log → AreUnflushedOf zs flushed ls (ks ++ x.entry ∷ [])
    added_kept other = record {
      from_logs = logs_more;
      from_edits = λ e has. elim (Contains-push_cases ks x.entry e has) as (λ _. (z : FoundEntry) × Contains zs z × (z.entry ≡ e) × (z.name.kind ≢ kinds.Log) × IsAbove flushed e) [
        | inl was ↦ edits_more e was
        | inr is ↦ (x, Contains-push ys x, is, other, subst (λ (d : Entry). IsAbove flushed d) is is_new.1)
      ];
      all = λ z has above. elim (Contains-push_cases ys x z has) as (λ _. Contains ls z.entry ⊎ Contains (ks ++ x.entry ∷ []) z.entry) [
        | inl was ↦ elim (so_far.parts.all z was above) as (λ _. Contains ls z.entry ⊎ Contains (ks ++ x.entry ∷ []) z.entry) [ inl l ↦ inl l | inr k ↦ inr (Contains-append_left ks (x.entry ∷ []) z.entry k) ]
        | inr is ↦ inr (subst (λ (w : FoundEntry). Contains (ks ++ x.entry ∷ []) w.entry) is (Contains-push ks x.entry))
      ];
      all_logged = λ z has kind above. elim (Contains-push_cases ys x z has) as (λ _. Contains ls z.entry) [
        | inl was ↦ so_far.parts.all_logged z was kind above
        | inr is ↦ absurd (other (ap (λ (w : FoundEntry). w.name.kind) is ∙ kind))
      ];
      logged_rise = so_far.parts.logged_rise;
      kept_rise = all_pairs_push IsBefore ks x.entry so_far.parts.kept_rise (λ k d lt. edits_before (get_or ks k d) (Contains-get_or ks k d lt));
      apart = λ d e in_logged has same. elim (Contains-push_cases ks x.entry e has) as (λ _. d.number ≢ e.number) [
        | inl was ↦ so_far.parts.apart d e in_logged was same
        | inr is ↦ λ number. not_same d (logs_before d in_logged) (same ∙ sym (ap (λ (w : Entry). w.region) is)) (number ∙ sym (ap (λ (w : Entry). w.number) is))
      ];
    }

  module _ (not_new : ¬ IsNew x region number flushed) where
    -- one of the same region and number stands before
    same_before : IsAbove flushed x.entry → (y : FoundEntry) × Contains ys y × IsOfSame y x
    same_before above =
        elim (cases_eq x.entry.region region) as (λ _. (y : FoundEntry) × Contains ys y × IsOfSame y x) [
          | inr other ↦ absurd (not_new ((λ is. absurd (other is)), above))
          | inl one ↦ elim (cases_eq x.entry.number number) as (λ _. (y : FoundEntry) × Contains ys y × IsOfSame y x) [
            | inr other ↦ absurd (not_new ((λ is. other), above))
            | inl two ↦ elim so_far.last as (λ _. (y : FoundEntry) × Contains ys y × IsOfSame y x) [
              | inl (none, zero) ↦ absurd (omega (arith, one, zero, valid.region_given))
              | inr (y, in_it, y_region, y_number) ↦ (y, in_it, (y_region ∙ sym one, y_number ∙ sym two))
            ]
          ]
        ]

    not_added : AreUnflushedOf zs flushed ls ks
    not_added = record {
      from_logs = logs_more;
      from_edits = edits_more;
      all = λ z has above. elim (Contains-push_cases ys x z has) as (λ _. Contains ls z.entry ⊎ Contains ks z.entry) [
        | inl was ↦ so_far.parts.all z was above
        | inr is ↦
            let y = same_before (subst (λ (w : FoundEntry). IsAbove flushed w.entry) (sym is) above) in
            let one : y.0.entry ≡ z.entry = agree y.0 y.1 y.2 ∙ ap (λ (w : FoundEntry). w.entry) is in
            subst (λ (e : Entry). Contains ls e ⊎ Contains ks e) one (so_far.parts.all y.0 y.1 (subst (λ (e : Entry). IsAbove flushed e) (sym one) above))
      ];
      all_logged = λ z has kind above. elim (Contains-push_cases ys x z has) as (λ _. Contains ls z.entry) [
        | inl was ↦ so_far.parts.all_logged z was kind above
        | inr is ↦
            let y = same_before (subst (λ (w : FoundEntry). IsAbove flushed w.entry) (sym is) above) in
            let one : y.0.entry ≡ z.entry = agree y.0 y.1 y.2 ∙ ap (λ (w : FoundEntry). w.entry) is in
            let log : y.0.name.kind ≡ kinds.Log = log_first y.0 x (ups y.0 y.1) y.2 (ap (λ (w : FoundEntry). w.name.kind) is ∙ kind) in
            subst (λ (e : Entry). Contains ls e) one (so_far.parts.all_logged y.0 y.1 log (subst (λ (e : Entry). IsAbove flushed e) (sym one) above))
      ];
      logged_rise = so_far.parts.logged_rise;
      kept_rise = so_far.parts.kept_rise;
      apart = so_far.parts.apart;
    }

  pub one_more : (b : Bool) → (b ≡ true ↔ IsNew x region number flushed) → Adds x b old new → Going zs flushed x.entry.region x.entry.number new.logged.items new.kept.items
  one_more b decides adds = elim (cases_Bool b) as (λ _. Going zs flushed x.entry.region x.entry.number new.logged.items new.kept.items) [
    | inl new_one ↦ elim (log_or_not x.name.kind) as (λ _. Going zs flushed x.entry.region x.entry.number new.logged.items new.kept.items) [
      | inl log ↦ (let a = adds.logged new_one log in record { parts = moved (a.0) (a.1) (added_logged (decides.0 new_one) log); last = last_now; upto = upto_now })
      | inr other ↦ (let a = adds.kept new_one other in record { parts = moved (a.1) (a.0) (added_kept (decides.0 new_one) other); last = last_now; upto = upto_now })
    ]
    | inr old_one ↦ (let a = adds.same old_one in record { parts = moved (a.0) (a.1) (not_added (λ is. absurd (cc (sym (decides.1 is) ∙ old_one)))); last = last_now; upto = upto_now })
  ]
    where
      moved : {l k : List Entry} → new.logged.items ≡ l → new.kept.items ≡ k → AreUnflushedOf zs flushed l k → AreUnflushedOf zs flushed new.logged.items new.kept.items
      moved {l} {k} is_l is_k parts = subst (λ (m : List Entry). AreUnflushedOf zs flushed m new.kept.items) (sym is_l) (subst (λ (m : List Entry). AreUnflushedOf zs flushed l m) (sym is_k) parts)
