-- What is left to flush.
use Rattle.std.proofs.Common.{◌≡◌, inl, inr, ℕ, ◌<◌, ◌≤◌, true, false, List, [], ◌∷◌, ◌++◌, map, length, get_or, Contains, refl, sym, ap, ◌∙◌, subst, arith}
use Rattle.std.specs.Prelude.{Option, Some, None, MatchOption, is_some}
use Rattle.std.proofs.Math.Logic.{∥∥₁_map}
use Rattle.std.proofs.lemmas.Bool.{cases_lt}
use Rattle.log_model.specs.Entry.{Entry}
use Rattle.log_model.specs.Recovered.{HasFamily}
use Rattle.seq_accounting.specs.Accounts.{Accounts, flushed_at, oldest_at}
use Rattle.seq_accounting.specs.Noted.{Note, is_noted_of, NoneAbove, IsLeastAbove, HasNoted}
use Rattle.log_trucks.specs.Held.{Held, AreHeld}
use Rattle.log_ledger.specs.History.{History, family_in}
use Rattle.log_ledger.specs.Numbers.{Numbers, IsServed, IsLive, HasLive, AreInOrder, IsLeft}
use Rattle.log_ledger.specs.Counted.{IsCounted, HasUnflushed, NoneUnflushed, note_of}
use Rattle.log_ledger.proofs.Chains.{none_at, at_first, at_later, at_either, truck_of}
use Rattle.log_ledger.proofs.Families.{note_from, note_to}

told_some : (o : Option ℕ) (P : Type 0) (Q : ℕ → Type 0) → is_some o ≡ true → MatchOption o P Q → (n : ℕ) × Q n
told_some (Some n) P Q is m = (n, m)
told_some None P Q is m = absurd (cc is)

told_none : (o : Option ℕ) (P : Type 0) (Q : ℕ → Type 0) → is_some o ≡ false → MatchOption o P Q → P
told_none (Some n) P Q is m = absurd (cc is)
told_none None P Q is m = m

some_oldest : (a : Accounts) (notes : List Note) (r : ℕ) (f : List ℕ) (n : ℕ) → HasNoted a notes → IsLeastAbove notes r f (flushed_at a r f) n → 0 < oldest_at a r f
some_oldest a notes r f n noted least = elim (cases_lt 0 (oldest_at a r f)) as (λ _. 0 < oldest_at a r f) [
  | inl is ↦ is
  | inr none ↦ absurd (omega (arith, (noted.oldest r f).none (omega (arith, none)) least.note least.member least.of, least.above, least.number))
]

note_in : (es : List Entry) (x : Note) → Contains (map note_of es) x → (e : Entry) × Contains es e × (note_of e ≡ x)
note_in [] x has = absurd (none_at x has)
note_in (e ∷ es) x has = elim (at_either (note_of e) (map note_of es) x has) as (λ _. (d : Entry) × Contains (e ∷ es) d × (note_of d ≡ x)) [
  | inl is ↦ (e, at_first e es, is)
  | inr later ↦ (let more = note_in es x later in (more.0, at_later e es more.0 more.1, more.2))
]

in_notes : (es : List Entry) (e : Entry) → Contains es e → Contains (map note_of es) (note_of e)
in_notes [] e has = absurd (none_at e has)
in_notes (d ∷ es) e has = elim (at_either d es e has) as (λ _. Contains (map note_of (d ∷ es)) (note_of e)) [
  | inl is ↦ subst (λ (x : Entry). Contains (map note_of (d ∷ es)) (note_of x)) is (at_first (note_of d) (map note_of es))
  | inr later ↦ at_later (note_of d) (map note_of es) (note_of e) (in_notes es e later)
]

abbrev pub IsAnswer : Numbers → ℕ → List ℕ → Option ℕ → Type 0
IsAnswer b r f o = (notes : List Note) → HasNoted b.accounts notes → MatchOption o (NoneAbove notes r f (flushed_at b.accounts r f)) (λ n. IsLeastAbove notes r f (flushed_at b.accounts r f) n)

-- one family, where its oldest number was asked for
module _ (b : Numbers) (r : ℕ) (f : List ℕ) (o : Option ℕ) (family : Option (List ℕ)) (given : family ≡ Some f) (order : AreInOrder b) (answer : IsAnswer b r f o) where
  pub left_one : is_some o ≡ true → IsLeft b r (family_in family)
  left_one some = ∥∥₁_map order.few (λ h. let least = told_some o (NoneAbove h.notes r f (flushed_at b.accounts r f)) (λ n. IsLeastAbove h.notes r f (flushed_at b.accounts r f) n) some (answer h.notes h.noted) in
      (f, inr (ap family_in given), some_oldest b.accounts h.notes r f least.0 h.noted least.1))

  pub some_one : (h : History) → IsServed b r → IsCounted b h → is_some o ≡ true → HasUnflushed h.kept r family
  some_one h served counted some =
      let notes : List Note = map note_of (h.kept.durable ++ h.kept.staged) in
      let least = told_some o (NoneAbove notes r f (flushed_at b.accounts r f)) (λ n. IsLeastAbove notes r f (flushed_at b.accounts r f) n) some (answer notes counted.noted) in
      let e = note_in (h.kept.durable ++ h.kept.staged) least.1.note least.1.member in
      let is = note_to e.0 r f (subst (λ (x : Note). is_noted_of x r f ≡ true) (sym e.2) least.1.of) in
      record {
        entry = e.0;
        of = f;
        member = e.1;
        region = is.0;
        has = is.1;
        for = inr (ap family_in given);
        above = omega (arith, least.1.above, least.1.number, ap (λ (x : Note). x.number) e.2, counted.flushed r f served);
      }

  pub none_one : (h : History) → IsServed b r → 1 ≤ length f → IsCounted b h → is_some o ≡ false → NoneUnflushed h.kept r family
  none_one h served some counted none e g has region of for =
      let notes : List Note = map note_of (h.kept.durable ++ h.kept.staged) in
      let low = told_none o (NoneAbove notes r f (flushed_at b.accounts r f)) (λ n. IsLeastAbove notes r f (flushed_at b.accounts r f) n) none (answer notes counted.noted) in
      let same : f ≡ g = elim for as (λ _. f ≡ g) [ inl all ↦ absurd (omega (arith, some, ap length (sym (ap family_in given) ∙ all))) | inr one ↦ sym (ap family_in given) ∙ one ] in
      subst (λ (x : List ℕ). e.number ≤ h.kept.flushed r x) same
      (omega (arith, low (note_of e) (in_notes (h.kept.durable ++ h.kept.staged) e has) (note_from e r f region (subst (HasFamily e) (sym same) of)), counted.flushed r f served))

first_of : (a : Accounts) (r : ℕ) (chain : List Held) → (chain ≡ [] → ⊥) → HasLive a r chain → (e : Entry) × IsLive a r e
first_of a r chain some is = by chain is.entries refl is.held is.live
  where
    by : (held : List Held) (es : List Entry) → chain ≡ held → AreHeld held es → ((e : Entry) → Contains es e → IsLive a r e) → (e : Entry) × IsLive a r e
    by [] es none are live = absurd (some none)
    by (x ∷ xs) [] here are live = absurd are
    by (x ∷ xs) (e ∷ es) here are live = (e, live e (at_first e es))

-- all families, where the region's chain was asked
module _ (b : Numbers) (r : ℕ) (family : Option (List ℕ)) (given : family ≡ None) (order : AreInOrder b) where
  pub left_any : (get_or b.chains r [] ≡ [] → ⊥) → IsLeft b r (family_in family)
  left_any some = ∥∥₁_map (order.regions r).chain.entries (λ is. let e = first_of b.accounts r (get_or b.chains r []) some is in
      (e.1.some.0, inl (ap family_in given), e.1.noted e.1.some.0 e.1.some.1 e.1.some.2))

  pub above_any : (get_or b.chains r [] ≡ [] → ⊥) → get_or b.stored r 0 < get_or b.drawn r 0
  above_any some = by (get_or b.chains r []) refl
    where
      by : (held : List Held) → get_or b.chains r [] ≡ held → get_or b.stored r 0 < get_or b.drawn r 0
      by [] none = absurd (some none)
      by (x ∷ xs) here = let is = (order.regions r).chain.numbers x (subst (λ (l : List Held). Contains l x) (sym here) (at_first x xs)) in omega (arith, is.0, is.1)

  pub some_any : (h : History) → IsServed b r → IsCounted b h → (get_or b.chains r [] ≡ [] → ⊥) → HasUnflushed h.kept r family
  some_any h served counted some = by (get_or b.chains r []) (counted.chains r served).entries refl (counted.chains r served).held (λ e has. has)
    where
      by : (held : List Held) (es : List Entry) → get_or b.chains r [] ≡ held → AreHeld held es → ((e : Entry) → Contains es e → Contains (counted.chains r served).entries e) → HasUnflushed h.kept r family
      by [] es none are there = absurd (some none)
      by (x ∷ xs) [] here are there = absurd are
      by (x ∷ xs) (e ∷ es) here are there =
          let is = ((counted.chains r served).each e).0 (there e (at_first e es)) in record {
            entry = e;
            of = is.2.0;
            member = is.0;
            region = is.1;
            has = is.2.1;
            for = inl (ap family_in given);
            above = subst (λ (q : ℕ). h.kept.flushed q is.2.0 < e.number) is.1 is.2.2;
          }

  pub none_any : (h : History) → IsServed b r → IsCounted b h → get_or b.chains r [] ≡ [] → NoneUnflushed h.kept r family
  none_any h served counted none e f has region of for = elim (cases_lt (h.kept.flushed r f) e.number) as (λ _. e.number ≤ h.kept.flushed r f) [
    | inl above ↦
        let carries = counted.chains r served in
        let t = truck_of (get_or b.chains r []) carries.entries carries.held e ((carries.each e).1 (has, region, (f, of, subst (λ (q : ℕ). h.kept.flushed q f < e.number) (sym region) above))) in
        absurd (none_at t.0 (subst (λ (l : List Held). Contains l t.0) none t.1))
    | inr low ↦ low
  ]
