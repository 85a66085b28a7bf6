-- Which stores count, told store by store.
use Rattle.std.proofs.Common.{◌≡◌, ◌≢◌, ◌⊎◌, inl, inr, ℕ, ◌<◌, ◌≤◌, max, nat_le, true, List, [], ◌∷◌, ◌++◌, length, replicate, get_or, Contains, slice_set, Some, refl, sym, ap, ◌∙◌, subst, arith, get_or-set_other, get_or-set_same}
use Rattle.std.specs.declared.cmp.Ordering.TheVariants.{Less}
use Rattle.std.proofs.Math.ListN.{length-set}
use Rattle.std.proofs.lemmas.Bool.{cases_eq, leb-true, le-leb}
use Rattle.std.proofs.lemmas.List.{length-replicate, get_or-replicate}
use Rattle.std.proofs.lemmas.List.Kept.{AllPairs-filter}
use Rattle.std.proofs.lemmas.List.Elements.{Contains-append_left, Contains-push, Contains-push_cases}
use Rattle.log_model.specs.declared.name.Name.{Name}
use Rattle.log_model.specs.declared.name.NameKind.TheVariants as kinds
use Rattle.log_model.specs.StoreText.{Store, IsStoreText}
use Rattle.log_model.specs.Files.{Files, IsPresent, IsStoreFile, name_cmp}
use Rattle.log_model.specs.Recovered.{IsGreatest}
use Rattle.recovery_laws.proofs.OneStore.{one_store}
use Rattle.found_files.specs.declared.found.FoundEntry.{FoundEntry}
use Rattle.found_files.specs.declared.found.FoundStore.{FoundStore}
use Rattle.found_files.specs.Found.{store_of, AreContents}
use Rattle.found_files.specs.Counting.{Replaces, AreFirstNumbers, AreCounting, AreCountingOf, counting_among}
use Rattle.found_files.proofs.Filters.{in_filter, to_filter}
use Rattle.found_files.proofs.Placing.{none_in}
use Rattle.found_files.proofs.Greatest.{greatest_more, greatest_same}

-- ---- the first numbers, store by store

pub none_replaced : (first : List ℕ) → first ≡ replicate 65 0 → AreFirstNumbers [] first
none_replaced first is = record {
  long = ap length is ∙ length-replicate {A = ℕ} 65 0;
  each = λ r lt. subst (IsGreatest (Replaces [] r)) (sym (ap (λ (l : List ℕ). get_or l r 0) is ∙ get_or-replicate {A = ℕ} 65 r 0 0 lt)) (record { reached = inr refl; bound = λ m has. absurd (none_in has.0 has.1) });
}

module _ (stores : List FoundStore) (x : FoundStore) (old new : List ℕ) (low : x.name.region ≤ 64) (are : AreFirstNumbers stores old) where
  abbrev at : ℕ
  at = x.name.region

  abbrev more : List FoundStore
  more = stores ++ x ∷ []

  kept : (r n : ℕ) → Replaces stores r n → Replaces more r n
  kept r n h = (h.0, Contains-append_left stores (x ∷ []) h.0 h.1, h.2, h.3, h.4)

  -- the last store alone is new
  back : (r n : ℕ) → Replaces more r n → Replaces stores r n ⊎ ((at ≡ r) × (x.text.scope ≡ 1) × (x.name.number ≡ n))
  back r n h = elim (Contains-push_cases stores x h.0 h.1) as (λ _. Replaces stores r n ⊎ ((at ≡ r) × (x.text.scope ≡ 1) × (x.name.number ≡ n))) [
    | inl before ↦ inl (h.0, before, h.2, h.3, h.4)
    | inr this ↦ inr (ap (λ (y : FoundStore). y.name.region) this ∙ h.2, ap (λ (y : FoundStore). y.text.scope) this ∙ h.3, ap (λ (y : FoundStore). y.name.number) this ∙ h.4)
  ]

  still : (r : ℕ) → r < 65 → ((at ≡ r) × (x.text.scope ≡ 1) → ⊥) → IsGreatest (Replaces more r) (get_or old r 0)
  still r lt none = greatest_same (Replaces stores r) (Replaces more r) (get_or old r 0) (are.each r lt) (kept r)
      (λ n h. elim (back r n h) as (λ _. Replaces stores r n) [ inl before ↦ before | inr new_one ↦ absurd (none (new_one.0, new_one.1)) ])

  pub not_replaced : x.text.scope ≢ 1 → new ≡ old → AreFirstNumbers more new
  not_replaced other same = subst (λ (l : List ℕ). AreFirstNumbers more l) (sym same) (record { long = are.long; each = λ r lt. still r lt (λ both. other both.1) })

  pub one_replaced : x.text.scope ≡ 1 → new ≡ slice_set old at (max (get_or old at 0) x.name.number) → AreFirstNumbers more new
  one_replaced scope is = subst (λ (l : List ℕ). AreFirstNumbers more l) (sym is) (record {
    long = length-set old at top ∙ are.long;
    each = λ r lt. elim (cases_eq r at) as (λ _. IsGreatest (Replaces more r) (get_or (slice_set old at top) r 0)) [
      | inl same ↦ subst (λ (i : ℕ). IsGreatest (Replaces more i) (get_or (slice_set old at top) i 0)) (sym same)
          (subst (λ (n : ℕ). IsGreatest (Replaces more at) n) (sym (get_or-set_same old at top 0 (omega (arith, low, are.long)))) raised)
      | inr other ↦ subst (λ (n : ℕ). IsGreatest (Replaces more r) n) (sym (get_or-set_other old at r top 0 other)) (still r lt (λ both. other (sym both.0)))
    ];
  })
    where
      top : ℕ
      top = max (get_or old at 0) x.name.number

      raised : IsGreatest (Replaces more at) top
      raised = greatest_more (Replaces stores at) (Replaces more at) (get_or old at 0) (are.each at (omega (arith, low))) (kept at) x.name.number (x, Contains-push stores x, refl, scope, refl)
          (λ n h. elim (back at n h) as (λ _. Replaces stores at n ⊎ (n ≡ x.name.number)) [ inl before ↦ inl before | inr new_one ↦ inr (sym new_one.2) ])

-- ---- the stores with such a number are those that count

pub are_counting : (stores : List FoundStore) (first : List ℕ) → ((x : FoundStore) → Contains stores x → x.name.region ≤ 64) → AreFirstNumbers stores first → AreCounting stores (counting_among first stores)
are_counting stores first low are = record {
  each = λ x has. (
      let h = in_filter (λ (y : FoundStore). nat_le (get_or first y.name.region 0) y.name.number) stores x has in (
        h.0,
        λ y in_it region scope. (
            let top = (are.each x.name.region (omega (arith, low x h.0))).bound y.name.number (y, in_it, region, scope, refl) in
            let le : get_or first x.name.region 0 ≤ x.name.number = leb-true (get_or first x.name.region 0) x.name.number h.1 in
            omega (arith, top, le)),
      ));
  all = λ x has stands. to_filter (λ (y : FoundStore). nat_le (get_or first y.name.region 0) y.name.number) stores x has (
      elim (are.each x.name.region (omega (arith, low x has))).reached as (λ _. nat_le (get_or first x.name.region 0) x.name.number ≡ true) [
        | inl (y, in_it, region, scope, is) ↦ (let under = stands y in_it region scope in le-leb (get_or first x.name.region 0) x.name.number (omega (arith, under, is)))
        | inr zero ↦ le-leb (get_or first x.name.region 0) x.name.number (omega (arith, zero))
      ]);
  rising = λ rise. AllPairs-filter (λ (a b : FoundStore). name_cmp a.name b.name ≡ Less) (λ (y : FoundStore). nat_le (get_or first y.name.region 0) y.name.number) stores rise;
}

-- ---- and they are those that count in the files

module _ (told : Type 0) (is_told : told) (files : Files) (names : List Name) (es : List FoundEntry) (all counting : List FoundStore) (read : AreContents told files names es all)
    (are : AreCounting all counting) (r : ℕ) (named : (m : Name) → m.kind ≡ kinds.Store → m.region ≡ r → IsPresent files m → Contains names m) where
  same_bytes : (a b : List ℕ) → Some a ≡ Some b → a ≡ b
  same_bytes a b e = cc e

  -- a store file of the region was read
  was_read : (m : Name) (s : Store) → IsStoreFile files r m s → (x : FoundStore) × Contains all x × (x.name ≡ m) × (s ≡ store_of x)
  was_read m s file =
      let q = read.stores is_told m file.bytes (named m file.kind file.of (λ none. absurd (cc (sym none ∙ file.there)))) file.kind file.there file.gate in
      let own : IsStoreText m.region file.bytes s = subst (λ (k : ℕ). IsStoreText k file.bytes s) (sym file.of) file.text in
      let its : IsStoreText m.region file.bytes (store_of q.0) = subst (λ (b : List ℕ). IsStoreText m.region b (store_of q.0)) (same_bytes q.3.bytes file.bytes (sym q.3.there ∙ file.there)) q.3.text in
      (q.0, q.1, q.2, one_store m.region file.bytes s (store_of q.0) own its)

  pub counting_of : AreCountingOf files r counting
  counting_of = record {
    each = λ x has region. (
        let c = are.each x has in
        record {
          file = subst (λ (k : ℕ). IsStoreFile files k x.name (store_of x)) region (read.from_stores is_told x c.0);
          stands = λ other t f scope. (
              let q = was_read other t f in
              let low = c.1 q.0 q.1 (ap (λ (m : Name). m.region) q.2 ∙ f.of ∙ sym region) (ap (λ (u : Store). u.scope) (sym q.3) ∙ scope) in
              let number : q.0.name.number ≡ other.number = ap (λ (m : Name). m.number) q.2 in
              omega (arith, low, number));
        });
    all = λ m s c. (
        let q = was_read m s c.file in
        let number : q.0.name.number ≡ m.number = ap (λ (n : Name). n.number) q.2 in (
          q.0,
          are.all q.0 q.1 (λ y has region scope. (
              let of_r : y.name.region ≡ r = region ∙ ap (λ (n : Name). n.region) q.2 ∙ c.file.of in
              let low = c.stands y.name (store_of y) (subst (λ (k : ℕ). IsStoreFile files k y.name (store_of y)) of_r (read.from_stores is_told y has)) scope in
              omega (arith, low, number))),
          q.2,
          q.3,
        ));
  }
