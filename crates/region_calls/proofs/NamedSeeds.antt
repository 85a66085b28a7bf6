-- A name that tells the tables of an opened store names its regions' parts.
use Rattle.std.proofs.Common.{◌≡◌, ℕ, zero, suc, ◌+◌, ◌-◌, ◌<◌, ◌≤◌, List, [], ◌∷◌, length, map, get_or, refl, sym, ap, ◌∙◌, subst, arith}
use Rattle.atomic_table.specs.Seated.{TableId}
use Rattle.logbook.specs.Pages.{Book}
use Rattle.append_ring.specs.Rules.{base_of as last_before}
use Rattle.region_model.specs.Journal.{Base}
use Rattle.region_versions.specs.Histories.{no_book, no_base}
use Rattle.pass_calls.specs.log_service.Names.{no_table}
use Rattle.log_model.specs.Files.{Files}
use Rattle.region_calls.specs.declared.seeds.RegionSeeds.{RegionSeeds}
use Rattle.region_calls.specs.declared.store.OpenedStore.{OpenedStore}
use Rattle.region_calls.specs.Bases.{IsBaseOf, AreBasesOf}
use Rattle.region_calls.specs.Seeds.{AreSeeds, base_of, desk_of, spent_of, book_of, lasts_of, base_at}
use Rattle.region_calls.specs.Named.{AreNamedSeeds}
use Rattle.region_calls.specs.Names.{AreTablesOf}
use Rattle.region_calls.specs.Store.{bases_of}

-- the names of the region that is k after the first one
record Names (desk spent : ℕ → TableId) (book : ℕ → Book) (base : ℕ → Base) (lasts : List ℕ) (r k : ℕ) (ss : List RegionSeeds) : Type 0 where
  desks : desk r ≡ get_or (map desk_of ss) k no_table
  spents : spent r ≡ get_or (map spent_of ss) k no_table
  books : book r ≡ get_or (map book_of ss) k no_book
  bases : base r ≡ get_or (map base_of ss) k no_base
  last : last_before lasts r ≡ get_or (lasts_of (map base_of ss)) k 0

module _ (desk spent : ℕ → TableId) (book : ℕ → Book) (base : ℕ → Base) (lasts : List ℕ) (h : ℕ) where
  named_from : (n : ℕ) (ss : List RegionSeeds) → AreSeeds h n ss → ((k : ℕ) → k < length ss → Names desk spent book base lasts (n + k) k ss) → AreNamedSeeds desk spent book base lasts ss
  named_from n [] a f = tt
  named_from n (s ∷ ss) a f =
      let here = f 0 (omega arith) in
      let same : n + 0 ≡ s.state.region = omega (arith, a.0.region) in (
        record {
          desk_is = sym (sym (ap desk same) ∙ here.desks);
          spent_is = sym (sym (ap spent same) ∙ here.spents);
          book_is = sym (sym (ap book same) ∙ here.books);
          base_is = sym (sym (ap base same) ∙ here.bases);
          last_is = sym (ap (last_before lasts) same) ∙ here.last;
        },
        named_from (n + 1) ss a.1 (λ k low.
            let next : n + suc k ≡ n + 1 + k = omega arith in
            let there = f (suc k) (omega (arith, low)) in
            record {
              desks = sym (ap desk next) ∙ there.desks;
              spents = sym (ap spent next) ∙ there.spents;
              books = sym (ap book next) ∙ there.books;
              bases = sym (ap base next) ∙ there.bases;
              last = sym (ap (last_before lasts) next) ∙ there.last;
            }),
      )

  pub named_seeds : {D : Type 0} → (store : OpenedStore D) → AreSeeds h 1 store.seeds.items → lasts ≡ lasts_of (bases_of store)
      → ((r : ℕ) → 1 ≤ r → r ≤ length store.seeds.items → AreTablesOf desk spent book base store r) → AreNamedSeeds desk spent book base lasts store.seeds.items
  named_seeds store a e f =
      named_from 1 store.seeds.items a (λ k low.
      let t = f (1 + k) (omega arith) (omega (arith, low)) in
      let back : 1 + k - 1 ≡ k = omega arith in
      record {
        desks = t.desk_is ∙ ap (λ i. get_or (map desk_of store.seeds.items) i no_table) back;
        spents = t.spent_is ∙ ap (λ i. get_or (map spent_of store.seeds.items) i no_table) back;
        books = t.book_is ∙ ap (λ i. get_or (map book_of store.seeds.items) i no_book) back;
        bases = t.base_is ∙ ap (λ i. get_or (map base_of store.seeds.items) i no_base) back;
        last = ap (λ i. get_or lasts i 0) back ∙ ap (λ (l : List ℕ). get_or l k 0) e;
      })

base_from : (F : Files) (n : ℕ) (bs : List Base) → AreBasesOf F n bs → (k : ℕ) → k < length bs → IsBaseOf F (n + k) (get_or bs k no_base)
base_from F n [] a k low = absurd (omega (arith, low))
base_from F n (b ∷ bs) a zero low = let same : n ≡ n + 0 = omega arith in subst (λ r. IsBaseOf F r b) same a.0
base_from F n (b ∷ bs) a (suc k) low = let same : n + 1 + k ≡ n + suc k = omega arith in subst (λ r. IsBaseOf F r (get_or bs k no_base)) same (base_from F (n + 1) bs a.1 k (omega (arith, low)))

-- the base of a region, by its number
pub base_of_region : (F : Files) (bs : List Base) → AreBasesOf F 1 bs → (r : ℕ) → 1 ≤ r → r ≤ length bs → IsBaseOf F r (base_at bs r)
base_of_region F bs a zero low high = absurd (omega (arith, low))
base_of_region F bs a (suc k) low high =
    let back : suc k - 1 ≡ k = omega arith in
    let same : 1 + k ≡ suc k = omega arith in
    subst (λ i. IsBaseOf F (suc k) (get_or bs i no_base)) (sym back) (subst (λ r. IsBaseOf F r (get_or bs k no_base)) same (base_from F 1 bs a k (omega (arith, high))))

last_in_bases : (bs : List Base) (k : ℕ) → k < length bs → get_or (lasts_of bs) k 0 ≡ (get_or bs k no_base).last
last_in_bases [] k low = absurd (omega (arith, low))
last_in_bases (b ∷ bs) zero low = refl
last_in_bases (b ∷ bs) (suc k) low = last_in_bases bs k (omega (arith, low))

-- the number before a region's first one is its base's last one
pub last_at_base : (bs : List Base) (r : ℕ) → 1 ≤ r → r ≤ length bs → last_before (lasts_of bs) r ≡ (base_at bs r).last
last_at_base bs r low high = last_in_bases bs (r - 1) (omega (arith, low, high))
