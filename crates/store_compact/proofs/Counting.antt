-- How many store files of a region count.
use Rattle.std.proofs.Common.{◌≡◌, ℕ, ◌<◌, List, [], ◌∷◌, map, length, Contains, ◌∙◌, subst, arith}
use Rattle.std.specs.Prelude.{AllPairs}
use Rattle.std.specs.declared.cmp.Ordering.TheVariants.{Less}
use Rattle.std.proofs.lemmas.List.{length-map, get_or-map}
use Rattle.log_model.specs.declared.name.Name.{Name}
use Rattle.log_model.specs.StoreText.{Store}
use Rattle.log_model.specs.Files.{Files, name_cmp}
use Rattle.log_model.specs.Recovered.{IsCounting}
use Rattle.found_files.specs.declared.found.FoundStore.{FoundStore}
use Rattle.found_files.specs.Found.{store_of, AreInNameOrder}
use Rattle.found_files.specs.Counting.{AreCountingOf}
use Rattle.region_replay.proofs.Lists.{in_map, to_map}
use Rattle.store_compact.specs.Compacting.{HasCounting}

abbrev name_of : FoundStore → Name
name_of x = x.name

names_rise : (ss : List FoundStore) → AreInNameOrder ss → AllPairs (λ a b. name_cmp a b ≡ Less) (map name_of ss)
names_rise [] rise i j d less lt = absurd (omega (arith, lt))
names_rise (x ∷ xs) rise i j d less lt =
    let within : j < length (x ∷ xs) = omega (arith, lt, length-map (x ∷ xs) name_of) in
    let first = get_or-map name_of (x ∷ xs) i x d (omega (arith, less, within)) in
    let second = get_or-map name_of (x ∷ xs) j x d within in
    (λ k. name_cmp (first k) (second k)) ∙ rise i j x less within

pub has_counting : (files : Files) (r : ℕ) (ss : List FoundStore) → AreCountingOf files r ss → AreInNameOrder ss → ((x : FoundStore) → Contains ss x → x.name.region ≡ r) → HasCounting files r (length ss)
has_counting files r ss are rise of = record {
  files = map name_of ss;
  count = length-map ss name_of;
  rise = names_rise ss rise;
  each = λ m has. (
      let q = in_map name_of ss m has in
      subst (λ (n : Name). (s : Store) × IsCounting files r n s) q.2 (store_of q.0, are.each q.0 q.1 (of q.0 q.1)));
  all = λ m s c. (
      let q = are.all m s c in
      subst (λ (n : Name). Contains (map name_of ss) n) q.2 (to_map name_of ss q.0 q.1));
}
