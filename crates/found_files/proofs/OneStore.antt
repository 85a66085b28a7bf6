-- A store file that was read.
use Rattle.std.proofs.Common.{◌≡◌, ◌⊎◌, inl, inr, ℕ, ◌<◌, ◌^◌, List, [], ◌∷◌, ◌++◌, length, Contains, Some, sym, subst}
use Rattle.std.specs.FinMap.{get}
use Rattle.std.proofs.lemmas.List.Elements.{Contains-append_left, Contains-push, Contains-push_cases}
use Rattle.log_model.specs.declared.name.Name.{Name}
use Rattle.log_model.specs.StoreText.{IsStore, IsThere}
use Rattle.log_model.specs.Files.{Files, IsStoreFile}
use Rattle.found_files.specs.declared.found.FoundStore.{FoundStore}
use Rattle.found_files.specs.Found.{store_of, ReadsStore}

module _ (told : Type 0) (files : Files) (name : Name) (old new : List FoundStore) (small : told → (bytes : List ℕ) → get files name ≡ Some bytes → length bytes < 2 ^ 64) where
  pub store_added : (x : FoundStore) → x.name ≡ name → new ≡ old ++ x ∷ [] → IsStore (store_of x) → (told → IsStoreFile files name.region name (store_of x)) → ReadsStore told files name old new
  store_added x named is store file = record {
    kept = λ y has. subst (λ (l : List FoundStore). Contains l y) (sym is) (Contains-append_left old (x ∷ []) y has);
    each = λ y has. elim (Contains-push_cases old x y (subst (λ (l : List FoundStore). Contains l y) is has)) as (λ _. Contains old y ⊎ ((y.name ≡ name) × IsStore (store_of y) × (told → IsStoreFile files name.region name (store_of y)))) [
      | inl before ↦ inl before
      | inr here ↦ inr (subst (λ (z : FoundStore). (z.name ≡ name) × IsStore (store_of z) × (told → IsStoreFile files name.region name (store_of z))) here (named, store, file))
    ];
    all = λ is_told bytes there gate. (x, subst (λ (l : List FoundStore). Contains l x) (sym is) (Contains-push old x), named, file is_told);
    small = small;
    added = inr (x, named, is);
  }

  pub store_not_there : new ≡ old → (told → (bytes : List ℕ) → get files name ≡ Some bytes → ¬ IsThere bytes) → ReadsStore told files name old new
  store_not_there is none = record {
    kept = λ y has. subst (λ (l : List FoundStore). Contains l y) (sym is) has;
    each = λ y has. inl (subst (λ (l : List FoundStore). Contains l y) is has);
    all = λ is_told bytes there gate. absurd (none is_told bytes there gate);
    small = small;
    added = inl is;
  }
