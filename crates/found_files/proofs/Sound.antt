-- Files that were read, and agree, are sound.
use Rattle.std.proofs.Common.{◌≡◌, ◌↔◌, inl, inr, ℕ, ◌<◌, ◌≤◌, ◌^◌, List, length, Contains, Some, sym, ◌∙◌, subst, arith}
use Rattle.std.specs.FinMap.{get, keys}
use Rattle.std.proofs.lemmas.Bool.{cases_eq, cases_lt}
use Rattle.log_model.specs.declared.name.Name.{Name}
use Rattle.log_model.specs.declared.name.NameKind.TheVariants as kinds
use Rattle.log_model.specs.Entry.{Entry}
use Rattle.log_model.specs.StoreText.{IsThere}
use Rattle.log_model.specs.Files.{Files, HoldsEntries, IsLogFile, IsStoreFile, IsPresent, IsSound}
use Rattle.log_model.specs.Damage.{IsBadName}
use Rattle.disk_images.proofs.Settled.{among_names}
use Rattle.found_files.specs.declared.found.FoundEntry.{FoundEntry}
use Rattle.found_files.specs.declared.found.FoundStore.{FoundStore}
use Rattle.found_files.specs.Found.{AreContents, AreRead, store_of}
use Rattle.found_files.specs.Sorted.{AllAgree}
use Rattle.found_files.specs.Names.{IsBadAmong}
use Rattle.found_files.proofs.ReadSteps.{contents_of, with_good}
use Rattle.found_files.proofs.Whole.{bad_among}
use Rattle.found_files.proofs.Disagreeing.{all_agree}

-- the same entries in another order
pub reordered : (told : Type 0) (files : Files) (names : List Name) (es ds : List FoundEntry) (ss ts : List FoundStore) → ((x : FoundEntry) → Contains ds x ↔ Contains es x) → ts ≡ ss → AreContents told files names es ss → AreContents told files names ds ts
reordered told files names es ds ss ts same is read = subst (λ (l : List FoundStore). AreContents told files names ds l) (sym is) (record {
  logs = λ is_told m has holds. (let r = read.logs is_told m has holds in (r.0, r.1, λ e member. (same (record { name = m; entry = e })).1 (r.2 e member)));
  hold = λ x has. read.hold x ((same x).0 has);
  among = λ x has. read.among x ((same x).0 has);
  from_logs = λ is_told x has. read.from_logs is_told x ((same x).0 has);
  stores = read.stores;
  from_stores = read.from_stores;
  small = read.small;
  each = read.each;
  rising = read.rising;
})

-- the same of files that are the same
pub of_same_files : (told : Type 0) (f g : Files) (same : told → f ≡ g) (names : List Name) (es : List FoundEntry) (ss : List FoundStore) → AreContents told f names es ss → AreContents told g names es ss
of_same_files told f g same names es ss read = record {
  logs = λ is_told. subst (λ (k : Files). (m : Name) → Contains names m → HoldsEntries m.kind → (l : List Entry) × IsLogFile k m l × ((e : Entry) → Contains l e → Contains es (record { name = m; entry = e }))) (same is_told) (read.logs is_told);
  hold = read.hold;
  among = read.among;
  from_logs = λ is_told. subst (λ (k : Files). (x : FoundEntry) → Contains es x → (l : List Entry) × IsLogFile k x.name l × Contains l x.entry) (same is_told) (read.from_logs is_told);
  stores = λ is_told. subst (λ (k : Files). (m : Name) (bytes : List ℕ) → Contains names m → m.kind ≡ kinds.Store → get k m ≡ Some bytes → IsThere bytes → (x : FoundStore) × Contains ss x × (x.name ≡ m) × IsStoreFile k m.region m (store_of x)) (same is_told) (read.stores is_told);
  from_stores = λ is_told. subst (λ (k : Files). (x : FoundStore) → Contains ss x → IsStoreFile k x.name.region x.name (store_of x)) (same is_told) (read.from_stores is_told);
  small = λ is_told. subst (λ (k : Files). (m : Name) (bytes : List ℕ) → Contains names m → m.kind ≡ kinds.Store → get k m ≡ Some bytes → length bytes < 2 ^ 64) (same is_told) (read.small is_told);
  each = read.each;
  rising = read.rising;
}

pub found_read : (told : Type 0) (f g : Files) (same : told → f ≡ g) (names l : List Name) (is : l ≡ names) (es ds : List FoundEntry) (ss ts : List FoundStore) → ((x : FoundEntry) → Contains ds x ↔ Contains es x) → ts ≡ ss → AreRead told f l l es ss → AreRead told g names names ds ts
found_read told f g same names l is es ds ss ts both stores read =
    with_good told g names names ds ts (subst (λ (k : List Name). (m : Name) → Contains k m → ¬ IsBadAmong k m) is read.good)
    (subst (λ (k : List Name). AreContents told g k ds ts) is (of_same_files told f g same l ds ts (reordered told f l es ds ss ts both stores (contents_of told f l l es ss read))))

module _ (told : Type 0) (is_told : told) (files : Files) (es : List FoundEntry) (ss : List FoundStore) (read : AreRead told files (keys files) (keys files) es ss) where
  good : (m : Name) → IsPresent files m → ¬ IsBadName files m
  good m here bad = read.good m (among_names files m here) (bad_among files m bad)

  some_there : (m : Name) (bytes : List ℕ) → get files m ≡ Some bytes → IsPresent files m
  some_there m bytes there none = absurd (cc (sym none ∙ there))

  pub are_sound : AllAgree es → IsSound files
  are_sound agree = record {
    fit = record {
      logs = λ m bytes holds there. (let r = read.logs is_told m (among_names files m (some_there m bytes there)) holds in (r.0, r.1));
      stores = λ m bytes store there gate. (let r = read.stores is_told m bytes (among_names files m (some_there m bytes there)) store there gate in (store_of r.0, r.3));
      agree = all_agree told is_told files es ss read agree;
    };
    regions = λ m here kind. (
      elim (cases_eq m.region 0) as (λ _. 1 ≤ m.region) [ inl zero ↦ absurd (good m here (inr (inl (kind, inl zero)))) | inr more ↦ omega (arith, more) ],
      elim (cases_lt 64 m.region) as (λ _. m.region ≤ 64) [ inl high ↦ absurd (good m here (inr (inl (kind, inr high)))) | inr low ↦ low ],
    );
    numbers = λ m here. elim (cases_lt (2 ^ 62) m.number) as (λ _. m.number ≤ 2 ^ 62) [ inl high ↦ absurd (good m here (inl high)) | inr low ↦ low ];
    apart = λ a b at bt log old same. good a at (inr (inr (log, (b, bt, old, sym same))));
  }
