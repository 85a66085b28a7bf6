-- One more file is read.
use Rattle.std.proofs.Common.{◌≡◌, ◌⊎◌, inl, inr, ℕ, ◌<◌, ◌^◌, List, [], ◌∷◌, ◌++◌, length, get_or, Contains, Some, refl, sym, ap, ◌∙◌, subst, arith}
use Rattle.std.specs.FinMap.{get}
use Rattle.std.specs.declared.cmp.Ordering.TheVariants.{Less}
use Rattle.std.proofs.lemmas.List.Quantifiers.{all_pairs_push}
use Rattle.std.proofs.lemmas.List.Elements.{Contains-append_left, Contains-append_right, Contains-append_cases, Contains-push, Contains-push_cases, Contains-get_or}
use Rattle.log_model.specs.declared.name.Name.{Name}
use Rattle.log_model.specs.declared.name.NameKind.{NameKind}
use Rattle.log_model.specs.declared.name.NameKind.TheVariants as kinds
use Rattle.log_model.specs.Entry.{Entry}
use Rattle.log_model.specs.StoreText.{IsStore, IsThere}
use Rattle.log_model.specs.Files.{Files, HoldsEntries, IsLogFile, IsStoreFile, name_cmp}
use Rattle.found_files.specs.declared.found.FoundEntry.{FoundEntry}
use Rattle.found_files.specs.declared.found.FoundStore.{FoundStore}
use Rattle.found_files.specs.declared.found.FoundFiles.{FoundFiles}
use Rattle.found_files.specs.Names.{IsBadAmong}
use Rattle.found_files.specs.Found.{place_in, placed, store_of, AreContents, AreRead, AreInNameOrder}
use Rattle.found_files.specs.Checked.{ReadsFile, ReadsOne}
use Rattle.found_files.proofs.Placing.{none_in, is_placed, placed_is}

-- what was read, with names that are good and without
pub contents_of : (told : Type 0) (files : Files) (all names : List Name) (es : List FoundEntry) (ss : List FoundStore) → AreRead told files all names es ss → AreContents told files names es ss
contents_of told files all names es ss read = record {
  logs = read.logs;
  hold = read.hold;
  among = read.among;
  from_logs = read.from_logs;
  stores = read.stores;
  from_stores = read.from_stores;
  small = read.small;
  each = read.each;
  rising = read.rising;
}

pub with_good : (told : Type 0) (files : Files) (all names : List Name) (es : List FoundEntry) (ss : List FoundStore) → ((m : Name) → Contains names m → ¬ IsBadAmong all m) → AreContents told files names es ss → AreRead told files all names es ss
with_good told files all names es ss good read = record {
  good = good;
  logs = read.logs;
  hold = read.hold;
  among = read.among;
  from_logs = read.from_logs;
  stores = read.stores;
  from_stores = read.from_stores;
  small = read.small;
  each = read.each;
  rising = read.rising;
}

nothing : (told : Type 0) (files : Files) → AreContents told files [] [] []
nothing told files = record {
  logs = λ is_told m has. absurd (none_in m has);
  hold = λ x has. absurd (none_in x has);
  among = λ x has. absurd (none_in x has);
  from_logs = λ is_told x has. absurd (none_in x has);
  stores = λ is_told m bytes has. absurd (none_in m has);
  from_stores = λ is_told x has. absurd (none_in x has);
  small = λ is_told m bytes has. absurd (none_in m has);
  each = λ x has. absurd (none_in x has);
  rising = λ is_told i j d less lt. absurd (omega (arith, lt));
}

-- before any file was read
pub no_contents : (told : Type 0) (files : Files) (es : List FoundEntry) (ss : List FoundStore) → es ≡ [] → ss ≡ [] → AreContents told files [] es ss
no_contents told files es ss no_entry no_store =
    subst (λ (l : List FoundEntry). AreContents told files [] l ss) (sym no_entry) (subst (λ (l : List FoundStore). AreContents told files [] [] l) (sym no_store) (nothing told files))

pub none_read : (told : Type 0) (files : Files) (all : List Name) (es : List FoundEntry) (ss : List FoundStore) → es ≡ [] → ss ≡ [] → AreRead told files all [] es ss
none_read told files all es ss no_entry no_store = with_good told files all [] es ss (λ m has. absurd (none_in m has)) (no_contents told files es ss no_entry no_store)

entries_or_not : (k : NameKind) → HoldsEntries k ⊎ (HoldsEntries k → ⊥)
entries_or_not kinds.Log = inl (inl refl)
entries_or_not kinds.Edits = inl (inr refl)
entries_or_not kinds.Old = inr (λ h. elim h as (λ _. ⊥) [ inl is ↦ absurd (cc is) | inr is ↦ absurd (cc is) ])
entries_or_not kinds.Store = inr (λ h. elim h as (λ _. ⊥) [ inl is ↦ absurd (cc is) | inr is ↦ absurd (cc is) ])

store_or_not : (k : NameKind) → (k ≡ kinds.Store) ⊎ (k ≡ kinds.Store → ⊥)
store_or_not kinds.Log = inr (λ is. absurd (cc is))
store_or_not kinds.Edits = inr (λ is. absurd (cc is))
store_or_not kinds.Old = inr (λ is. absurd (cc is))
store_or_not kinds.Store = inl refl

module _ (told : Type 0) (files g : Files) (same : told → g ≡ files) (names : List Name) (name : Name) (old new : FoundFiles) (so_far : AreContents told files names old.entries.items old.stores.items) (one : ReadsFile told g name old new)
    (below : told → (m : Name) → Contains names m → name_cmp m name ≡ Less) where
  entry_kept : (x : FoundEntry) → Contains old.entries.items x → Contains new.entries.items x
  entry_kept x has = elim (entries_or_not name.kind) as (λ _. Contains new.entries.items x) [
    | inl holds ↦ (let r = one.entries holds in subst (λ (l : List FoundEntry). Contains l x) (sym r.added) (Contains-append_left old.entries.items (placed name r.entries) x has))
    | inr not ↦ subst (λ (l : List FoundEntry). Contains l x) (sym (one.no_entries not)) has
  ]

  entry_cases : (x : FoundEntry) → Contains new.entries.items x → Contains old.entries.items x ⊎ ((l : List Entry) × HoldsEntries name.kind × (told → IsLogFile files name l) × (name ≡ x.name) × Contains l x.entry)
  entry_cases x has = elim (entries_or_not name.kind) as (λ _. Contains old.entries.items x ⊎ ((l : List Entry) × HoldsEntries name.kind × (told → IsLogFile files name l) × (name ≡ x.name) × Contains l x.entry)) [
    | inl holds ↦
        let r = one.entries holds in
        elim (Contains-append_cases old.entries.items (placed name r.entries) x (subst (λ (l : List FoundEntry). Contains l x) r.added has)) as (λ _. Contains old.entries.items x ⊎ ((l : List Entry) × HoldsEntries name.kind × (told → IsLogFile files name l) × (name ≡ x.name) × Contains l x.entry)) [
          | inl before ↦ inl before
          | inr here ↦ (let p = placed_is name r.entries x here in inr (r.entries, holds, (λ is_told. subst (λ (f : Files). IsLogFile f name r.entries) (same is_told) (r.file is_told)), p.0, p.1))
        ]
    | inr not ↦ inl (subst (λ (l : List FoundEntry). Contains l x) (one.no_entries not) has)
  ]

  store_kept : (x : FoundStore) → Contains old.stores.items x → Contains new.stores.items x
  store_kept x has = elim (store_or_not name.kind) as (λ _. Contains new.stores.items x) [
    | inl store ↦ (one.store store).kept x has
    | inr not ↦ subst (λ (l : List FoundStore). Contains l x) (sym (one.no_store not)) has
  ]

  store_cases : (x : FoundStore) → Contains new.stores.items x → Contains old.stores.items x ⊎ ((name.kind ≡ kinds.Store) × (x.name ≡ name) × IsStore (store_of x) × (told → IsStoreFile files name.region name (store_of x)))
  store_cases x has = elim (store_or_not name.kind) as (λ _. Contains old.stores.items x ⊎ ((name.kind ≡ kinds.Store) × (x.name ≡ name) × IsStore (store_of x) × (told → IsStoreFile files name.region name (store_of x)))) [
    | inl store ↦ elim ((one.store store).each x has) as (λ _. Contains old.stores.items x ⊎ ((name.kind ≡ kinds.Store) × (x.name ≡ name) × IsStore (store_of x) × (told → IsStoreFile files name.region name (store_of x)))) [
      | inl before ↦ inl before
      | inr here ↦ inr (store, here.0, here.1, λ is_told. subst (λ (f : Files). IsStoreFile f name.region name (store_of x)) (same is_told) (here.2 is_told))
    ]
    | inr not ↦ inl (subst (λ (l : List FoundStore). Contains l x) (one.no_store not) has)
  ]

  here_logs : told → HoldsEntries name.kind → (l : List Entry) × IsLogFile files name l × ((e : Entry) → Contains l e → Contains new.entries.items (place_in name e))
  here_logs is_told holds =
      let r = one.entries holds in (
        r.entries,
        subst (λ (f : Files). IsLogFile f name r.entries) (same is_told) (r.file is_told),
        λ e member. subst (λ (l : List FoundEntry). Contains l (place_in name e)) (sym r.added) (Contains-append_right old.entries.items (placed name r.entries) (place_in name e) (is_placed name r.entries e member)),
      )

  here_stores : told → (bytes : List ℕ) → name.kind ≡ kinds.Store → get files name ≡ Some bytes → IsThere bytes → (x : FoundStore) × Contains new.stores.items x × (x.name ≡ name) × IsStoreFile files name.region name (store_of x)
  here_stores is_told bytes store there gate =
      let f = (one.store store).all is_told bytes (ap (λ (f : Files). get f name) (same is_told) ∙ there) gate in
      (f.0, f.1, f.2, subst (λ (k : Files). IsStoreFile k name.region name (store_of f.0)) (same is_told) f.3)

  still_rising : told → AreInNameOrder new.stores.items
  still_rising is_told = elim (store_or_not name.kind) as (λ _. AreInNameOrder new.stores.items) [
    | inl store ↦ elim (one.store store).added as (λ _. AreInNameOrder new.stores.items) [
      | inl same ↦ subst AreInNameOrder (sym same) (so_far.rising is_told)
      | inr (x, named, is) ↦ subst AreInNameOrder (sym is) (all_pairs_push (λ (y z : FoundStore). name_cmp y.name z.name ≡ Less) old.stores.items x (so_far.rising is_told) (λ k d lt. (
          let at = so_far.each (get_or old.stores.items k d) (Contains-get_or old.stores.items k d lt) in
          subst (λ (n : Name). name_cmp n x.name ≡ Less) (sym at.1.2) (subst (λ (n : Name). name_cmp at.1.0 n ≡ Less) (sym named) (below is_told at.1.0 at.1.1)))))
    ]
    | inr not ↦ subst AreInNameOrder (sym (one.no_store not)) (so_far.rising is_told)
  ]

  pub one_more : AreContents told files (names ++ name ∷ []) new.entries.items new.stores.items
  one_more = record {
    logs = λ is_told m has holds. elim (Contains-push_cases names name m has) as (λ _. (l : List Entry) × IsLogFile files m l × ((e : Entry) → Contains l e → Contains new.entries.items (place_in m e))) [
      | inl before ↦ (let r = so_far.logs is_told m before holds in (r.0, r.1, λ e member. entry_kept (place_in m e) (r.2 e member)))
      | inr is ↦ subst (λ (n : Name). (l : List Entry) × IsLogFile files n l × ((e : Entry) → Contains l e → Contains new.entries.items (place_in n e))) is (here_logs is_told (subst (λ (n : Name). HoldsEntries n.kind) (sym is) holds))
    ];
    hold = λ x has. elim (entry_cases x has) as (λ _. HoldsEntries x.name.kind) [
      | inl before ↦ so_far.hold x before
      | inr (l, holds, file, is, member) ↦ subst (λ (n : Name). HoldsEntries n.kind) is holds
    ];
    among = λ x has. elim (entry_cases x has) as (λ _. Contains (names ++ name ∷ []) x.name) [
      | inl before ↦ Contains-append_left names (name ∷ []) x.name (so_far.among x before)
      | inr (l, holds, file, is, member) ↦ subst (λ (n : Name). Contains (names ++ name ∷ []) n) is (Contains-push names name)
    ];
    from_logs = λ is_told x has. elim (entry_cases x has) as (λ _. (l : List Entry) × IsLogFile files x.name l × Contains l x.entry) [
      | inl before ↦ so_far.from_logs is_told x before
      | inr (l, holds, file, is, member) ↦ (l, subst (λ (n : Name). IsLogFile files n l) is (file is_told), member)
    ];
    stores = λ is_told m bytes has store there gate. elim (Contains-push_cases names name m has) as (λ _. (x : FoundStore) × Contains new.stores.items x × (x.name ≡ m) × IsStoreFile files m.region m (store_of x)) [
      | inl before ↦ (let r = so_far.stores is_told m bytes before store there gate in (r.0, store_kept r.0 r.1, r.2, r.3))
      | inr is ↦ subst (λ (n : Name). (x : FoundStore) × Contains new.stores.items x × (x.name ≡ n) × IsStoreFile files n.region n (store_of x)) is
          (here_stores is_told bytes (ap (λ (n : Name). n.kind) is ∙ store) (ap (λ (n : Name). get files n) is ∙ there) gate)
    ];
    from_stores = λ is_told x has. elim (store_cases x has) as (λ _. IsStoreFile files x.name.region x.name (store_of x)) [
      | inl before ↦ so_far.from_stores is_told x before
      | inr here ↦ subst (λ (n : Name). IsStoreFile files n.region n (store_of x)) (sym here.1) (here.3 is_told)
    ];
    small = λ is_told m bytes has store there. elim (Contains-push_cases names name m has) as (λ _. length bytes < 2 ^ 64) [
      | inl before ↦ so_far.small is_told m bytes before store there
      | inr is ↦ (one.store (ap (λ (n : Name). n.kind) is ∙ store)).small is_told bytes (ap (λ (f : Files). get f name) (same is_told) ∙ ap (λ (n : Name). get files n) is ∙ there)
    ];
    each = λ x has. elim (store_cases x has) as (λ _. IsStore (store_of x) × ((n : Name) × Contains (names ++ name ∷ []) n × (x.name ≡ n) × (n.kind ≡ kinds.Store))) [
      | inl before ↦ (let r = so_far.each x before in (r.0, (r.1.0, Contains-append_left names (name ∷ []) r.1.0 r.1.1, r.1.2, r.1.3)))
      | inr here ↦ (here.2, (name, Contains-push names name, here.1, here.0))
    ];
    rising = still_rising;
  }

pub one_read : (told : Type 0) (files g : Files) (same : told → g ≡ files) (all names : List Name) (name : Name) (old new : FoundFiles) → AreRead told files all names old.entries.items old.stores.items → ReadsOne told g all name old new
    → (told → (m : Name) → Contains names m → name_cmp m name ≡ Less) → AreRead told files all (names ++ name ∷ []) new.entries.items new.stores.items
one_read told files g same all names name old new so_far one below =
    with_good told files all (names ++ name ∷ []) new.entries.items new.stores.items (λ m has. elim (Contains-push_cases names name m has) as (λ _. ¬ IsBadAmong all m) [
      | inl before ↦ so_far.good m before
      | inr is ↦ subst (λ (n : Name). ¬ IsBadAmong all n) is one.good
    ])
    (one_more told files g same names name old new (contents_of told files all names old.entries.items old.stores.items so_far) one.file below)
