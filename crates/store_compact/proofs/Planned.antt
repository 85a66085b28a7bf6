-- What files recover to where one store takes the place of a region's others.
use Rattle.std.proofs.Common.{◌≡◌, ◌⊎◌, inl, inr, ℕ, ◌<◌, ◌≤◌, List, Some, refl, sym, ap, ◌∙◌, subst, arith}
use Rattle.std.proofs.lemmas.Bool.{cases_eq}
use Rattle.cell_model.specs.declared.form.Form.TheVariants.{Tagged}
use Rattle.cell_model.specs.Order.{NumberedCell}
use Rattle.log_model.specs.declared.name.Name.{Name}
use Rattle.log_model.specs.declared.name.NameKind.TheVariants as kinds
use Rattle.log_model.specs.StoreText.{Store, IsStore, IsStoreText, IsThere, store_text}
use Rattle.log_model.specs.Files.{Files, content, IsAbsent, IsPresent, IsStoreFile, IsFit}
use Rattle.log_model.specs.Recovered.{IsCounting, IsSeen, Holds}
use Rattle.recovery_laws.specs.Kept.{HasNoLogs}
use Rattle.recovery_laws.proofs.Names.{name_cases}
use Rattle.recovery_laws.proofs.OneStore.{one_store}
use Rattle.recovery_laws.proofs.Lasts.{same_last}
use Rattle.store_file.proofs.Texts.{tagged_text}
use Rattle.region_replay.specs.Stored.{IsNextNumber}
use Rattle.store_compact.specs.declared.kind.CompactKind.{CompactKind}
use Rattle.store_compact.specs.Compacting.{kept_by, AreStoredCells, IsCompacted, IsCompactedIn, HasOneStore}
use Rattle.store_compact.specs.Plan.{IsReplaced}
use Rattle.store_compact.proofs.Stores.{none_logged, alike_where}

-- the store is to take the place of the region's others
pub record IsPlan (found : Files) (kind : CompactKind) (name : Name) (s : Store) : Type 0 where
  pub store_kind : name.kind ≡ kinds.Store
  pub region : s.region ≡ name.region
  pub store : IsStore s
  pub scope : s.scope ≡ 1
  pub number : IsNextNumber found name.region name.number
  pub cells : List NumberedCell
  pub before : AreStoredCells found name.region cells
  pub kept : s.cells ≡ kept_by kind cells
  pub from : ((m : Name) (t : Store) → IsCounting found name.region m t → s.from ≤ t.from) × ((m : Name) × (t : Store) × IsCounting found name.region m t × (t.from ≡ s.from))
  pub to : ((m : Name) (t : Store) → IsCounting found name.region m t → t.to ≤ s.to) × ((m : Name) × (t : Store) × IsCounting found name.region m t × (t.to ≡ s.to))
  pub no_logs : HasNoLogs found

gate_of : (s : Store) → IsThere (store_text Tagged s)
unfolding store_text
gate_of s = (omega arith, refl)

module _ (F J : Files) (kind : CompactKind) (name : Name) (s : Store) (plan : IsPlan F kind name s) (is : IsReplaced F name (store_text Tagged s) J) where
  new_file : IsStoreFile J name.region name s
  new_file = record {
    kind = plan.store_kind;
    of = refl;
    bytes = store_text Tagged s;
    there = is.new;
    gate = gate_of s;
    text = subst (λ (q : ℕ). IsStoreText q (store_text Tagged s) s) plan.region (tagged_text s plan.store);
  }

  -- each other one has a lower number
  old_file : (m : Name) (t : Store) → IsStoreFile J name.region m t → (m ≡ name) ⊎ (m.number < name.number)
  old_file m t f = elim (name_cases m name) as (λ _. (m ≡ name) ⊎ (m.number < name.number)) [
    | inl at ↦ inl at
    | inr apart ↦ inr (plan.number.above m f.kind f.of (λ none. elim (is.own m f.kind f.of apart) as (λ _. ⊥) [
      | inl same ↦ absurd (cc (sym (same ∙ none) ∙ f.there))
      | inr gone ↦ absurd (cc (sym gone ∙ f.there))
    ]))
  ]

  same_bytes : (a b : List ℕ) → Some a ≡ Some b → a ≡ b
  same_bytes a b e = cc e

  is_new : (m : Name) (t : Store) → IsStoreFile J name.region m t → m ≡ name → t ≡ s
  unfolding store_text new_file
  is_new m t f at =
      let bytes : f.bytes ≡ store_text Tagged s = same_bytes f.bytes (store_text Tagged s) (sym f.there ∙ ap (λ (n : Name). content J n) at ∙ is.new) in
      one_store name.region (store_text Tagged s) t s (subst (λ (b : List ℕ). IsStoreText name.region b t) bytes f.text) new_file.text

  one_counts : (m : Name) (t : Store) → IsCounting J name.region m t → (m ≡ name) × (t ≡ s)
  one_counts m t c = elim (old_file m t c.file) as (λ _. (m ≡ name) × (t ≡ s)) [
    | inl at ↦ (at, is_new m t c.file at)
    | inr lower ↦ (let up = c.stands name s new_file plan.scope in absurd (omega (arith, lower, up)))
  ]

  new_counts : IsCounting J name.region name s
  new_counts = record {
    file = new_file;
    stands = λ other t f scope. elim (old_file other t f) as (λ _. other.number ≤ name.number) [
      | inl at ↦ (let number : other.number ≡ name.number = ap (λ (m : Name). m.number) at in omega (arith, number))
      | inr lower ↦ omega (arith, lower)
    ];
  }

  stored : AreStoredCells J name.region s.cells
  stored = record {
    rising = plan.store.rising;
    same = λ v p. (
      λ st. subst (λ (t : Store). Holds t v p) (one_counts st.name st.store st.file).1 st.holds,
      λ h. record {
        name = name;
        store = s;
        file = new_counts;
        holds = h;
        newest = λ other t q c holds. (let number : other.number ≡ name.number = ap (λ (m : Name). m.number) (one_counts other t c).0 in omega (arith, number));
      },
    );
  }

  seen_new : (m : ℕ) → IsSeen F name.region m → (n : ℕ) × IsSeen J name.region n × (m ≤ n)
  seen_new m (inl (k, t, c, to)) = (s.to, inl (name, s, new_counts, refl), (let low = plan.to.0 k t c in omega (arith, low, to)))
  seen_new m (inr e) = absurd (none_logged F plan.no_logs e.0 e.1)

  seen_old : (m : ℕ) → IsSeen J name.region m → (n : ℕ) × IsSeen F name.region n × (m ≤ n)
  seen_old m (inl (k, t, c, to)) =
      let top = plan.to.1 in
      let same : t.to ≡ s.to = ap (λ (u : Store). u.to) (one_counts k t c).1 in
      (top.1.to, inl (top.0, top.1, top.2, refl), (let reached = top.3 in omega (arith, same, to, reached)))
  seen_old m (inr e) = absurd (none_logged J is.no_logs e.0 e.1)

  pub compacted_in : IsCompactedIn F name.region kind J
  compacted_in = record {
    cells = plan.cells;
    before = plan.before;
    after = subst (λ (l : List NumberedCell). AreStoredCells J name.region l) plan.kept stored;
    last = λ n. same_last F J name.region seen_new seen_old n;
    others = is.others;
  }

  module _ (fit : IsFit F) where
    from_found : (m : Name) (bytes : List ℕ) → m.kind ≡ kinds.Store → content J m ≡ content F m → content J m ≡ Some bytes → IsThere bytes → (t : Store) × IsStoreFile J m.region m t
    from_found m bytes store same there gate =
        let f = fit.stores m bytes store (sym same ∙ there) gate in
        (f.0, record { kind = f.1.kind; of = f.1.of; bytes = f.1.bytes; there = same ∙ f.1.there; gate = f.1.gate; text = f.1.text })

    fit_now : IsFit J
    fit_now = record {
      logs = λ m bytes holds there. absurd (cc (sym (is.no_logs m holds) ∙ there));
      stores = λ m bytes store there gate. elim (name_cases m name) as (λ _. (t : Store) × IsStoreFile J m.region m t) [
        | inl at ↦ (s, subst (λ (n : Name). IsStoreFile J n.region n s) (sym at) new_file)
        | inr apart ↦ elim (cases_eq m.region name.region) as (λ _. (t : Store) × IsStoreFile J m.region m t) [
          | inl region ↦ elim (is.own m store region apart) as (λ _. (t : Store) × IsStoreFile J m.region m t) [
            | inl same ↦ from_found m bytes store same there gate
            | inr gone ↦ absurd (cc (sym gone ∙ there))
          ]
          | inr other ↦ from_found m bytes store (is.others m store other) there gate
        ]
      ];
      agree = λ d e hd he region number. absurd (none_logged J is.no_logs d hd);
    }

    pub compacted : IsCompacted F name.region kind J
    compacted = record {
      fit = fit_now;
      no_logs = is.no_logs;
      cells = plan.cells;
      before = plan.before;
      after = subst (λ (l : List NumberedCell). AreStoredCells J name.region l) plan.kept stored;
      last = λ n. same_last F J name.region seen_new seen_old n;
      others = λ q apart. alike_where q F J (λ m store region. is.others m store (λ at. apart (sym region ∙ at))) plan.no_logs is.no_logs fit_now;
    }

  pub one_left : ((m : Name) → m.kind ≡ kinds.Store → m.region ≡ name.region → IsPresent F m → IsAbsent J m) → HasOneStore F name.region J
  one_left gone = record {
    name = name;
    store = s;
    file = new_file;
    scope = plan.scope;
    number = plan.number;
    from = plan.from;
    to = plan.to;
    only = λ m store region present. elim (name_cases m name) as (λ _. m ≡ name) [
      | inl at ↦ at
      | inr apart ↦ elim (is.own m store region apart) as (λ _. m ≡ name) [
        | inl same ↦ absurd (present (gone m store region (λ none. present (same ∙ none))))
        | inr none ↦ absurd (present none)
      ]
    ];
  }
