-- A store file with the cells of what was flushed: files with it are like what is kept.
use Rattle.std.proofs.Common.{◌≡◌, ◌≢◌, ◌⊎◌, inl, inr, ℕ, ◌<◌, ◌≤◌, List, refl, sym, ap, ◌∙◌, subst, arith}
use Rattle.std.specs.FinMap.{get}
use Rattle.std.proofs.lemmas.Bool.{cases_lt}
use Rattle.cell_model.specs.Order.{VersionKey, Payload}
use Rattle.log_model.specs.declared.name.Name.{Name}
use Rattle.log_model.specs.declared.name.NameKind.TheVariants as kinds
use Rattle.log_model.specs.Entry.{Entry}
use Rattle.log_model.specs.StoreText.{Store}
use Rattle.log_model.specs.Files.{Files, SameBut, HoldsEntries, IsLogged, IsStoreFile}
use Rattle.log_model.specs.Recovered.{Holds, IsFor, IsCounting, FlushesTo, IsFlushed, IsStored, IsRecovered}
use Rattle.recovery_laws.specs.Kept.{Kept, PutUpTo, IsLike, flushed_to, IsCut, IsNotThere, IsNotReplaced}
use Rattle.recovery_laws.proofs.Names.{name_cases, store_apart}
use Rattle.recovery_laws.proofs.Lists.{flush_cases, flushed_here, flushed_there}
use Rattle.recovery_laws.proofs.Contents.{puts_number}
use Rattle.recovery_laws.proofs.Stores.{Counts, flushes_by, stored_by, flushed_by, held_family}
use Rattle.recovery_laws.proofs.Numbers.{held_range}

module _ (name : Name) (kind : name.kind ≡ kinds.Store) (I J : Files) (same : SameBut name I J) where
  pub log_same : (n : Name) → HoldsEntries n.kind → get J n ≡ get I n
  log_same n holds = same n (λ at. store_apart name n kind holds (sym at))

  pub logs_kept : (e : Entry) → IsLogged I e → IsLogged J e
  logs_kept e h = record { name = h.name; entries = h.entries; file = record { kind = h.file.kind; bytes = h.file.bytes; there = log_same h.name h.file.kind ∙ h.file.there; ended = h.file.ended; text = h.file.text }; member = h.member }

  pub logs_were : (e : Entry) → IsLogged J e → IsLogged I e
  logs_were e h = record { name = h.name; entries = h.entries; file = record { kind = h.file.kind; bytes = h.file.bytes; there = sym (log_same h.name h.file.kind) ∙ h.file.there; ended = h.file.ended; text = h.file.text }; member = h.member }

  pub other_store : (r : ℕ) (n : Name) (s : Store) → n ≢ name → IsStoreFile I r n s → IsStoreFile J r n s
  other_store r n s apart f = record { kind = f.kind; of = f.of; bytes = f.bytes; there = same n apart ∙ f.there; gate = f.gate; text = f.text }

  pub other_was : (r : ℕ) (n : Name) (s : Store) → n ≢ name → IsStoreFile J r n s → IsStoreFile I r n s
  other_was r n s apart f = record { kind = f.kind; of = f.of; bytes = f.bytes; there = sym (same n apart) ∙ f.there; gate = f.gate; text = f.text }

  module _ (not_before : IsNotThere (get I name)) where
    pub apart_before : (r : ℕ) (n : Name) (s : Store) → IsStoreFile I r n s → n ≢ name
    apart_before r n s f at = not_before f.bytes (sym (ap (get I) at) ∙ f.there) f.gate

    pub store_still : (r : ℕ) (n : Name) (s : Store) → IsStoreFile I r n s → IsStoreFile J r n s
    store_still r n s f = other_store r n s (apart_before r n s f) f

    -- a store that isn't there yet changes nothing
    pub unopened : (k : Kept) → IsNotThere (get J name) → IsLike k I → IsLike k J
    unopened k not_now like = record {
      fit = record {
        logs = λ n bytes holds there. let f = like.fit.logs n bytes holds (sym (log_same n holds) ∙ there) in (f.0, record { kind = f.1.kind; bytes = f.1.bytes; there = log_same n holds ∙ f.1.there; ended = f.1.ended; text = f.1.text });
        stores = λ n bytes store there gate.
            let apart : n ≢ name = λ at. not_now bytes (sym (ap (get J) at) ∙ there) gate in
            let f = like.fit.stores n bytes store (sym (same n apart) ∙ there) gate in (f.0, store_still n.region n f.0 f.1);
        agree = λ d e hd he region number. like.fit.agree d e (logs_were d hd) (logs_were e he) region number;
      };
      flushed = λ r f. flushed_by I J counts_now counted r f (k.flushed r f) (like.flushed r f);
      stored = λ r v p. (λ h. (like.stored r v p).0 (stored_by J I counted counts_now r v p h), λ h. stored_by I J counts_now counted r v p ((like.stored r v p).1 h));
      sure = λ e f member has above. logs_kept e (like.sure e f member has above);
      only = λ e f logged has above. like.only e f (logs_were e logged) has (λ n h. above n (flushes_by I J counts_now e.region f n h));
      numbers = λ e logged. like.numbers e (logs_were e logged);
    }
      where
        was : (r : ℕ) (n : Name) (s : Store) → IsStoreFile J r n s → IsStoreFile I r n s
        was r n s f = other_was r n s (λ at. not_now f.bytes (sym (ap (get J) at) ∙ f.there) f.gate) f

        counts_now : Counts I J
        counts_now r n s c = record { file = store_still r n s c.file; stands = λ other t f one. c.stands other t (was r other t f) one }

        counted : Counts J I
        counted r n s c = record { file = was r n s c.file; stands = λ other t f one. c.stands other t (store_still r other t f) one }

    -- a store of the scope 0 that is there and isn't replaced counts, and the others count as before
    module _ (s : Store) (file : IsStoreFile J name.region name s) (plain : s.scope ≡ 0) (stands : IsNotReplaced I name)
        (only_one : (t : Store) → IsStoreFile J name.region name t → t ≡ s) where
      pub was : (q : ℕ) (m : Name) (t : Store) → IsStoreFile J q m t → ((m ≡ name) × (q ≡ name.region) × (t ≡ s)) ⊎ IsStoreFile I q m t
      was q m t f = elim (name_cases m name) as (λ _. ((m ≡ name) × (q ≡ name.region) × (t ≡ s)) ⊎ IsStoreFile I q m t) [
        | inl at ↦ inl (at, sym f.of ∙ ap (λ (x : Name). x.region) at, only_one t (subst (λ (x : Name). IsStoreFile J name.region x t) at (subst (λ (y : ℕ). IsStoreFile J y m t) (sym f.of ∙ ap (λ (x : Name). x.region) at) f)))
        | inr apart ↦ inr (other_was q m t apart f)
      ]

      pub new_counts : IsCounting J name.region name s
      new_counts = record {
        file = file;
        stands = λ other t f one. elim (was name.region other t f) as (λ _. other.number ≤ name.number) [
          | inl new ↦ (let at : other.number ≡ name.number = ap (λ (x : Name). x.number) new.0 in omega (arith, at))
          | inr old ↦ stands other t old one
        ];
      }

      pub old_counts : Counts I J
      old_counts q m t c = record {
        file = store_still q m t c.file;
        stands = λ other u f one. elim (was q other u f) as (λ _. other.number ≤ m.number) [
          | inl new ↦ absurd (let scope : u.scope ≡ 0 = ap (λ (x : Store). x.scope) new.2 ∙ plain in omega (arith, scope, one))
          | inr old ↦ c.stands other u old one
        ];
      }

      pub was_counting : (q : ℕ) (m : Name) (t : Store) → IsCounting J q m t → ((m ≡ name) × (q ≡ name.region) × (t ≡ s)) ⊎ IsCounting I q m t
      was_counting q m t c = elim (was q m t c.file) as (λ _. ((m ≡ name) × (q ≡ name.region) × (t ≡ s)) ⊎ IsCounting I q m t) [
        | inl new ↦ inl new
        | inr old ↦ inr (record { file = old; stands = λ other u f one. c.stands other u (store_still q other u f) one })
      ]

    -- a store that is there with the cut moves what is flushed of its family, and nothing recovers otherwise
    module _ (k : Kept) (family : List ℕ) (n : ℕ) (s : Store) (cut : IsCut k name.region family n s) (file : IsStoreFile J name.region name s) (stands : IsNotReplaced I name)
        (only_one : (t : Store) → IsStoreFile J name.region name t → t ≡ s) (like : IsLike k I) where
      abbrev pub r : ℕ
      r = name.region

      abbrev pub after : Kept
      after = flushed_to k r family n

      counting_was : (q : ℕ) (m : Name) (t : Store) → IsCounting J q m t → ((m ≡ name) × (q ≡ r) × (t ≡ s)) ⊎ IsCounting I q m t
      counting_was = was_counting s file cut.scope stands only_one

      still : Counts I J
      still = old_counts s file cut.scope stands only_one

      shown : IsCounting J r name s
      shown = new_counts s file cut.scope stands only_one

      here : (q : ℕ) (f : List ℕ) → r ≡ q → IsFor family f → after.flushed q f ≡ n
      here q f is for = flushed_here k r family n q f is for

      there : (q : ℕ) (f : List ℕ) → (r ≡ q → IsFor family f → ⊥) → after.flushed q f ≡ k.flushed q f
      there q f other = flushed_there k r family n q f other

      no_less : (q : ℕ) (f : List ℕ) → k.flushed q f ≤ after.flushed q f
      no_less q f = elim (flush_cases r family q f) as (λ _. k.flushed q f ≤ after.flushed q f) [
        | inl hit ↦ let at : k.flushed r f ≡ k.flushed q f = ap (λ (x : ℕ). k.flushed x f) hit.0 in omega (arith, at, here q f hit.0 hit.1, cut.more f hit.1)
        | inr other ↦ omega (arith, there q f other)
      ]

      now_flushed : (q : ℕ) (f : List ℕ) → IsFlushed J q f (after.flushed q f)
      now_flushed q f = record {
        reached = elim (flush_cases r family q f) as (λ _. FlushesTo J q f (after.flushed q f) ⊎ (after.flushed q f ≡ 0)) [
          | inl hit ↦ inl (name, s, subst (λ (y : ℕ). IsCounting J y name s) hit.0 shown, subst (λ (g : List ℕ). IsFor g f) (sym cut.of) hit.1, cut.to ∙ sym (here q f hit.0 hit.1))
          | inr other ↦ elim (like.flushed q f).reached as (λ _. FlushesTo J q f (after.flushed q f) ⊎ (after.flushed q f ≡ 0)) [
            | inl h ↦ inl (h.0, h.1, still q h.0 h.1 h.2, h.3, h.4 ∙ sym (there q f other))
            | inr none ↦ inr (there q f other ∙ none)
          ]
        ];
        bound = λ m h. elim (counting_was q h.0 h.1 h.2) as (λ _. m ≤ after.flushed q f) [
          | inl new ↦
              let at : h.1.to ≡ s.to = ap (λ (t : Store). t.to) new.2 in
              let of : h.1.family ≡ family = ap (λ (t : Store). t.family) new.2 ∙ cut.of in
              omega (arith, at, h.4, cut.to, here q f (sym new.1) (subst (λ (g : List ℕ). IsFor g f) of h.3))
          | inr old ↦ omega (arith, (like.flushed q f).bound m (h.0, h.1, old, h.3, h.4), no_less q f)
        ];
      }

      -- a version that an older store of the region holds is below those of the cut
      old_low : (m : Name) (t : Store) (v : VersionKey) (p : Payload) → IsCounting I r m t → Holds t v p → v.number ≤ k.flushed r v.key.family
      old_low m t v p c h = omega (arith, (held_range r c.file.bytes t v p c.file.text h).1, (like.flushed r v.key.family).bound t.to (m, t, c, held_family r c.file.bytes t v p c.file.text h, refl))

      new_high : (v : VersionKey) (p : Payload) → Holds s v p → k.flushed r v.key.family < v.number
      new_high v p h = let put = (cut.cells v p).0 h in omega (arith, put.3, puts_number put.0 v p put.6)

      now_stored : (q : ℕ) (v : VersionKey) (p : Payload) → IsStored J q v p → IsRecovered k.base q v p ⊎ PutUpTo k.durable (after.flushed q v.key.family) q v p
      now_stored q v p h = elim (counting_was q h.name h.store h.file) as (λ _. IsRecovered k.base q v p ⊎ PutUpTo k.durable (after.flushed q v.key.family) q v p) [
        | inl new ↦
            let put = (cut.cells v p).0 (subst (λ (t : Store). Holds t v p) new.2 h.holds) in
            inr (put.0, put.1, put.2 ∙ sym new.1, omega (arith, put.4, here q v.key.family (sym new.1) put.5), put.6)
        | inr old ↦
            elim ((like.stored q v p).0 (record { name = h.name; store = h.store; file = old; holds = h.holds; newest = λ other t y c holds. h.newest other t y (still q other t c) holds })) as (λ _. IsRecovered k.base q v p ⊎ PutUpTo k.durable (after.flushed q v.key.family) q v p) [
              | inl base ↦ inl base
              | inr put ↦ inr (put.0, put.1, put.2, omega (arith, put.3, no_less q v.key.family), put.4)
            ]
      ]

      old_stored : (q : ℕ) (v : VersionKey) (p : Payload) → IsStored I q v p → IsStored J q v p
      old_stored q v p i = record {
        name = i.name;
        store = i.store;
        file = still q i.name i.store i.file;
        holds = i.holds;
        newest = λ other t y c holds. elim (counting_was q other t c) as (λ _. other.number ≤ i.name.number) [
          | inl new ↦ absurd (omega (
            arith,
            new_high v y (subst (λ (x : Store). Holds x v y) new.2 holds),
            old_low i.name i.store v p (subst (λ (x : ℕ). IsCounting I x i.name i.store) new.1 i.file) i.holds,
          ))
          | inr old ↦ i.newest other t y old holds
        ];
      }

      cut_stored : (v : VersionKey) (p : Payload) → Holds s v p → IsStored J r v p
      cut_stored v p h = record {
        name = name;
        store = s;
        file = shown;
        holds = h;
        newest = λ other t y c holds. elim (counting_was r other t c) as (λ _. other.number ≤ name.number) [
          | inl new ↦ let at : other.number ≡ name.number = ap (λ (x : Name). x.number) new.0 in omega (arith, at)
          | inr old ↦ absurd (omega (arith, new_high v p h, old_low other t v y old holds))
        ];
      }

      was_stored : (q : ℕ) (v : VersionKey) (p : Payload) → IsRecovered k.base q v p ⊎ PutUpTo k.durable (after.flushed q v.key.family) q v p → IsStored J q v p
      was_stored q v p (inl base) = old_stored q v p ((like.stored q v p).1 (inl base))
      was_stored q v p (inr put) = elim (cases_lt (k.flushed q v.key.family) put.0.number) as (λ _. IsStored J q v p) [
        | inl above ↦ elim (flush_cases r family q v.key.family) as (λ _. IsStored J q v p) [
          | inl hit ↦
              let at : k.flushed r v.key.family ≡ k.flushed q v.key.family = ap (λ (x : ℕ). k.flushed x v.key.family) hit.0 in
              subst (λ (x : ℕ). IsStored J x v p) hit.0
              (cut_stored v p ((cut.cells v p).1 (put.0, put.1, put.2 ∙ sym hit.0, omega (arith, above, at), omega (arith, put.3, here q v.key.family hit.0 hit.1), hit.1, put.4)))
          | inr other ↦ absurd (omega (arith, above, put.3, there q v.key.family other))
        ]
        | inr low ↦ old_stored q v p ((like.stored q v p).1 (inr (put.0, put.1, put.2, low, put.4)))
      ]

      pub opened : IsLike after J
      opened = record {
        fit = record {
          logs = λ m bytes holds at. let f = like.fit.logs m bytes holds (sym (log_same m holds) ∙ at) in (f.0, record { kind = f.1.kind; bytes = f.1.bytes; there = log_same m holds ∙ f.1.there; ended = f.1.ended; text = f.1.text });
          stores = λ m bytes store at gate. elim (name_cases m name) as (λ _. (t : Store) × IsStoreFile J m.region m t) [
            | inl is ↦ subst (λ (x : Name). (t : Store) × IsStoreFile J x.region x t) (sym is) (s, file)
            | inr apart ↦ let f = like.fit.stores m bytes store (sym (same m apart) ∙ at) gate in (f.0, store_still m.region m f.0 f.1)
          ];
          agree = λ d e hd he region number. like.fit.agree d e (logs_were d hd) (logs_were e he) region number;
        };
        flushed = now_flushed;
        stored = λ q v p. (now_stored q v p, was_stored q v p);
        sure = λ e f member has above. logs_kept e (like.sure e f member has (omega (arith, above, no_less e.region f)));
        only = λ e f logged has above. like.only e f (logs_were e logged) has (λ m h. above m (h.0, h.1, still e.region h.0 h.1 h.2, h.3, h.4));
        numbers = λ e logged. like.numbers e (logs_were e logged);
      }
