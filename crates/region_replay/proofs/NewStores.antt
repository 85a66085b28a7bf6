-- The store that is new of a region, as it is handed on.
use Rattle.std.proofs.Common.{◌≡◌, ◌≢◌, inl, inr, ℕ, ◌+◌, ◌<◌, ◌≤◌, List, [], Contains, refl, sym, ap, ◌∙◌, subst, arith}
use Rattle.cell_model.specs.declared.form.Form.TheVariants.{Tagged}
use Rattle.cell_model.specs.Order.{NumberedCell}
use Rattle.log_model.specs.declared.name.Name.{Name}
use Rattle.log_model.specs.declared.name.NameKind.TheVariants as kinds
use Rattle.log_model.specs.StoreText.{IsStore, store_text}
use Rattle.log_model.specs.Files.{Files, content, IsAbsent, IsPresent}
use Rattle.log_model.specs.Recovered.{IsWhole}
use Rattle.region_model.specs.Journal.{Base}
use Rattle.disk_images.specs.Crash.{DiskView}
use Rattle.disk_images.specs.OneFile.{IsDurableFile}
use Rattle.disk_images.proofs.Settled.{present_cases}
use Rattle.store_file.proofs.Texts.{tagged_text}
use Rattle.flush_snapshot.specs.Cut.{cut_store}
use Rattle.recovery_laws.specs.Alike.{StoresStand}
use Rattle.recovery_laws.proofs.Stores.{flushed_kept}
use Rattle.region_replay.specs.declared.found.RegionFiles.{RegionFiles}
use Rattle.region_replay.specs.Names.{store_name}
use Rattle.region_replay.specs.Opened.{AreStoresReplayed}
use Rattle.region_replay.specs.Ready.{Found}
use Rattle.region_replay.specs.Regions.{IsInOrder, IsFound}
use Rattle.region_replay.specs.Stored.{IsNextNumber, HasReplayStore, StoresReplayed}
use Rattle.region_replay.proofs.Cutting.{gate_of}

-- a cut that was written
pub cut_stored : (w : DiskView) (name : Name) (from to : ℕ) (cut : List NumberedCell) → name.kind ≡ kinds.Store → IsStore (cut_store name [] from to cut) → IsDurableFile w name (store_text Tagged (cut_store name [] from to cut))
    → HasReplayStore w.files name from to
cut_stored w name from to cut kind store durable = record {
  store = cut_store name [] from to cut;
  file = record { kind = kind; of = refl; bytes = store_text Tagged (cut_store name [] from to cut); there = durable.reads; gate = gate_of (cut_store name [] from to cut); text = tagged_text (cut_store name [] from to cut) store };
  scope = refl;
  family = refl;
  from = refl;
  to = refl;
}

-- a file that is the same is that store
pub still_stored : (I J : Files) (name : Name) (first last : ℕ) → content J name ≡ content I name → HasReplayStore I name first last → HasReplayStore J name first last
still_stored I J name first last same h = record {
  store = h.store;
  file = record { kind = h.file.kind; of = h.file.of; bytes = h.file.bytes; there = same ∙ h.file.there; gate = h.file.gate; text = h.file.text };
  scope = h.scope;
  family = h.family;
  from = h.from;
  to = h.to;
}

-- the same stores of the region
abbrev pub SameStoresOf : ℕ → Files → Files → Type 0
SameStoresOf r I J = (m : Name) → m.kind ≡ kinds.Store → m.region ≡ r → content J m ≡ content I m

next_on : (r : ℕ) (I J : Files) → SameStoresOf r I J → (n : ℕ) → IsNextNumber I r n → IsNextNumber J r n
next_on r I J same n next = record {
  given = next.given;
  above = λ m store region here. next.above m store region (λ gone. here (same m store region ∙ gone));
  least = λ k bound. next.least k (λ m store region here. bound m store region (λ gone. here (sym (same m store region) ∙ gone)));
}

-- what is new of a region stays where its stores are the same
pub stored_on : (old I J : Files) (r : ℕ) (y : Found) → SameStoresOf r I J → StoresReplayed old I r y → StoresReplayed old J r y
stored_on old I J r y same s = record {
  whole = s.whole;
  was = s.was;
  reaches = s.reaches;
  number = s.number;
  next = s.next;
  stored = λ more. (let h = s.stored more in (still_stored I J (store_name r s.number) (s.whole + 1) y.base.last (same (store_name r s.number) refl refl) h.0, h.1));
  none = λ is. (let h = s.none is in (same (store_name r s.number) refl refl ∙ h.0, h.1));
  others = λ m store region apart. same m store region ∙ s.others m store region apart;
}

-- and is new since files that had the same stores of it
pub stored_since : (old now new : Files) (r : ℕ) (y : Found) → SameStoresOf r old now → ((n : ℕ) → IsWhole now r n → IsWhole old r n) → StoresReplayed now new r y → StoresReplayed old new r y
stored_since old now new r y same whole s = record {
  whole = s.whole;
  was = whole s.whole s.was;
  reaches = s.reaches;
  number = s.number;
  next = next_on r now old (λ m store region. sym (same m store region)) s.number s.next;
  stored = s.stored;
  none = s.none;
  others = λ m store region apart. s.others m store region apart ∙ same m store region;
}

pub all_stored_since : (old now new : Files) → StoresStand old now → (r : ℕ) (y : Found) → StoresReplayed now new r y → StoresReplayed old new r y
all_stored_since old now new stand r y = stored_since old now new r y (λ m store region. stand m store) (λ n. flushed_kept now old (λ m store. sym (stand m store)) r [] n)

-- ---- by what was found of the region

module _ (files new : Files) {told : Type 0} (x : RegionFiles) (order : IsInOrder told x) (found : IsFound files x)
    (others : (m : Name) → m ≢ store_name x.region x.next_store → ((n : Name) → Contains x.edits.items n → m ≢ n) → content new m ≡ content files m) (b : Base) (to : ℕ) (last : b.last ≡ to) where
  next_found : IsNextNumber files x.region x.next_store
  next_found = record { given = order.next_given; above = found.next; least = found.few }

  no_edits : (m : Name) → m.kind ≡ kinds.Store → (n : Name) → Contains x.edits.items n → m ≢ n
  no_edits m store n has is = absurd (cc (sym store ∙ ap (λ (k : Name). k.kind) is ∙ order.edits.kind n has))

  -- a store was written
  pub one_stored : x.flushed.whole < to → HasReplayStore new (store_name x.region x.next_store) (x.flushed.whole + 1) to
      → StoresReplayed files new x.region (record { base = b; flushed = to; next_store = x.next_store + 1 })
  one_stored more has = record {
    whole = x.flushed.whole;
    was = found.whole;
    reaches = omega (arith, more, last);
    number = x.next_store;
    next = next_found;
    stored = λ up. (subst (λ (n : ℕ). HasReplayStore new (store_name x.region x.next_store) (x.flushed.whole + 1) n) (sym last) has, refl);
    none = λ is. absurd (omega (arith, more, last, is));
    others = λ m store region apart. others m apart (no_edits m store);
  }

  -- none was
  pub none_stored : x.flushed.whole ≡ to → content new (store_name x.region x.next_store) ≡ content files (store_name x.region x.next_store)
      → StoresReplayed files new x.region (record { base = b; flushed = to; next_store = x.next_store })
  none_stored is same = record {
    whole = x.flushed.whole;
    was = found.whole;
    reaches = omega (arith, is, last);
    number = x.next_store;
    next = next_found;
    stored = λ up. absurd (omega (arith, up, last, is));
    none = λ whole. (same ∙ absent, refl);
    others = λ m store region apart. others m apart (no_edits m store);
  }
    where
      absent : IsAbsent files (store_name x.region x.next_store)
      absent = elim (present_cases files (store_name x.region x.next_store)) as (λ _. IsAbsent files (store_name x.region x.next_store)) [
        | inl gone ↦ gone
        | inr some ↦ (let low = found.next (store_name x.region x.next_store) refl refl (λ gone. absurd (cc (sym gone ∙ some.1))) in absurd (omega (arith, low)))
      ]
