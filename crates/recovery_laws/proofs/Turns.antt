-- Files that recover alike.
use Rattle.std.proofs.Common.{◌≡◌, inl, inr, ℕ, ◌≤◌, refl, sym, ◌∙◌, arith}
use Rattle.cell_model.specs.Order.{VersionKey, Payload}
use Rattle.log_model.specs.declared.name.Name.{Name}
use Rattle.log_model.specs.Entry.{Entry}
use Rattle.log_model.specs.Files.{Files, content, HoldsEntries, IsLogFile, IsLogged, IsFit}
use Rattle.log_model.specs.Recovered.{FlushesTo, IsSeen, IsUnflushed, IsRecovered}
use Rattle.recovery_laws.proofs.Names.{entries_no_old, store_no_old}
use Rattle.recovery_laws.proofs.Stores.{SameStores, stores_back, store_kept, counts_kept, flushes_kept, stored_kept, held_family}
use Rattle.recovery_laws.proofs.Numbers.{held_range}
use Rattle.recovery_laws.proofs.Contents.{puts_number}
use Rattle.recovery_laws.proofs.Lasts.{same_last}
use Rattle.recovery_laws.specs.Alike.{AllAlike}
use Rattle.recovery_laws.specs.OpeningLaws.{AlikeInTurn, OldLogsAreNothing}

pub in_turn : AlikeInTurn
in_turn old mid new first second r = record {
  fit = (second r).fit;
  content = λ v p. (λ h. ((second r).content v p).0 (((first r).content v p).0 h), λ h. ((first r).content v p).1 (((second r).content v p).1 h));
  last = λ n. (λ h. ((second r).last n).0 (((first r).last n).0 h), λ h. ((first r).last n).1 (((second r).last n).1 h));
}

-- files in which all logs, edits and stores are the same
module _ {I J : Files} (stores : SameStores I J) (logs : (m : Name) → HoldsEntries m.kind → content J m ≡ content I m) where
  pub log_file_kept : (m : Name) (es : _) → IsLogFile I m es → IsLogFile J m es
  log_file_kept m es f = record { kind = f.kind; bytes = f.bytes; there = logs m f.kind ∙ f.there; ended = f.ended; text = f.text }

  pub all_logged : (e : Entry) → IsLogged I e → IsLogged J e
  all_logged e h = record { name = h.name; entries = h.entries; file = log_file_kept h.name h.entries h.file; member = h.member }

pub same_alike : (I J : Files) → SameStores I J → ((m : Name) → HoldsEntries m.kind → content J m ≡ content I m) → IsFit I → AllAlike I J
same_alike I J stores logs fit r = record {
  fit = record {
    logs = λ m bytes holds there. let f = fit.logs m bytes holds (sym (logs m holds) ∙ there) in (f.0, log_file_kept stores logs m f.0 f.1);
    stores = λ m bytes store there gate. let f = fit.stores m bytes store (sym (stores m store) ∙ there) gate in (f.0, store_kept I J stores m.region m f.0 f.1);
    agree = λ d e hd he region number. fit.agree d e (was d hd) (was e he) region number;
  };
  content = λ v p. (over I J stores logs v p, over J I (stores_back I J stores) back v p);
  last = λ n. same_last I J r (seen I J stores logs) (seen J I (stores_back I J stores) back) n;
}
  where
    back : (m : Name) → HoldsEntries m.kind → content I m ≡ content J m
    back m holds = sym (logs m holds)

    was : (e : Entry) → IsLogged J e → IsLogged I e
    was e h = all_logged (stores_back I J stores) back e h

    over : (A B : Files) → SameStores A B → ((m : Name) → HoldsEntries m.kind → content B m ≡ content A m) → (v : VersionKey) (p : Payload) → IsRecovered A r v p → IsRecovered B r v p
    over A B same log v p (inl st) = inl (stored_kept A B same r v p st)
    over A B same log v p (inr u) = inr (record { entry = u.entry; logged = all_logged same log u.entry u.logged; region = u.region; above = λ n f. u.above n (flushes_kept B A (stores_back A B same) r v.key.family n f); puts = u.puts })

    seen : (A B : Files) → SameStores A B → ((m : Name) → HoldsEntries m.kind → content B m ≡ content A m) → (m : ℕ) → IsSeen A r m → (n : ℕ) × IsSeen B r n × (m ≤ n)
    seen A B same log m (inl f) = (m, inl (f.0, f.1, counts_kept A B same r f.0 f.1 f.2, f.3), omega arith)
    seen A B same log m (inr (e, h, region, number)) = (m, inr (e, all_logged same log e h, region, number), omega arith)

pub but_old : OldLogsAreNothing
but_old old new same fit = same_alike old new (λ m store. same m (store_no_old m.kind store)) (λ m holds. same m (entries_no_old m.kind holds)) fit

-- Where the stores are the same and the same recovers, the same is unflushed: its versions are above what is flushed, and
-- stored ones are not.
pub unflushed_too : (I J : Files) (r : ℕ) → SameStores I J → ((v : VersionKey) (p : Payload) → IsRecovered I r v p → IsRecovered J r v p) → (v : VersionKey) (p : Payload) → IsUnflushed I r v p → IsUnflushed J r v p
unflushed_too I J r same recovers v p u = elim (recovers v p (inr u)) as (λ _. IsUnflushed J r v p) [
  | inl st ↦
      let for = held_family r st.file.file.bytes st.store v p st.file.file.text st.holds in
      let f : FlushesTo I r v.key.family st.store.to = flushes_kept J I (stores_back I J same) r v.key.family st.store.to (st.name, st.store, st.file, for, refl) in
      absurd (omega (arith, u.above st.store.to f, puts_number u.entry v p u.puts, (held_range r st.file.file.bytes st.store v p st.file.file.text st.holds).1))
  | inr w ↦ w
]
