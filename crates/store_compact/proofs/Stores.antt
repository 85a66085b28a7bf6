-- Files of which a region's stores are the same, where there is no log.
use Rattle.std.proofs.Common.{◌≡◌, inl, inr, ℕ, ◌≤◌, sym, ◌∙◌, arith}
use Rattle.cell_model.specs.Order.{VersionKey, Payload}
use Rattle.log_model.specs.declared.name.Name.{Name}
use Rattle.log_model.specs.declared.name.NameKind.TheVariants as kinds
use Rattle.log_model.specs.Entry.{Entry}
use Rattle.log_model.specs.StoreText.{Store}
use Rattle.log_model.specs.Files.{Files, content, IsLogged, IsStoreFile, IsFit}
use Rattle.log_model.specs.Recovered.{IsCounting, IsRecovered, IsSeen, RecoversAlike}
use Rattle.recovery_laws.specs.Kept.{HasNoLogs}
use Rattle.recovery_laws.proofs.Lasts.{same_last}

abbrev pub SameStoresOf : ℕ → Files → Files → Type 0
SameStoresOf q I J = (m : Name) → m.kind ≡ kinds.Store → m.region ≡ q → content J m ≡ content I m

back : (q : ℕ) (I J : Files) → SameStoresOf q I J → SameStoresOf q J I
back q I J same m store region = sym (same m store region)

store_on : (q : ℕ) (I J : Files) → SameStoresOf q I J → (m : Name) (s : Store) → IsStoreFile I q m s → IsStoreFile J q m s
store_on q I J same m s f = record { kind = f.kind; of = f.of; bytes = f.bytes; there = same m f.kind f.of ∙ f.there; gate = f.gate; text = f.text }

counts_on : (q : ℕ) (I J : Files) → SameStoresOf q I J → (m : Name) (s : Store) → IsCounting I q m s → IsCounting J q m s
counts_on q I J same m s c = record { file = store_on q I J same m s c.file; stands = λ other t f scope. c.stands other t (store_on q J I (back q I J same) other t f) scope }

-- nothing is logged
pub none_logged : (files : Files) → HasNoLogs files → (e : Entry) → IsLogged files e → ⊥
none_logged files none e h = absurd (cc (sym (none h.name h.file.kind) ∙ h.file.there))

over : (q : ℕ) (I J : Files) → SameStoresOf q I J → HasNoLogs I → (v : VersionKey) (p : Payload) → IsRecovered I q v p → IsRecovered J q v p
over q I J same none v p (inl st) = inl (record {
  name = st.name;
  store = st.store;
  file = counts_on q I J same st.name st.store st.file;
  holds = st.holds;
  newest = λ other s w c holds. st.newest other s w (counts_on q J I (back q I J same) other s c) holds;
})
over q I J same none v p (inr u) = absurd (none_logged I none u.entry u.logged)

seen : (q : ℕ) (I J : Files) → SameStoresOf q I J → HasNoLogs I → (m : ℕ) → IsSeen I q m → (n : ℕ) × IsSeen J q n × (m ≤ n)
seen q I J same none m (inl f) = (m, inl (f.0, f.1, counts_on q I J same f.0 f.1 f.2, f.3), omega arith)
seen q I J same none m (inr e) = absurd (none_logged I none e.0 e.1)

pub alike_where : (q : ℕ) (I J : Files) → SameStoresOf q I J → HasNoLogs I → HasNoLogs J → IsFit J → RecoversAlike I J q
alike_where q I J same none_i none_j fit = record {
  fit = fit;
  content = λ v p. (over q I J same none_i v p, over q J I (back q I J same) none_j v p);
  last = λ n. same_last I J q (seen q I J same none_i) (seen q J I (back q I J same) none_j) n;
}
