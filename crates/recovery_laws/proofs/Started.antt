-- Files without logs are like the base that they are; and the last log of files.
use Rattle.std.proofs.Common.{◌≡◌, ◌⊎◌, inl, inr, ℕ, ◌≤◌, List, [], Contains, Option, sym, ◌∙◌, subst, arith}
use Rattle.std.specs.FinMap.{get}
use Rattle.cell_model.specs.Order.{VersionKey, Payload}
use Rattle.log_model.specs.declared.name.Name.{Name}
use Rattle.log_model.specs.declared.name.NameKind.TheVariants as kinds
use Rattle.log_model.specs.Entry.{Entry}
use Rattle.log_model.specs.Files.{Files, IsLogFile, IsLogged, IsFit, IsPresent, IsLastLog}
use Rattle.log_model.specs.Recovered.{IsSeen, IsFlushed, IsStored, IsRecovered, IsLast}
use Rattle.recovery_laws.specs.Change.{HasText}
use Rattle.recovery_laws.specs.Kept.{IsLike, IsOrderly, PutUpTo, HasNoLogs, start_of}
use Rattle.recovery_laws.proofs.Lists.{none_in}
use Rattle.recovery_laws.proofs.Stores.{SameStores, stores_back, store_kept, flushed_kept, stored_kept}
use Rattle.recovery_laws.proofs.Logs.{none_some, one_list}

pub none_logged : (J : Files) (e : Entry) → HasNoLogs J → IsLogged J e → ⊥
none_logged J e none h = none_some (get J h.name) h.file.bytes (none h.name h.file.kind) h.file.there

pub started : (F J : Files) (flushed : ℕ → ℕ) → IsFit F → HasNoLogs F → HasNoLogs J → SameStores F J → ((r : ℕ) (f : List ℕ) → IsFlushed F r f (flushed r)) → IsLike (start_of F flushed) J
started F J flushed fit none_f none_j same are = record {
  fit = record {
    logs = λ n bytes holds there. absurd (none_some (get J n) bytes (none_j n holds) there);
    stores = λ n bytes store there gate. let f = fit.stores n bytes store (sym (same n store) ∙ there) gate in (f.0, store_kept F J same n.region n f.0 f.1);
    agree = λ d e hd he region number. absurd (none_logged J d none_j hd);
  };
  flushed = λ r f. flushed_kept F J same r f (flushed r) (are r f);
  stored = λ r v p. (λ h. inl (inl (stored_kept J F (stores_back F J same) r v p h)), back r v p);
  sure = λ e f member has above. absurd (none_in e member);
  only = λ e f logged has above. absurd (none_logged J e none_j logged);
  numbers = λ e logged. absurd (none_logged J e none_j logged);
}
  where
    back : (r : ℕ) (v : VersionKey) (p : Payload) → IsRecovered F r v p ⊎ PutUpTo [] (flushed r) r v p → IsStored J r v p
    back r v p (inl (inl h)) = stored_kept F J same r v p h
    back r v p (inl (inr u)) = absurd (none_logged F u.entry none_f u.logged)
    back r v p (inr put) = absurd (none_in put.0 put.1)

-- what is kept at the start is in order
pub started_orderly : (F : Files) (flushed : ℕ → ℕ) → HasNoLogs F → ((r : ℕ) (f : List ℕ) → IsFlushed F r f (flushed r)) → IsOrderly (start_of F flushed)
started_orderly F flushed none are = record { begun = begun; rising = tt; given = λ e member. absurd (none_in e member); from = λ r f. omega arith; low = λ r f. omega arith }
  where
    bound : (r m : ℕ) → IsSeen F r m → m ≤ flushed r
    bound r m (inl f) = (are r f.1.family).bound m (f.0, f.1, f.2, inr (λ _. f.1.family), f.3)
    bound r m (inr (e, logged, region, number)) = absurd (none_logged F e none logged)

    begun : (r : ℕ) → IsLast F r (flushed r)
    begun r = record {
      reached = elim (are r []).reached as (λ _. IsSeen F r (flushed r) ⊎ (flushed r ≡ 0)) [ inl f ↦ inl (inl (f.0, f.1, f.2, f.4)) | inr none ↦ inr none ];
      bound = bound r;
    }

-- the log of the greatest number is the current one, so what holds of its entries holds of the last log's
pub last_log : (P : Entry → Type 0) (J : Files) (log : Name) (current : List Entry) (ended : Option ℕ) → log.kind ≡ kinds.Log → HasText log current ended (get J log)
    → ((m : Name) → m.kind ≡ kinds.Log → IsPresent J m → (m.region ≡ log.region) × (m.number ≤ log.number)) → ((e : Entry) → Contains current e → P e)
    → (name : Name) (es : List Entry) → IsLastLog J name → IsLogFile J name es → (e : Entry) → Contains es e → P e
last_log P J log current ended kind text names holds name es is file e member =
    let there : IsPresent J log = λ none. none_some (get J log) text.bytes none text.there in
    let of = names name is.kind is.there in
    let up : log.number ≤ name.number = is.greatest log kind there in
    let number : name.number ≡ log.number = omega (arith, of.1, up) in
    let same : name ≡ log = λ i. record { kind = (is.kind ∙ sym kind) i; region = of.0 i; number = number i } in
    let lists : current ≡ es = one_list J log current es (inl (ended, text)) (subst (λ (n : Name). IsLogFile J n es) same file) in
    holds e (subst (λ (l : List Entry). Contains l e) (sym lists) member)
