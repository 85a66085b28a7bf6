-- How the calls change the numbers.
use Rattle.std.proofs.Common.{◌≡◌, ◌≢◌, ℕ, ◌+◌, List, [], ◌∷◌, ◌++◌, filter, get_or, set, cond, ◌&&◌, ◌==◌, ◌∙◌, ap}
use Rattle.log_model.specs.Entry.{Entry}
use Rattle.log_model.specs.Recovered.{IsFor}
use Rattle.seq_accounting.specs.Marks.{number_of, first_given}
use Rattle.seq_accounting.specs.Accounts.{Accounts, unflushed, flushed_by, flushed_at, oldest_at, is_for}
use Rattle.seq_accounting.specs.Steps.{SameFlushed, SameOldest, SameNumbers, IsNoted, IsFlushed}
use Rattle.seq_accounting.specs.Noted.{Note, HasNoted, AreNotedAs}
use Rattle.seq_accounting.specs.Order.{IsInOrder}
use Rattle.log_trucks.specs.Held.{Haul, AreHeld, IsSetTo, noted_of}
use Rattle.log_trucks.specs.Unflushed.{has_unflushed}
use Rattle.log_ledger.specs.Numbers.{Numbers}
use Rattle.log_ledger.proofs.Families.{pick_here, pick_there}

-- a truck was staged
pub record StagedBy (old new : Numbers) (t : Haul) : Type 0 where
  pub drawn : new.drawn ≡ set old.drawn t.region t.number
  pub synced : new.synced ≡ old.synced
  pub stored : new.stored ≡ old.stored
  pub closed : new.closed ≡ old.closed
  pub next_store : new.next_store ≡ old.next_store
  pub noted : IsNoted old.accounts new.accounts t.region t.number t.families
  pub history : (notes : List Note) (x : Note) → AreNotedAs t.families t.region t.number x → HasNoted old.accounts notes → HasNoted new.accounts (notes ++ x ∷ [])
  pub order : IsInOrder new.accounts
  pub chains : new.chains ≡ set old.chains t.region (noted_of t ∷ get_or old.chains t.region [])

-- the numbers by family are kept by the accounting
pub record Keeps (a b : Accounts) : Type 0 where
  pub numbers : SameNumbers a b
  pub history : (notes : List Note) → HasNoted a notes → HasNoted b notes
  pub order : IsInOrder b

-- the current file was closed
pub record ClosedBy (old new : Numbers) (file : ℕ) : Type 0 where
  pub drawn : new.drawn ≡ old.drawn
  pub synced : new.synced ≡ old.synced
  pub stored : new.stored ≡ old.stored
  pub closed : new.closed ≡ old.synced
  pub next_store : new.next_store ≡ old.next_store
  pub keeps : Keeps old.accounts new.accounts
  pub current : new.accounts.current ≡ []
  pub files : new.accounts.closed ≡ old.accounts.closed ++ record { file = file; highest = old.accounts.current } ∷ []
  pub last : new.accounts.last ≡ file
  pub chains : new.chains ≡ old.chains

-- a family of a region was flushed, or all of them where it is empty
pub record FlushedBy (old new : Numbers) (r : ℕ) (family : List ℕ) : Type 0 where
  pub drawn : new.drawn ≡ old.drawn
  pub synced : new.synced ≡ old.synced
  pub stored_all : family ≡ [] → new.stored ≡ set old.stored r (get_or old.drawn r 0)
  pub stored_one : family ≢ [] → new.stored ≡ old.stored
  pub closed : new.closed ≡ old.closed
  pub next_store : new.next_store ≡ set old.next_store r (get_or old.next_store r 0 + 1)
  pub flushed : IsFlushed old.accounts new.accounts (record { region = r; family = family; number = get_or old.drawn r 0 })
  pub history : (notes : List Note) → HasNoted old.accounts notes → HasNoted new.accounts notes
  pub order : IsInOrder new.accounts
  pub chains : IsSetTo old.chains new.chains r (λ held. (es : List Entry) → AreHeld (get_or old.chains r []) es → AreHeld held (filter (has_unflushed new.accounts r) es))

-- the closed files that are wholly flushed were forgotten
pub record ForgottenBy (old new : Numbers) : Type 0 where
  pub drawn : new.drawn ≡ old.drawn
  pub synced : new.synced ≡ old.synced
  pub stored : new.stored ≡ old.stored
  pub closed : new.closed ≡ old.closed
  pub next_store : new.next_store ≡ old.next_store
  pub keeps : Keeps old.accounts new.accounts
  pub current : new.accounts.current ≡ old.accounts.current
  pub files : new.accounts.closed ≡ unflushed old.accounts
  pub last : new.accounts.last ≡ old.accounts.last
  pub chains : new.chains ≡ old.chains

pub flushed_same : (a b : Accounts) → SameFlushed a b → (r : ℕ) (f : List ℕ) → flushed_at b r f ≡ flushed_at a r f
flushed_same a b s r f = λ i. flushed_by (s.whole i) (s.flushed i) r f

pub oldest_same : (a b : Accounts) → SameOldest a b → (r : ℕ) (f : List ℕ) → oldest_at b r f ≡ oldest_at a r f
oldest_same a b s r f = λ i. first_given (number_of (get_or (s.oldest i) r []) r f) (number_of (get_or (s.since i) r []) r f)

module _ (a b : Accounts) (r : ℕ) (family : List ℕ) (n : ℕ) (s : IsFlushed a b (record { region = r; family = family; number = n })) where
  pub flushed_here : (q : ℕ) (f : List ℕ) → r ≡ q → IsFor family f → flushed_at b q f ≡ n
  flushed_here q f here for = s.completed.flushed q f ∙ pick_here r family q f n (flushed_at s.begun q f) here for

  pub flushed_there : (q : ℕ) (f : List ℕ) → (r ≡ q → IsFor family f → ⊥) → flushed_at b q f ≡ flushed_at a q f
  flushed_there q f other = s.completed.flushed q f ∙ pick_there r family q f n (flushed_at s.begun q f) other ∙ flushed_same a s.begun s.started.flushed q f

  pub flushed_pick : (q : ℕ) (f : List ℕ) → flushed_at b q f ≡ cond (r == q && is_for family f) n (flushed_at a q f)
  flushed_pick q f = s.completed.flushed q f ∙ ap (cond (r == q && is_for family f) n) (flushed_same a s.begun s.started.flushed q f)

  pub oldest_there : (q : ℕ) (f : List ℕ) → (r ≡ q → IsFor family f → ⊥) → oldest_at b q f ≡ oldest_at a q f
  oldest_there q f other = s.completed.oldest q f ∙ pick_there r family q f (number_of (get_or s.begun.since q []) q f) (oldest_at s.begun q f) other ∙ oldest_same a s.begun s.started.oldest q f
