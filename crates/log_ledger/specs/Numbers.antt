-- The numbers of one log's device. Lists are by region, numbers read by `get_or numbers region 0`.
use Rattle.std.specs.Prelude.{◌≡◌, ℕ, ◌+◌, ◌<◌, ◌≤◌, ◌^◌, ◌==◌, List, [], length, get_or, filter, Contains}
use Rattle.std.specs.List.{AllByRecursion}
use Rattle.log_model.specs.Entry.{Entry}
use Rattle.log_model.specs.Recovered.{HasFamily, IsFor}
use Rattle.seq_accounting.specs.Accounts.{Accounts, flushed_at, oldest_at}
use Rattle.seq_accounting.specs.Noted.{Note, HasNoted}
use Rattle.seq_accounting.specs.Live.{AreCounted, AreRisingTo}
use Rattle.seq_accounting.specs.Order.{IsInOrder}
use Rattle.log_trucks.specs.Held.{Held, AreHeld}

pub record Numbers : Type 0 where
  -- the last sequence id staged of each region, and the last one committed
  pub drawn : List ℕ
  pub synced : List ℕ
  -- the sequence id that the region's last flush of all families gave
  pub stored : List ℕ
  -- the last one committed when the log was rolled
  pub closed : List ℕ
  -- the number of the region's next store file, 0 for a region that isn't served
  pub next_store : List ℕ
  pub accounts : Accounts
  -- the trucks of entries of which a family isn't flushed, newest first
  pub chains : List (List Held)

-- the device serves this region
abbrev pub IsServed : Numbers → ℕ → Type 0
IsServed b r = 0 < get_or b.next_store r 0

-- each list has a place for each region
pub record AreWide (b : Numbers) : Type 0 where
  pub drawn : length b.drawn ≡ 65
  pub synced : length b.synced ≡ 65
  pub stored : length b.stored ≡ 65
  pub closed : length b.closed ≡ 65
  pub next_store : length b.next_store ≡ 65
  pub chains : length b.chains ≡ 65

-- a family of the entry isn't flushed, and each such family has an unflushed number in the accounting
pub record IsLive (a : Accounts) (r : ℕ) (e : Entry) : Type 0 where
  pub some : (f : List ℕ) × HasFamily e f × (flushed_at a r f < e.number)
  pub noted : (f : List ℕ) → HasFamily e f → flushed_at a r f < e.number → 0 < oldest_at a r f

-- trucks have these entries, none of which is wholly flushed
pub record HasLive (a : Accounts) (r : ℕ) (chain : List Held) : Type 0 where
  pub entries : List Entry
  pub held : AreHeld chain entries
  pub live : (e : Entry) → Contains entries e → IsLive a r e

-- the trucks of a region have entries with sequence ids above the stored one, up to the last one staged
pub record IsChain (a : Accounts) (r stored drawn : ℕ) (chain : List Held) : Type 0 where
  pub entries : ∥ HasLive a r chain ∥₁
  pub numbers : (h : Held) → Contains chain h → (stored < h.number) × (h.number ≤ drawn)

-- the numbers of one region
pub record IsRegionInOrder (b : Numbers) (r : ℕ) : Type 0 where
  pub drawn : get_or b.drawn r 0 < 2 ^ 48
  pub noted : get_or b.accounts.noted r 0 ≡ get_or b.drawn r 0
  pub synced : get_or b.synced r 0 ≤ get_or b.drawn r 0
  pub closed : get_or b.closed r 0 ≤ get_or b.synced r 0
  -- a family is flushed up to an entry that was committed
  pub durable : (f : List ℕ) → flushed_at b.accounts r f ≤ get_or b.synced r 0
  -- what is flushed of the whole region is flushed of each family
  pub whole : (f : List ℕ) → flushed_at b.accounts r [] ≤ flushed_at b.accounts r f
  pub stored : get_or b.stored r 0 ≤ get_or b.synced r 0
  pub idle : get_or b.accounts.flushing r 0 ≡ 0
  pub chain : IsChain b.accounts r (get_or b.stored r 0) (get_or b.drawn r 0) (get_or b.chains r [])

-- those of one region
abbrev pub notes_of : ℕ → List Note → List Note
notes_of r notes = filter (λ x. x.region == r) notes

-- So many flushes of the region came off since a moment at which its next store's number was at most limit + 1, and each took a
-- family of an entry that wasn't flushed.
pub record IsStoreFew (limit : ℕ) (b : Numbers) (notes : List Note) (r : ℕ) : Type 0 where
  pub flushes : ℕ
  pub counted : AreCounted flushes (flushed_at b.accounts r) (notes_of r notes)
  pub small : AllByRecursion (λ (x : Note). length x.families ≤ 1024) (notes_of r notes)
  pub rising : AreRisingTo 0 (notes_of r notes) (get_or b.drawn r 0)
  pub next_store : get_or b.next_store r 0 ≤ limit + 1 + flushes

pub record HasFewStores (limit : ℕ) (b : Numbers) : Type 0 where
  pub notes : List Note
  pub noted : HasNoted b.accounts notes
  pub each : (r : ℕ) → IsStoreFew limit b notes r

-- there are no more new store files than flushes that came off, and these are bounded by the families of the entries
abbrev pub AreStoresFew : ℕ → Numbers → Type 0
AreStoresFew limit b = ∥ HasFewStores limit b ∥₁

-- so the numbers of store files are bounded
abbrev pub FewStoresAreFew : Type 0
FewStoresAreFew = (limit : ℕ) (b : Numbers) (r : ℕ) → AreStoresFew limit b → get_or b.drawn r 0 < 2 ^ 48 → get_or b.next_store r 0 < limit + 1 + 2 ^ 58

-- what always holds, whatever a disk told
pub record AreInOrder (b : Numbers) : Type 0 where
  pub wide : AreWide b
  pub accounts : IsInOrder b.accounts
  pub regions : (r : ℕ) → IsRegionInOrder b r
  pub few : AreStoresFew (2 ^ 63) b

-- a family of the region, this one or any where it is empty, has a number that isn't flushed
abbrev pub IsLeft : Numbers → ℕ → List ℕ → Type 0
IsLeft b r family = ∥ ((f : List ℕ) × IsFor family f × (0 < oldest_at b.accounts r f)) ∥₁

-- what is told of regions is the same
pub record SameRegions (old new : Numbers) : Type 0 where
  pub drawn : new.drawn ≡ old.drawn
  pub synced : new.synced ≡ old.synced
  pub stored : new.stored ≡ old.stored
  pub closed : new.closed ≡ old.closed
  pub next_store : new.next_store ≡ old.next_store
  pub flushed : (r : ℕ) (f : List ℕ) → flushed_at new.accounts r f ≡ flushed_at old.accounts r f
