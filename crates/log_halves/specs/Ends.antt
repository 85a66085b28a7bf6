-- How rolls and flushes end, by a device's numbers and its file, and by the words that a seat has seen.
use Rattle.std.specs.Prelude.{◌≡◌, ℕ, ◌+◌, ◌<◌, ◌≤◌, List, get_or, Option, None}
use Rattle.log_file.specs.Open.{OpenLog}
use Rattle.log_berth.specs.declared.known.Known.{Known}
use Rattle.log_ledger.specs.Numbers.{Numbers}
use Rattle.log_device.specs.declared.error.Rolled.{Rolled}
use Rattle.log_device.specs.Whole.{IsBegunAfter}
use Rattle.log_halves.specs.Numbers.{seen_synced, seen_stored}

-- this file was closed, with all its entries, and the next one begun
pub record HasRolled (file : OpenLog) (rolled : Rolled) (log : Option OpenLog) : Type 0 where
  pub closed : rolled.closed ≡ file.name.number
  pub entries : rolled.entries ≡ file.entries + file.staged
  pub some : 0 < rolled.entries
  pub next : IsBegunAfter file log

-- this file, whose number is n, has no entry
pub record HasNoEntry (file : OpenLog) (n : ℕ) : Type 0 where
  pub number : n ≡ file.name.number
  pub none : file.entries + file.staged ≡ 0

-- A family of region r was flushed up to the region's last committed entry. Where all families were, that is the stored number now, and
-- above the one of before.
pub record IsFlushedTo (r : ℕ) (family : Option (List ℕ)) (n : ℕ) (old new : Numbers) : Type 0 where
  pub last : get_or new.synced r 0 ≡ n
  pub stored : family ≡ None → get_or new.stored r 0 ≡ n
  pub above : family ≡ None → get_or old.stored r 0 < n

-- A family of region r had nothing to flush up to the region's last committed entry. Where all families were asked for, that is the stored
-- number now.
pub record HasNoneAbove (r : ℕ) (family : Option (List ℕ)) (n : ℕ) (new : Numbers) : Type 0 where
  pub last : get_or new.synced r 0 ≡ n
  pub stored : family ≡ None → get_or new.stored r 0 ≡ n

-- The same as the seat has seen it. The number is at or above the one asked for.
pub record HasFlushed (regions region : ℕ) (family : Option (List ℕ)) (least n : ℕ) (old new : Known) : Type 0 where
  pub upto : least ≤ n
  pub stored : family ≡ None → n ≡ seen_stored regions new region
  pub above : family ≡ None → seen_stored regions old region < n
  pub last : n ≡ seen_synced new region

pub record HadNothing (regions region : ℕ) (family : Option (List ℕ)) (least n : ℕ) (new : Known) : Type 0 where
  pub upto : least ≤ n
  pub stored : family ≡ None → n ≡ seen_stored regions new region
  pub last : n ≡ seen_synced new region
