-- What stands on groups' disks.
use Rattle.std.proofs.Common.{◌≡◌, ◌≢◌, ℕ, zero, suc, ◌+◌, ◌-◌, ◌<◌, ◌≤◌, List, [], ◌∷◌, length, Some, inl, refl, subst, arith, slice_get}
use Rattle.disk_images.specs.declared.disk.Disk.{Ghosts}
use Rattle.disk_images.specs.Calls.{Rose}
use Rattle.disk_images.proofs.Moments.{at_once}
use Rattle.groups_model.specs.Groups.{group_of}
use Rattle.log_model.specs.Files.{Files}
use Rattle.log_model.specs.Recovered.{IsLast}
use Rattle.region_replay.specs.Opened.{AreOf}
use Rattle.region_replay.specs.Ready.{Found, IsOf}
use Rattle.wal_split.specs.Moments.{WasOrAlike}
use Rattle.group_servers.specs.Checking.{AreClear, IsWrongIn}
use Rattle.group_servers.specs.Refusals.{GoesOn, HasNoOthers, IsWrong}

-- a disk on which nothing was done
pub went_nowhere : {D : Type 0} (g : Ghosts D) (disk : D) → GoesOn g disk disk
went_nowhere g disk = record {
  any_moment = λ told. (0, at_once (WasOrAlike (g.view disk)) (g.view disk) (λ J now. inl now));
  later = omega arith;
}

-- a count that rose after a later one rose
pub rose_since : (first mid last : ℕ) → first ≤ mid → Rose mid last → Rose first last
rose_since first mid last low rose = omega (arith, low, rose)

-- ---- the regions that were recovered

get_of : (old new : Files) (s i : ℕ) (xs : List Found) (x : Found) → AreOf old new s xs → slice_get xs i ≡ Some x → IsOf old new (s + i) x
get_of old new s i [] x of is = absurd (cc is)
get_of old new s zero (y ∷ ys) x of is =
    let same : y ≡ x = cc is in
    subst (λ r. IsOf old new r x) (let e : s ≡ s + 0 = omega arith in e) (subst (IsOf old new s) same of.0)
get_of old new s (suc i) (y ∷ ys) x of is =
    subst (λ r. IsOf old new r x) (let e : s + 1 + i ≡ s + suc i = omega arith in e) (get_of old new (s + 1) i ys x of.1 is)

there : (xs : List Found) (i : ℕ) → i < length xs → (x : Found) × (slice_get xs i ≡ Some x)
there [] i low = absurd (omega (arith, low))
there (x ∷ xs) zero low = (x, refl)
there (x ∷ xs) (suc i) low = there xs i (omega (arith, low))

last_of : (old new : Files) (xs : List Found) (r : ℕ) (x : Found) → AreOf old new 1 xs → 1 ≤ r → slice_get xs (r - 1) ≡ Some x → IsLast old r x.base.last
last_of old new xs r x of low is = subst (λ k. IsLast old k x.base.last) (let e : 1 + (r - 1) ≡ r = omega (arith, low) in e) (get_of old new 1 (r - 1) xs x of is).last

-- regions that are clear have no sequence id in the files
pub clear_below : (old new : Files) (xs : List Found) (groups group limit : ℕ) → AreOf old new 1 xs → limit ≤ length xs → AreClear groups group xs limit → HasNoOthers groups limit group old
clear_below old new xs groups group limit of all clear r low high other =
    let at = there xs (r - 1) (omega (arith, low, high, all)) in
    let none : at.0.base.last ≡ 0 = clear (r - 1) at.0 (omega (arith, low, high)) at.1 (subst (λ k. group_of groups k ≢ group) (let e : r ≡ r - 1 + 1 = omega (arith, low) in e) other) in
    subst (IsLast old r) none (last_of old new xs r at.0 of low at.1)

-- the least one that isn't has one
pub wrong_there : (old new : Files) (xs : List Found) (groups group region : ℕ) → AreOf old new 1 xs → length xs ≡ 64 → IsWrongIn groups group xs region → IsWrong groups group region old
wrong_there old new xs groups group region of all wrong = record {
  there = wrong.there;
  other = wrong.other;
  last = (wrong.last.0.base.last, last_of old new xs region wrong.last.0 of wrong.there.0 wrong.last.1, wrong.last.2);
  lower = λ r low high other.
      clear_below old new xs groups group (region - 1) of (omega (arith, all, wrong.there.1)) wrong.lower r low (omega (arith, high, low)) other;
}
