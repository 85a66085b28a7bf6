-- What a command leaves: what its sink took, and a disk that it looked at.
use Rattle.std.proofs.Math.Logic.{∥∥₁_map, ∥∥₁_elim, ∥∥₁_prop}
use Rattle.std.proofs.Common.{◌≡◌, ℕ, ◌≤◌, ◌+◌, List, ◌++◌, length, drop, refl, sym, ap, subst, ◌∙◌, arith}
use Rattle.std.proofs.Math.Seq.{drop-append_seam}
use Rattle.cell_model.specs.Lists.{IsPrefix}
use Rattle.log_model.specs.Files.{Files, content}
use Rattle.disk_images.specs.Crash.{DiskView, IsImageNow}
use Rattle.disk_images.specs.Calls.{Looks, Rose}
use Rattle.disk_images.proofs.Moments.{elapses_on, at_once, at_end, in_one_call, joined, weaker}
use Rattle.command_base.specs.Invocation.{taken_of, IsUnchanged, GoesOn, AtEachMoment, KeepsImages, IsRefused}
use Rattle.command_base.specs.Prints.{Prints}

-- ---- what a sink took

pub taken_front : (had has front : List ℕ) → has ≡ had ++ front → taken_of had has ≡ front
taken_front had has front is = ap (drop (length had)) is ∙ drop-append_seam had front

pub taken_whole : (had has text : List ℕ) (cut : Type 0) → Prints had has text cut → (cut → ⊥) → taken_of had has ≡ text
taken_whole had has text cut prints uncut = taken_front had has prints.front prints.is ∙ prints.whole uncut

pub taken_begins : (had has text : List ℕ) (cut : Type 0) → Prints had has text cut → IsPrefix (taken_of had has) text
taken_begins had has text cut prints = subst (λ (t : List ℕ). IsPrefix t text) (sym (taken_front had has prints.front prints.is)) prints.begins

pub refused_so : (had has line : List ℕ) (cut : Type 0) → Prints had has line cut → IsRefused line cut (taken_of had has)
refused_so had has line cut prints = record { begins = taken_begins had has line cut prints; whole = λ uncut. taken_whole had has line cut prints uncut }

-- ---- a disk that was looked at

pub unchanged : (v w : DiskView) → Looks v w → IsUnchanged v w
unchanged v w looks = record { files = λ m. ap (λ (f : Files). content f m) looks.files; images = looks.crash }

pub same_disk : (v : DiskView) → IsUnchanged v v
same_disk v = record { files = λ m. refl; images = λ J now. now }

pub rose_from : (a b c : ℕ) → a ≤ b → Rose b c → Rose a c
rose_from a b c before rose = omega (arith, before, rose)

-- ---- time

pub goes_on : (u v w : DiskView) → GoesOn u v → GoesOn v w → GoesOn u w
goes_on u v w first second = ∥∥₁_elim first ∥∥₁_prop (λ a. ∥∥₁_map second (λ b. (a.0 + b.0, elapses_on a.0 b.0 u v w a.1 b.1)))

-- ---- each moment

pub time_of : (P : Files → Type 0) (v w : DiskView) → AtEachMoment P v w → GoesOn v w
time_of P v w over = ∥∥₁_map over (λ a. (a.0, a.1.time))

pub each_then : (P Q : Files → Type 0) (v w : DiskView) → ((J : Files) → P J → Q J) → AtEachMoment P v w → AtEachMoment Q v w
each_then P Q v w then over = ∥∥₁_map over (λ a. (a.0, weaker P Q a.0 v w then a.1))

pub each_on : (P : Files → Type 0) (u v w : DiskView) → AtEachMoment P u v → AtEachMoment P v w → AtEachMoment P u w
each_on P u v w first second = ∥∥₁_elim first ∥∥₁_prop (λ a. ∥∥₁_map second (λ b. (a.0 + b.0, joined P a.0 b.0 u v w a.1 b.1)))

pub no_moment : (P : Files → Type 0) (v : DiskView) → ((J : Files) → IsImageNow v J → P J) → AtEachMoment P v v
no_moment P v now = ∣ (0, at_once P v now) ∣₁

-- a look leaves only images that were there
pub looked : (P : Files → Type 0) (v w : DiskView) → Looks v w → ((J : Files) → IsImageNow v J → P J) → AtEachMoment P v w
looked P v w looks now = ∣ (1, in_one_call P v w now looks.time (λ J after. now J (looks.crash J after))) ∣₁

pub keeps_on : (u v w : DiskView) → KeepsImages u v → KeepsImages v w → KeepsImages u w
keeps_on u v w first second =
    ∥∥₁_elim first ∥∥₁_prop (λ a. ∥∥₁_map second (λ b. (
      a.0 + b.0,
      joined (IsImageNow u) a.0 b.0 u v w a.1 (weaker (IsImageNow v) (IsImageNow u) b.0 v w (λ J was. at_end (IsImageNow u) a.0 u v a.1 J was) b.1),
    )))

pub kept_looking : (v w : DiskView) → Looks v w → KeepsImages v w
kept_looking v w looks = looked (IsImageNow v) v w looks (λ J now. now)
