use Rattle.std.proofs.Common.{◌≡◌, ◌≤◌, ◌+◌, ◌++◌, ℕ, List, length, Some}
use Rattle.std.specs.Prelude.{IsTrue}
use Rattle.log_model.specs.Entry.{Entry}
use Rattle.log_file.specs.Open.{OpenLog}
use Rattle.log_trucks.specs.Held.{AreHeld}
use Rattle.log_ledger.specs.History.{History}
use Rattle.log_device.specs.Whole.{IsWhole, IsBroken, disk_of, log_of, numbers_of}
use Rattle.log_halves.specs.Trucks.{AreSpelled, FollowOn, size_of, come_to}
use Rattle.log_halves.specs.Commits.{all_staged_in, AreServed, SameTold, drawn_in}
use Rattle.log_halves.proofs.staging.stage_all.Given as goal

abbrev pub invariant-loop-truck : goal.invariant-loop-truck
invariant-loop-truck g l = record {
  unbroken : IsBroken l.device → ⊥;
  served : AreServed (numbers_of l.device) l.rest;
  spelled : AreSpelled l.rest;
  rising : (n : ℕ) × FollowOn n (drawn_in (numbers_of l.device)) l.rest;
  room : (file : OpenLog) → log_of l.device ≡ Some file → length file.bytes + size_of l.rest ≤ 4194304;
  whole : IsTrue g.D.Disk.told → (h : History) (es : List Entry) → IsWhole l.fn.device (g.D.Disk.view (disk_of l.fn.device)) h → AreHeld l.fn.chain es
      → (ds left : List Entry) × (es ≡ ds ++ left) × AreHeld l.rest left × IsWhole l.device (g.D.Disk.view (disk_of l.device)) (all_staged_in h ds);
  disk : disk_of l.device ≡ disk_of l.fn.device;
  file : (file : OpenLog) → log_of l.fn.device ≡ Some file → (now : OpenLog) × (log_of l.device ≡ Some now) × (now.staged + length l.rest ≡ file.staged + length l.fn.chain) × (now.name ≡ file.name);
  drawn : (r : ℕ) → come_to (drawn_in (numbers_of l.device)) l.rest r ≡ come_to (drawn_in (numbers_of l.fn.device)) l.fn.chain r;
  same : SameTold (numbers_of l.fn.device) (numbers_of l.device);
}

abbrev pub decreases-loop-truck : goal.decreases-loop-truck
decreases-loop-truck g l = length l.rest
