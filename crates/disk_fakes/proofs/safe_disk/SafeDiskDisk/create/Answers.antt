use Rattle.std.proofs.Common.{ℕ, [], Ok, Err, Vec, refl, ap}
use Rattle.std.specs.declared.alloc.Global.{Global}
use Rattle.disk_images.specs.Calls.{Creates}
use Rattle.disk_images.specs.declared.disk.Failed.{Failed}
use Rattle.disk_fakes.specs.declared.safe_call.SafeCall.{SafeCall}
use Rattle.disk_fakes.specs.declared.safe_call.SafeCall.TheVariants.{Create}
use Rattle.disk_fakes.specs.SafeViews.{safe_view}
use Rattle.disk_fakes.proofs.Steps.{creates_not}
use Rattle.disk_fakes.proofs.SafeNoted.{carried_over, stayed, creates}
use Rattle.disk_fakes.proofs.Rooms.{none_taken}
use Rattle.disk_fakes.proofs.safe_disk.SafeDiskDisk.create.Goals as goal

pub returns-then-not-has_room-clause-creates : goal.returns-then-not-has_room-clause-creates
returns-then-not-has_room-clause-creates c =
    stayed (λ w. Creates {T = Unit {0}} {E = Failed} c.args.name (Err c.fault.result) (safe_view c.args.self.now) w)
    c.args.self.now.arena.items c.fault.new.self.arena.items c.args.self.now.calls.items c.fault.new.self.calls.items
    (ap (λ (v : Vec ℕ Global). v.items) c.fault.ensures.arena) (ap (λ (v : Vec SafeCall Global). v.items) c.fault.ensures.calls)
    (creates_not _ (safe_view c.args.self.now) c.args.name refl c.requires.absent.0)

pub returns-clause-creates : goal.returns-clause-creates
returns-clause-creates c =
    carried_over (λ w. Creates {T = Unit {0}} {E = Failed} c.args.name (Ok tt) (safe_view c.args.self.now) w)
    c.args.self.now.arena.items c.note.new.self.arena.items [] c.args.self.now.calls.items c.note.new.self.calls.items (Create c.args.name) c.note.ensures.arena c.note.ensures.calls
    (creates _ c.args.self.now.arena.items [] c.args.self.now.calls.items (Create c.args.name) c.args.self.now.met c.args.name refl)

pub returns-then-not-has_room-clause-room : goal.returns-then-not-has_room-clause-room
returns-then-not-has_room-clause-room c = none_taken 1 0 c.args.self.now c.fault.new.self c.fault.ensures.calls c.fault.ensures.arena
