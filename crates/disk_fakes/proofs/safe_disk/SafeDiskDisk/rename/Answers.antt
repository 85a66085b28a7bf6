use Rattle.std.proofs.Common.{ℕ, List, [], Ok, Err, Vec, Option, refl, ap}
use Rattle.std.specs.declared.alloc.Global.{Global}
use Rattle.disk_images.specs.Calls.{Renames}
use Rattle.disk_images.specs.declared.disk.Failed.{Failed}
use Rattle.disk_images.proofs.Reading.{reads_some}
use Rattle.disk_fakes.specs.declared.safe_call.SafeCall.{SafeCall}
use Rattle.disk_fakes.specs.declared.safe_call.SafeCall.TheVariants.{Rename}
use Rattle.disk_fakes.specs.Safe.{moved_to}
use Rattle.disk_fakes.specs.SafeViews.{safe_view, safe_files}
use Rattle.disk_fakes.proofs.Steps.{is_there, renames_not}
use Rattle.disk_fakes.proofs.SafeSteps.{apart_of}
use Rattle.disk_fakes.proofs.SafeNoted.{carried_over, stayed, renames}
use Rattle.disk_fakes.proofs.Rooms.{none_taken}
use Rattle.disk_fakes.proofs.safe_disk.SafeDiskDisk.rename.Goals as goal

pub returns-then-not-has_room-clause-renames : goal.returns-then-not-has_room-clause-renames
returns-then-not-has_room-clause-renames c =
    stayed (λ w. Renames {T = Unit {0}} {E = Failed} c.args.from c.args.to (Err c.fault.result) (safe_view c.args.self.now) w)
    c.args.self.now.arena.items c.fault.new.self.arena.items c.args.self.now.calls.items c.fault.new.self.calls.items
    (ap (λ (v : Vec ℕ Global). v.items) c.fault.ensures.arena) (ap (λ (v : Vec SafeCall Global). v.items) c.fault.ensures.calls)
    (renames_not _ (safe_view c.args.self.now) c.args.from c.args.to refl)

pub note-requires-clause-met : goal.note-requires-clause-met
note-requires-clause-met c = (is_there (safe_files c.args.self.now) c.args.from c.requires.from, c.requires.to.0, c.requires.named)

pub returns-clause-renames : goal.returns-clause-renames
returns-clause-renames c =
    let text = reads_some (safe_files c.args.self.now) c.args.from c.requires.from in
    let apart = apart_of c.args.self.now.arena.items (safe_files c.args.self.now) c.args.from c.args.to (is_there (safe_files c.args.self.now) c.args.from c.requires.from, c.requires.to.0, c.requires.named) in
    carried_over (λ w. Renames {T = Unit {0}} {E = Failed} c.args.from c.args.to (Ok tt) (safe_view c.args.self.now) w)
    c.args.self.now.arena.items c.note.new.self.arena.items [] c.args.self.now.calls.items c.note.new.self.calls.items (Rename c.args.from c.args.to) c.note.ensures.arena c.note.ensures.calls
    (renames _ c.args.self.now.arena.items [] c.args.self.now.calls.items (Rename c.args.from c.args.to) c.args.self.now.met c.args.from c.args.to text.0 text.1 apart (ap (λ (o : Option (List ℕ)). moved_to (safe_files c.args.self.now) c.args.from c.args.to o) text.1))

pub returns-then-not-has_room-clause-room : goal.returns-then-not-has_room-clause-room
returns-then-not-has_room-clause-room c = none_taken 1 0 c.args.self.now c.fault.new.self c.fault.ensures.calls c.fault.ensures.arena
