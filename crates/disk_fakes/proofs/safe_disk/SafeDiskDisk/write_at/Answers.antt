use Rattle.std.proofs.Common.{◌≡◌, ℕ, length, length-append, Ok, Err, Vec, refl, ap, arith}
use Rattle.std.specs.declared.alloc.Global.{Global}
use Rattle.disk_images.specs.Calls.{Writes}
use Rattle.disk_images.specs.declared.disk.Failed.{Failed}
use Rattle.disk_images.proofs.Reading.{reads_back}
use Rattle.disk_fakes.specs.declared.safe_call.SafeCall.{SafeCall}
use Rattle.disk_fakes.specs.declared.safe_call.SafeCall.TheVariants.{Write}
use Rattle.disk_fakes.specs.SafeViews.{safe_view, safe_files}
use Rattle.disk_fakes.proofs.Steps.{reaches, writes_not}
use Rattle.disk_fakes.proofs.SafeNoted.{carried_over, stayed, written_is, writes}
use Rattle.disk_fakes.proofs.Rooms.{none_taken}
use Rattle.disk_fakes.proofs.safe_disk.SafeDiskDisk.write_at.Goals as goal

pub returns-then-at-ge-LIMIT-clause-writes : goal.returns-then-at-ge-LIMIT-clause-writes
returns-then-at-ge-LIMIT-clause-writes c =
    stayed (λ w. Writes {T = Unit {0}} {E = Failed} c.args.name c.args.at c.args.bytes.now (Err c.fault.result) (safe_view c.args.self.now) w)
    c.args.self.now.arena.items c.fault.new.self.arena.items c.args.self.now.calls.items c.fault.new.self.calls.items
    (ap (λ (v : Vec ℕ Global). v.items) c.fault.ensures.arena) (ap (λ (v : Vec SafeCall Global). v.items) c.fault.ensures.calls)
    (writes_not _ (safe_view c.args.self.now) c.args.name c.args.at c.args.bytes.now refl)

pub returns-then-not-has_room-clause-writes : goal.returns-then-not-has_room-clause-writes
returns-then-not-has_room-clause-writes c =
    stayed (λ w. Writes {T = Unit {0}} {E = Failed} c.args.name c.args.at c.args.bytes.now (Err c.fault-then-not-has_room.result) (safe_view c.args.self.now) w)
    c.args.self.now.arena.items c.fault-then-not-has_room.new.self.arena.items c.args.self.now.calls.items c.fault-then-not-has_room.new.self.calls.items
    (ap (λ (v : Vec ℕ Global). v.items) c.fault-then-not-has_room.ensures.arena) (ap (λ (v : Vec SafeCall Global). v.items) c.fault-then-not-has_room.ensures.calls)
    (writes_not _ (safe_view c.args.self.now) c.args.name c.args.at c.args.bytes.now refl)

pub note-requires-clause-met : goal.note-requires-clause-met
note-requires-clause-met c = (
  reaches (safe_files c.args.self.now) c.args.name c.args.at c.requires.there,
  omega (arith, c.len-start.ensures, c.args.self.now.arena.ok.0, length-append c.args.self.now.arena.items c.args.bytes.now),
  omega (arith, c.if-at-ge-LIMIT.false, c.if-bytes-at.false),
)

pub returns-clause-writes : goal.returns-clause-writes
returns-clause-writes c =
    let text = reads_back (safe_files c.args.self.now) c.args.name c.args.at c.requires.there in
    let start : c.len-start.result ≡ length c.args.self.now.arena.items = omega (arith, c.len-start.ensures, c.args.self.now.arena.ok.0) in
    carried_over (λ w. Writes {T = Unit {0}} {E = Failed} c.args.name c.args.at c.args.bytes.now (Ok tt) (safe_view c.args.self.now) w)
    c.args.self.now.arena.items c.note.new.self.arena.items c.args.bytes.now c.args.self.now.calls.items c.note.new.self.calls.items (Write c.args.name c.args.at c.len-start.result (length c.args.bytes.now)) c.note.ensures.arena c.note.ensures.calls
    (writes _ c.args.self.now.arena.items c.args.bytes.now c.args.self.now.calls.items (Write c.args.name c.args.at c.len-start.result (length c.args.bytes.now)) c.args.self.now.met c.args.name c.args.at c.args.bytes.now text.0 text.1 text.2 (written_is c.args.self.now.arena.items c.args.bytes.now (safe_files c.args.self.now) c.args.name c.args.at c.len-start.result (length c.args.bytes.now) text.0 start refl text.1))

pub returns-then-at-ge-LIMIT-clause-room : goal.returns-then-at-ge-LIMIT-clause-room
returns-then-at-ge-LIMIT-clause-room c = none_taken 1 (length c.args.bytes.now) c.args.self.now c.fault.new.self c.fault.ensures.calls c.fault.ensures.arena

pub returns-then-not-has_room-clause-room : goal.returns-then-not-has_room-clause-room
returns-then-not-has_room-clause-room c =
    none_taken 1 (length c.args.bytes.now) c.args.self.now c.fault-then-not-has_room.new.self c.fault-then-not-has_room.ensures.calls c.fault-then-not-has_room.ensures.arena
