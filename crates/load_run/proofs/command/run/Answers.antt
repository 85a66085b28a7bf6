use Rattle.disk_images.specs.Calls.{Rose}
use Rattle.std.proofs.Common.{◌≡◌, map, rules, Some, None, inl, refl, IsTrue}
use Rattle.disk_images.specs.Crash.{IsImageNow}
use Rattle.compact_command.specs.wal_split.Moments.{WasOrAlike}
use Rattle.compact_command.specs.Compacted.{CompactMayLeave}
use Rattle.run_model.specs.Headline.{MayKeep}
use Rattle.script_model.specs.Outputs.{refused_memory}
use Rattle.command_base.proofs.Endings.{no_moment, time_of}
use Rattle.log_tail.specs.Position.{position_of}
use Rattle.load_run.specs.Words.{word_of, To_log, To_show, To_dump, To_ship, To_recover, To_compact, To_run, To_load}
use Rattle.command_base.specs.Invocation.{invocation}
use Rattle.load_run.proofs.Finish.{ends_for, word_named, words_named, moments_of, script_told, status_of, none_status, show_reported, dump_reported, ship_reported, ship_lacks, recover_reported, compact_reported, run_reported, show_complete, dump_complete, ship_complete, recover_complete, compact_complete, run_complete}
use Rattle.load_run.specs.Commands.{profile_of}
use Rattle.load_run.proofs.Load.{load_full, unread_ends, unread_status, unread_leaves}
use Rattle.load_run.specs.declared.words.Word.TheVariants.{Log, Show, Dump, Ship, Recover, Compact, Run, Load}
use Rattle.load_run.proofs.command.run.Goals as goal

pub returns-in-Some-Show-clause-damage : goal.returns-in-Some-Show-clause-damage
returns-in-Some-Show-clause-damage g c told word damage names right damaged =
    let read : c.in-Ok.word ≡ Some Show = search rules in
    show_reported word c.show.result (g.D.Disk.view c.args.disk).files damage (word_named c.in-Ok.word Show _ word read c.in-Ok.ensures.named names) damaged
    (c.show.ensures.damaged told)

pub returns-in-Some-Show-clause-complete : goal.returns-in-Some-Show-clause-complete
returns-in-Some-Show-clause-complete g c told told_disk word names ready no_source no_disk no_sink =
    let read : c.in-Ok.word ≡ Some Show = search rules in
    show_complete word c.show.result (g.S.Source.left c.args.script.now) (g.D.Disk.view c.args.disk).files
    (Rose (g.D.Disk.faults c.args.disk) (g.D.Disk.faults c.show.new.disk)) (Rose (g.K.Sink.faults c.args.out.now) (g.K.Sink.faults c.show.new.out))
    (word_named c.in-Ok.word Show _ word read c.in-Ok.ensures.named names)
    c.show.ensures.status (c.show.ensures.damage told_disk) c.show.ensures.disk_cause c.show.ensures.sink_cause ready no_disk no_sink

pub returns-in-Some-Dump-clause-damage : goal.returns-in-Some-Dump-clause-damage
returns-in-Some-Dump-clause-damage g c told word damage names right damaged =
    let read : c.in-Ok.word ≡ Some (Dump c.in-Some-Dump.number) = search rules in
    dump_reported word c.in-Some-Dump.number c.dump.result (g.D.Disk.view c.args.disk).files damage
    (word_named c.in-Ok.word (Dump c.in-Some-Dump.number) _ word read c.in-Ok.ensures.named names) damaged
    (c.dump.ensures.damaged told)

pub returns-in-Some-Dump-clause-complete : goal.returns-in-Some-Dump-clause-complete
returns-in-Some-Dump-clause-complete g c told told_disk word names ready no_source no_disk no_sink =
    let read : c.in-Ok.word ≡ Some (Dump c.in-Some-Dump.number) = search rules in
    dump_complete word c.in-Some-Dump.number c.dump.result (g.S.Source.left c.args.script.now) (g.D.Disk.view c.args.disk).files
    (Rose (g.D.Disk.faults c.args.disk) (g.D.Disk.faults c.dump.new.disk)) (Rose (g.K.Sink.faults c.args.out.now) (g.K.Sink.faults c.dump.new.out))
    (word_named c.in-Ok.word (Dump c.in-Some-Dump.number) _ word read c.in-Ok.ensures.named names)
    c.dump.ensures.status (c.dump.ensures.damage told_disk) c.dump.ensures.disk_cause c.dump.ensures.sink_cause ready no_disk no_sink

pub returns-in-Some-Log-clause-any_moment : goal.returns-in-Some-Log-clause-any_moment
returns-in-Some-Log-clause-any_moment g c told told_disk =
    let read : c.in-Ok.word ≡ Some Log = search rules in
    moments_of _ (Some To_log) (g.S.Source.left c.args.script.now) (g.D.Disk.view c.args.disk) (g.D.Disk.view c.log.new.disk)
    (words_named c.in-Ok.word Log _ read c.in-Ok.ensures.named)
    (c.log.ensures.any_moment (script_told _ (IsTrue g.S.Source.told) (words_named c.in-Ok.word Log _ read c.in-Ok.ensures.named) told) told_disk)

pub returns-in-Some-Show-clause-moments : goal.returns-in-Some-Show-clause-moments
returns-in-Some-Show-clause-moments g c told = time_of (IsImageNow (g.D.Disk.view c.args.disk)) (g.D.Disk.view c.args.disk) (g.D.Disk.view c.show.new.disk) (c.show.ensures.moments told)

pub returns-in-Some-Show-clause-any_moment : goal.returns-in-Some-Show-clause-any_moment
returns-in-Some-Show-clause-any_moment g c told told_disk =
    let read : c.in-Ok.word ≡ Some Show = search rules in
    moments_of _ (Some To_show) (g.S.Source.left c.args.script.now) (g.D.Disk.view c.args.disk) (g.D.Disk.view c.show.new.disk)
    (words_named c.in-Ok.word Show _ read c.in-Ok.ensures.named) (c.show.ensures.moments told_disk)

pub returns-in-Some-Dump-clause-moments : goal.returns-in-Some-Dump-clause-moments
returns-in-Some-Dump-clause-moments g c told = time_of (IsImageNow (g.D.Disk.view c.args.disk)) (g.D.Disk.view c.args.disk) (g.D.Disk.view c.dump.new.disk) (c.dump.ensures.moments told)

pub returns-in-Some-Dump-clause-any_moment : goal.returns-in-Some-Dump-clause-any_moment
returns-in-Some-Dump-clause-any_moment g c told told_disk =
    let read : c.in-Ok.word ≡ Some (Dump c.in-Some-Dump.number) = search rules in
    moments_of _ (Some (To_dump c.in-Some-Dump.number)) (g.S.Source.left c.args.script.now) (g.D.Disk.view c.args.disk) (g.D.Disk.view c.dump.new.disk)
    (words_named c.in-Ok.word (Dump c.in-Some-Dump.number) _ read c.in-Ok.ensures.named) (c.dump.ensures.moments told_disk)

pub returns-in-Some-Ship-clause-damage : goal.returns-in-Some-Ship-clause-damage
returns-in-Some-Ship-clause-damage g c told word damage names right damaged =
    let read : c.in-Ok.word ≡ Some (Ship c.in-Some-Ship.from) = search rules in
    ship_reported word (position_of c.in-Some-Ship.from) c.ship.result (g.D.Disk.view c.args.disk).files damage
    (word_named c.in-Ok.word (Ship c.in-Some-Ship.from) _ word read c.in-Ok.ensures.named names) damaged (c.ship.ensures.damaged told)

pub returns-in-Some-Ship-clause-no_position : goal.returns-in-Some-Ship-clause-no_position
returns-in-Some-Ship-clause-no_position g c told word file has names lacks =
    let read : c.in-Ok.word ≡ Some (Ship c.in-Some-Ship.from) = search rules in
    c.ship.ensures.out told file has
    (ship_lacks word (position_of c.in-Some-Ship.from) (g.D.Disk.view c.args.disk).files file has (word_named c.in-Ok.word (Ship c.in-Some-Ship.from) _ word read c.in-Ok.ensures.named names) lacks)

pub returns-in-Some-Ship-clause-complete : goal.returns-in-Some-Ship-clause-complete
returns-in-Some-Ship-clause-complete g c told told_disk word names ready no_source no_disk no_sink =
    let read : c.in-Ok.word ≡ Some (Ship c.in-Some-Ship.from) = search rules in
    ship_complete word (position_of c.in-Some-Ship.from) c.ship.result
    (Rose (g.D.Disk.faults c.args.disk) (g.D.Disk.faults c.ship.new.disk)) (Rose (g.K.Sink.faults c.args.out.now) (g.K.Sink.faults c.ship.new.out))
    (word_named c.in-Ok.word (Ship c.in-Some-Ship.from) _ word read c.in-Ok.ensures.named names)
    c.ship.ensures.status c.ship.ensures.disk_cause c.ship.ensures.sink_cause no_disk no_sink

pub returns-in-Some-Ship-clause-moments : goal.returns-in-Some-Ship-clause-moments
returns-in-Some-Ship-clause-moments g c told = time_of (IsImageNow (g.D.Disk.view c.args.disk)) (g.D.Disk.view c.args.disk) (g.D.Disk.view c.ship.new.disk) (c.ship.ensures.moments told)

pub returns-in-Some-Ship-clause-any_moment : goal.returns-in-Some-Ship-clause-any_moment
returns-in-Some-Ship-clause-any_moment g c told told_disk =
    let read : c.in-Ok.word ≡ Some (Ship c.in-Some-Ship.from) = search rules in
    moments_of _ (Some (To_ship (position_of c.in-Some-Ship.from))) (g.S.Source.left c.args.script.now) (g.D.Disk.view c.args.disk) (g.D.Disk.view c.ship.new.disk)
    (words_named c.in-Ok.word (Ship c.in-Some-Ship.from) _ read c.in-Ok.ensures.named) (c.ship.ensures.moments told_disk)

pub returns-in-Some-Recover-clause-moments : goal.returns-in-Some-Recover-clause-moments
returns-in-Some-Recover-clause-moments g c told = time_of (WasOrAlike (g.D.Disk.view c.args.disk)) (g.D.Disk.view c.args.disk) (g.D.Disk.view c.recover.new.disk) (c.recover.ensures.any_moment told)

pub returns-in-Some-Recover-clause-any_moment : goal.returns-in-Some-Recover-clause-any_moment
returns-in-Some-Recover-clause-any_moment g c told told_disk =
    let read : c.in-Ok.word ≡ Some Recover = search rules in
    moments_of _ (Some To_recover) (g.S.Source.left c.args.script.now) (g.D.Disk.view c.args.disk) (g.D.Disk.view c.recover.new.disk)
    (words_named c.in-Ok.word Recover _ read c.in-Ok.ensures.named) (c.recover.ensures.any_moment told_disk)

pub returns-in-Some-Recover-clause-complete : goal.returns-in-Some-Recover-clause-complete
returns-in-Some-Recover-clause-complete g c told told_disk word names ready no_source no_disk no_sink =
    let read : c.in-Ok.word ≡ Some Recover = search rules in
    recover_complete word c.recover.result (g.S.Source.left c.args.script.now) (g.D.Disk.view c.args.disk).files
    (Rose (g.D.Disk.faults c.args.disk) (g.D.Disk.faults c.recover.new.disk)) (Rose (g.K.Sink.faults c.args.out.now) (g.K.Sink.faults c.recover.new.out))
    (word_named c.in-Ok.word Recover _ word read c.in-Ok.ensures.named names)
    c.recover.ensures.status (c.recover.ensures.damage told_disk) c.recover.ensures.disk_cause c.recover.ensures.sink_cause ready no_disk no_sink

pub returns-in-Some-Recover-clause-damage : goal.returns-in-Some-Recover-clause-damage
returns-in-Some-Recover-clause-damage g c told word damage names right damaged =
    let read : c.in-Ok.word ≡ Some Recover = search rules in
    recover_reported word c.recover.result (g.D.Disk.view c.args.disk).files damage
    (word_named c.in-Ok.word Recover _ word read c.in-Ok.ensures.named names) damaged
    (c.recover.ensures.damaged told damage)

pub returns-in-Some-Compact-clause-moments : goal.returns-in-Some-Compact-clause-moments
returns-in-Some-Compact-clause-moments g c told =
    time_of (CompactMayLeave c.in-Some-Compact.region c.in-Some-Compact.kind (g.D.Disk.view c.args.disk)) (g.D.Disk.view c.args.disk) (g.D.Disk.view c.compact_region.new.disk) (c.compact_region.ensures.any_moment told)

pub returns-in-Some-Compact-clause-any_moment : goal.returns-in-Some-Compact-clause-any_moment
returns-in-Some-Compact-clause-any_moment g c told told_disk =
    let read : c.in-Ok.word ≡ Some (Compact c.in-Some-Compact.kind c.in-Some-Compact.region) = search rules in
    moments_of _ (Some (To_compact c.in-Some-Compact.kind c.in-Some-Compact.region)) (g.S.Source.left c.args.script.now) (g.D.Disk.view c.args.disk) (g.D.Disk.view c.compact_region.new.disk)
    (words_named c.in-Ok.word (Compact c.in-Some-Compact.kind c.in-Some-Compact.region) _ read c.in-Ok.ensures.named) (c.compact_region.ensures.any_moment told_disk)

pub returns-in-Some-Compact-clause-complete : goal.returns-in-Some-Compact-clause-complete
returns-in-Some-Compact-clause-complete g c told told_disk word names ready no_source no_disk no_sink =
    let read : c.in-Ok.word ≡ Some (Compact c.in-Some-Compact.kind c.in-Some-Compact.region) = search rules in
    compact_complete word c.in-Some-Compact.kind c.in-Some-Compact.region c.compact_region.result (g.S.Source.left c.args.script.now) (g.D.Disk.view c.args.disk).files
    (Rose (g.D.Disk.faults c.args.disk) (g.D.Disk.faults c.compact_region.new.disk)) (Rose (g.K.Sink.faults c.args.out.now) (g.K.Sink.faults c.compact_region.new.out))
    (word_named c.in-Ok.word (Compact c.in-Some-Compact.kind c.in-Some-Compact.region) _ word read c.in-Ok.ensures.named names)
    c.compact_region.ensures.status (c.compact_region.ensures.damage told_disk) c.compact_region.ensures.disk_cause c.compact_region.ensures.sink_cause ready no_disk no_sink

pub returns-in-Some-Compact-clause-damage : goal.returns-in-Some-Compact-clause-damage
returns-in-Some-Compact-clause-damage g c told word damage names right damaged =
    let read : c.in-Ok.word ≡ Some (Compact c.in-Some-Compact.kind c.in-Some-Compact.region) = search rules in
    compact_reported word c.in-Some-Compact.kind c.in-Some-Compact.region c.compact_region.result (g.D.Disk.view c.args.disk).files damage
    (word_named c.in-Ok.word (Compact c.in-Some-Compact.kind c.in-Some-Compact.region) _ word read c.in-Ok.ensures.named names) damaged
    (c.compact_region.ensures.damaged told damage)

pub returns-in-Some-Run-clause-moments : goal.returns-in-Some-Run-clause-moments
returns-in-Some-Run-clause-moments g c told =
    time_of (MayKeep (g.D.Disk.view c.args.disk)) (g.D.Disk.view c.args.disk) (g.D.Disk.view c.run_script.result.disk) (c.run_script.ensures.any_moment told)

pub returns-in-Some-Run-clause-any_moment : goal.returns-in-Some-Run-clause-any_moment
returns-in-Some-Run-clause-any_moment g c told told_disk =
    let read : c.in-Ok.word ≡ Some Run = search rules in
    moments_of _ (Some To_run) (g.S.Source.left c.args.script.now) (g.D.Disk.view c.args.disk) (g.D.Disk.view c.run_script.result.disk)
    (words_named c.in-Ok.word Run _ read c.in-Ok.ensures.named) (c.run_script.ensures.any_moment told_disk)

pub returns-in-Some-Run-clause-damage : goal.returns-in-Some-Run-clause-damage
returns-in-Some-Run-clause-damage g c told_disk word damage names right damaged =
    let read : c.in-Ok.word ≡ Some Run = search rules in
    run_reported word c.run_script.result.status (IsTrue g.S.Source.told) (g.S.Source.left c.args.script.now) (g.D.Disk.view c.args.disk).files damage
    (word_named c.in-Ok.word Run _ word read c.in-Ok.ensures.named names) right damaged
    (λ told rights. c.run_script.ensures.damaged told told_disk damage rights)

pub returns-in-Some-Run-clause-complete : goal.returns-in-Some-Run-clause-complete
returns-in-Some-Run-clause-complete g c told told_disk word names ready no_source no_disk no_sink =
    let read : c.in-Ok.word ≡ Some Run = search rules in
    run_complete word c.run_script.result.status (g.S.Source.left c.args.script.now) (g.D.Disk.view c.args.disk).files
    (word_named c.in-Ok.word Run _ word read c.in-Ok.ensures.named names) ready
    (λ right sound. c.run_script.ensures.complete told told_disk right sound no_source no_disk no_sink)

pub returns-in-None-clause-usage : goal.returns-in-None-clause-usage
returns-in-None-clause-usage g c none = inl c.refuse-in-None.ensures.status

-- ---- load

pub returns-in-Some-Load-clause-moments : goal.returns-in-Some-Load-clause-moments
returns-in-Some-Load-clause-moments g c told =
    time_of (MayKeep (g.D.Disk.view c.args.disk)) (g.D.Disk.view c.args.disk) (g.D.Disk.view c.load.result.disk) (c.load.ensures.any_moment told)

pub returns-in-Some-Load-clause-any_moment : goal.returns-in-Some-Load-clause-any_moment
returns-in-Some-Load-clause-any_moment g c told told_disk =
    let read : c.in-Ok.word ≡ Some (Load c.in-Some-Load.options) = search rules in
    moments_of _ (Some (To_load c.in-Some-Load.options)) (g.S.Source.left c.args.script.now) (g.D.Disk.view c.args.disk) (g.D.Disk.view c.load.result.disk)
    (words_named c.in-Ok.word (Load c.in-Some-Load.options) _ read c.in-Ok.ensures.named) (c.load.ensures.any_moment told_disk)

pub returns-in-Some-Load-clause-not_empty : goal.returns-in-Some-Load-clause-not_empty
returns-in-Some-Load-clause-not_empty g c told word name rest names wants right is = load_full c.load.result.status name (c.load.ensures.full told name rest is)

-- ---- which statuses there are

pub returns-in-Some-Log-clause-range : goal.returns-in-Some-Log-clause-range
returns-in-Some-Log-clause-range g c =
    let read : c.in-Ok.word ≡ Some Log = search rules in
    status_of _ (Some To_log) _ (words_named c.in-Ok.word Log _ read c.in-Ok.ensures.named) c.log.ensures.status

pub returns-in-Some-Show-clause-range : goal.returns-in-Some-Show-clause-range
returns-in-Some-Show-clause-range g c =
    let read : c.in-Ok.word ≡ Some Show = search rules in
    status_of _ (Some To_show) _ (words_named c.in-Ok.word Show _ read c.in-Ok.ensures.named) c.show.ensures.status

pub returns-in-Some-Dump-clause-range : goal.returns-in-Some-Dump-clause-range
returns-in-Some-Dump-clause-range g c =
    let read : c.in-Ok.word ≡ Some (Dump c.in-Some-Dump.number) = search rules in
    status_of _ (Some (To_dump c.in-Some-Dump.number)) _ (words_named c.in-Ok.word (Dump c.in-Some-Dump.number) _ read c.in-Ok.ensures.named) c.dump.ensures.status

pub returns-in-Some-Ship-clause-range : goal.returns-in-Some-Ship-clause-range
returns-in-Some-Ship-clause-range g c =
    let read : c.in-Ok.word ≡ Some (Ship c.in-Some-Ship.from) = search rules in
    status_of _ (Some (To_ship (position_of c.in-Some-Ship.from))) _ (words_named c.in-Ok.word (Ship c.in-Some-Ship.from) _ read c.in-Ok.ensures.named) c.ship.ensures.status

pub returns-in-Some-Recover-clause-range : goal.returns-in-Some-Recover-clause-range
returns-in-Some-Recover-clause-range g c =
    let read : c.in-Ok.word ≡ Some Recover = search rules in
    status_of _ (Some To_recover) _ (words_named c.in-Ok.word Recover _ read c.in-Ok.ensures.named) c.recover.ensures.status

pub returns-in-Some-Compact-clause-range : goal.returns-in-Some-Compact-clause-range
returns-in-Some-Compact-clause-range g c =
    let read : c.in-Ok.word ≡ Some (Compact c.in-Some-Compact.kind c.in-Some-Compact.region) = search rules in
    status_of _ (Some (To_compact c.in-Some-Compact.kind c.in-Some-Compact.region)) _ (words_named c.in-Ok.word (Compact c.in-Some-Compact.kind c.in-Some-Compact.region) _ read c.in-Ok.ensures.named) c.compact_region.ensures.status

pub returns-in-Some-Run-clause-range : goal.returns-in-Some-Run-clause-range
returns-in-Some-Run-clause-range g c =
    let read : c.in-Ok.word ≡ Some Run = search rules in
    status_of _ (Some To_run) _ (words_named c.in-Ok.word Run _ read c.in-Ok.ensures.named) c.run_script.ensures.status

pub returns-in-Some-Load-clause-range : goal.returns-in-Some-Load-clause-range
returns-in-Some-Load-clause-range g c =
    let read : c.in-Ok.word ≡ Some (Load c.in-Some-Load.options) = search rules in
    status_of _ (Some (To_load c.in-Some-Load.options)) _ (words_named c.in-Ok.word (Load c.in-Some-Load.options) _ read c.in-Ok.ensures.named) c.load.ensures.status

pub returns-in_default-clause-range : goal.returns-in_default-clause-range
returns-in_default-clause-range g c = unread_status (word_of (map (λ w. w.now) c.args.words.now)) c.refuse.result c.refuse.ensures.status

pub returns-in-None-clause-range : goal.returns-in-None-clause-range
returns-in-None-clause-range g c =
    let read : c.in-Ok.word ≡ None = search rules in
    none_status c.in-Ok.word (word_of (map (λ w. w.now) c.args.words.now)) c.refuse-in-None.result read c.in-Ok.ensures.named c.refuse-in-None.ensures.status

-- ---- words that weren't read

pub returns-in_default-clause-ends : goal.returns-in_default-clause-ends
returns-in_default-clause-ends g c told told_disk told_sink word names =
    unread_ends word c.refuse.result (g.S.Source.left c.args.script.now) (g.K.Sink.taken c.args.out.now) (g.K.Sink.taken c.refuse.new.sink) (g.D.Disk.view c.args.disk) _ _
    c.refuse.ensures.status (c.refuse.ensures.prints told_sink refused_memory refl)

pub returns-in_default-clause-any_moment : goal.returns-in_default-clause-any_moment
returns-in_default-clause-any_moment g c told told_disk =
    no_moment ((profile_of _).may_leave (g.S.Source.left c.args.script.now) (g.D.Disk.view c.args.disk)) (g.D.Disk.view c.args.disk)
    (unread_leaves _ (g.S.Source.left c.args.script.now) (g.D.Disk.view c.args.disk))

pub returns-in-Some-Compact-clause-ends : goal.returns-in-Some-Compact-clause-ends
returns-in-Some-Compact-clause-ends g c told told_disk told_sink word names =
    let read : c.in-Ok.word ≡ Some (Compact c.in-Some-Compact.kind c.in-Some-Compact.region) = search rules in
    ends_for word (To_compact c.in-Some-Compact.kind c.in-Some-Compact.region) c.compact_region.result
    (invocation (g.S.Source.left c.args.script.now) (g.D.Disk.view c.args.disk) (g.D.Disk.view c.compact_region.new.disk) (g.K.Sink.taken c.args.out.now) (g.K.Sink.taken c.compact_region.new.out))
    (Rose (g.D.Disk.faults c.args.disk) (g.D.Disk.faults c.compact_region.new.disk)) (Rose (g.K.Sink.faults c.args.out.now) (g.K.Sink.faults c.compact_region.new.out))
    (word_named c.in-Ok.word (Compact c.in-Some-Compact.kind c.in-Some-Compact.region) _ word read c.in-Ok.ensures.named names)
    (c.compact_region.ensures.ends told_disk told_sink (g.S.Source.left c.args.script.now))

pub returns-in-Some-Ship-clause-ends : goal.returns-in-Some-Ship-clause-ends
returns-in-Some-Ship-clause-ends g c told told_disk told_sink word names =
    let read : c.in-Ok.word ≡ Some (Ship c.in-Some-Ship.from) = search rules in
    ends_for word (To_ship (position_of c.in-Some-Ship.from)) c.ship.result
    (invocation (g.S.Source.left c.args.script.now) (g.D.Disk.view c.args.disk) (g.D.Disk.view c.ship.new.disk) (g.K.Sink.taken c.args.out.now) (g.K.Sink.taken c.ship.new.out))
    (Rose (g.D.Disk.faults c.args.disk) (g.D.Disk.faults c.ship.new.disk)) (Rose (g.K.Sink.faults c.args.out.now) (g.K.Sink.faults c.ship.new.out))
    (word_named c.in-Ok.word (Ship c.in-Some-Ship.from) _ word read c.in-Ok.ensures.named names)
    (c.ship.ensures.ends told_disk told_sink (g.S.Source.left c.args.script.now))
