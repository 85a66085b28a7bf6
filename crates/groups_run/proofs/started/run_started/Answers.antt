use denote.Exit.{no}
use mir.Syntax.{named as named_lifetime}
use denote.Param.Send.{sendable, param_sync, arg_sync}
use Rattle.std.proofs.Crossing.{crosses}
use Rattle.group_calls.proofs.Crossing.{group_pass_send, group_helper_send, groups_sync}
use Rattle.groups_run.specs.Seating.{AllHelp}
use Rattle.std.proofs.Common.{◌≡◌, ℕ, ◌+◌, ◌≤◌, Option, Some, None, IfSome, length, sym, subst, ap, ◌∙◌, arith}
use Rattle.groups_run.specs.Helpers.{held}
use Rattle.group_calls.specs.Passes.{named}
use Rattle.group_calls.specs.Servers.{Servers}
use Rattle.server_model.specs.Pass.{Naming}
use Rattle.group_calls.specs.group_servers.Closing.{HasEnded}
use Rattle.groups_run.specs.Ended.{passes_on}
use Rattle.groups_run.specs.Handing.{known_on}
use Rattle.groups_run.specs.Seating.{seats_of, times}
use Rattle.groups_run.proofs.Backs.{all_back, ended_of, same_back}
use Rattle.groups_run.proofs.Handled.{all_of, all_ready, are_handled, handled, taken_length}
use Rattle.groups_run.proofs.Seats.{at_most_two, help_each, slice_helped, two_each}
use Rattle.groups_run.proofs.started.run_started.Goals as goal

pub take_passes-requires-clause-of : goal.take_passes-requires-clause-of
take_passes-requires-clause-of g c = (c.args.started.groups, c.requires.passes.0)

pub run_served-requires-send-S-Pass : goal.run_served-requires-send-S-Pass
run_served-requires-send-S-Pass g c κs within = search (group_pass_send, sendable, crosses) fits 5000 depth 30

pub run_served-requires-send-S-Seat : goal.run_served-requires-send-S-Seat
run_served-requires-send-S-Seat g c κs within = search (group_helper_send, sendable, crosses) fits 5000 depth 30

pub run_served-requires-sync-S : goal.run_served-requires-sync-S
run_served-requires-sync-S g c κs within =
    let bounds = c.type_bounds in
    param_sync 0 _ (arg_sync _ no _ (
    groups_sync (record { mir = named_lifetime 0; lft = _ }) _ _ _ _ _ _ _ g.N1.ServerNaming _ _ _ g.N2.ServerNaming _ _ _ g.N3.ServerNaming _ _ _ g.N4.ServerNaming _ _ _
    bounds.send-D bounds.send-N1 bounds.send-N2 bounds.send-N3 bounds.send-N4 bounds.sync-R
    ))

pub run_served-requires-clause-seats : goal.run_served-requires-clause-seats
run_served-requires-clause-seats g c κs within =
    let s : Servers = c.args.started.groups in
    help_each s c.as_mut_slice.result.now (subst (AllHelp s) (sym c.as_mut_slice.ensures.value) (c.take_seats.ensures.of s c.requires.helpers.0).1)

pub run_served-requires-clause-ready : goal.run_served-requires-clause-ready
run_served-requires-clause-ready g c κs within =
    let s : Servers = c.args.started.groups in
    let names : ℕ → Naming = named g.N1.ServerNaming.name g.N2.ServerNaming.name g.N3.ServerNaming.name g.N4.ServerNaming.name in
    all_ready names s c.args.time g.N1.ServerNaming.name.regions c.args.rooms.items c.take_passes.new.handlers.items c.requires.script c.requires.fits c.requires.rooms c.take_passes.ensures.taken
    (c.take_passes.ensures.of s c.requires.passes.0).1

pub give_seats-requires-clause-of : goal.give_seats-requires-clause-of
give_seats-requires-clause-of g c =
    let s : Servers = c.args.started.groups in
    let helped = slice_helped _ _ s (λ h is. is) c.take_seats.new.seats.len c.take_seats.new.seats.items c.as_mut_slice.result.now c.run_served.new.seats c.as_mut_slice.ensures.value c.as_mut_slice.ensures.len c.run_served.ensures.seats in
    (s, (c.take_seats.ensures.of s c.requires.helpers.0).0, helped.0)

pub give_seats-requires-clause-room : goal.give_seats-requires-clause-room
give_seats-requires-clause-room g c k =
    let s : Servers = c.args.started.groups in
    let helped = slice_helped _ _ s (λ h is. is) c.take_seats.new.seats.len c.take_seats.new.seats.items c.as_mut_slice.result.now c.run_served.new.seats c.as_mut_slice.ensures.value c.as_mut_slice.ensures.len c.run_served.ensures.seats in
    let same = ap (times k) helped.1 in
    let taken = c.take_seats.ensures.taken k in
    let most = at_most_two c.args.started.helpers c.requires.helpers.1 k in
    omega (arith, same, taken, most)

pub give_back-spent-requires-clause-none : goal.give_back-spent-requires-clause-none
give_back-spent-requires-clause-none g c =
    let taken = taken_length 1 c.args.rooms.items c.take_passes.new.handlers.items c.take_passes.ensures.taken in
    (c.requires.replies.0, omega (arith, c.run_served.ensures.run.len, taken, c.requires.replies.1, c.run_served.new.handlers.ok, c.args.rooms.ok))

pub give_back-spent-requires-clause-of : goal.give_back-spent-requires-clause-of
give_back-spent-requires-clause-of g c =
    let s : Servers = c.args.started.groups in
    let names : ℕ → Naming = named g.N1.ServerNaming.name g.N2.ServerNaming.name g.N3.ServerNaming.name g.N4.ServerNaming.name in
    (s, (c.take_passes.ensures.of s c.requires.passes.0).0, all_of names c.args.time s c.take_passes.new.handlers.items c.run_served.new.handlers.items c.run_served.ensures.run)

pub give_back-spent-requires-clause-passes : goal.give_back-spent-requires-clause-passes
give_back-spent-requires-clause-passes g c =
    let taken = taken_length 1 c.args.rooms.items c.take_passes.new.handlers.items c.take_passes.ensures.taken in
    (c.take_passes.ensures.out, c.take_passes.ensures.back, omega (arith, c.run_served.ensures.run.len, taken, c.requires.few, c.run_served.new.handlers.ok, c.args.rooms.ok))

pub close_groups-closed-requires-clause-back : goal.close_groups-closed-requires-clause-back
close_groups-closed-requires-clause-back g c =
    let s : Servers = c.args.started.groups in
    let names : ℕ → Naming = named g.N1.ServerNaming.name g.N2.ServerNaming.name g.N3.ServerNaming.name g.N4.ServerNaming.name in
    let all = all_of names c.args.time s c.take_passes.new.handlers.items c.run_served.new.handlers.items c.run_served.ensures.run in
    let passes = c.give_back-spent.ensures.of s (c.take_passes.ensures.of s c.requires.passes.0).0 all in
    let taken = taken_length 1 c.args.rooms.items c.take_passes.new.handlers.items c.take_passes.ensures.taken in
    let seats = c.take_seats.ensures.of s c.requires.helpers.0 in
    let helped = slice_helped _ _ s (λ h is. is) c.take_seats.new.seats.len c.take_seats.new.seats.items c.as_mut_slice.result.now c.run_served.new.seats c.as_mut_slice.ensures.value c.as_mut_slice.ensures.len c.run_served.ensures.seats in
    let same : (k : ℕ) → held c.give_seats.new.helpers k ≡ held c.args.started.helpers k = λ k.
    (let over = ap (times k) helped.1 in
    let given = c.give_seats.ensures.given k in
    let was = c.take_seats.ensures.taken k in
    omega (arith, over, given, was)) in
    let helpers = c.give_seats.ensures.of s seats.0 helped.0 in
    all_back s g.N1.LockNaming.handlers g.N2.LockNaming.handlers g.N3.LockNaming.handlers g.N4.LockNaming.handlers c.give_back-spent.new.passes c.run_served.new.handlers.items c.give_seats.new.helpers passes
    c.give_back-spent.ensures.back c.give_back-spent.ensures.out (omega (arith, c.run_served.ensures.run.len, taken, c.requires.few, c.args.rooms.ok)) helpers
    (two_each s c.args.started.helpers c.give_seats.new.helpers c.requires.helpers.0 helpers same c.requires.helpers.1)

always : {A : Type 0} (P : Type 0) (o : Option A) → P → IfSome o (λ _. P)
always P None is = tt
always P (Some x) is = is

pub close_groups-closed-requires-clause-regions : goal.close_groups-closed-requires-clause-regions
close_groups-closed-requires-clause-regions g c =
    let s : Servers = c.args.started.groups in
    record {
      second_same = always _ s.second (c.requires.fits 2).regions;
      third_same = always _ s.third (c.requires.fits 3).regions;
      fourth_same = always _ s.fourth (c.requires.fits 4).regions;
    }

pub returns : goal.returns
returns g c =
    let s : Servers = c.args.started.groups in
    let names : ℕ → Naming = named g.N1.ServerNaming.name g.N2.ServerNaming.name g.N3.ServerNaming.name g.N4.ServerNaming.name in
    let back = close_groups-closed-requires-clause-back g c.before in
    let olds = c.take_passes.new.handlers.items in
    let news = c.run_served.new.handlers.items in
    let all = (c.take_passes.ensures.of s c.requires.passes.0).1 in
    let h = handled names s c.args.time g.N1.ServerNaming.name.regions c.args.rooms.items olds news c.requires.servers c.take_passes.ensures.taken all c.run_served.ensures.run in
    let e = c.close_groups-closed.ensures in
    let passes = c.give_back-spent.new.passes in
    let have = c.give_back-spent.ensures.back in
    record {
      handlers = h.0;
      handled = are_handled names s c.args.time g.N1.ServerNaming.name.regions c.args.rooms.items news h.0 h.1;
      lines = c.give_back-spent.ensures.parts ∙ h.1.lines;
      first_told = h.1.spent ∙ sym c.give_back-spent.ensures.spent;
      ends = e.0;
      joined = e.1;
      first = subst (λ ps. HasEnded g.D.Disk g.N1.ServerNaming g.N1.LockNaming g.N1.ServiceNaming g.N1.VersionsNaming ps e.0.first) (have.first ∙ sym (h.1.passes 1)) e.2;
      second = ended_of g.D.Disk g.N2.ServerNaming g.N2.LockNaming g.N2.ServiceNaming g.N2.VersionsNaming s.second g.N2.LockNaming.handlers (passes_on 2 h.0) passes.second c.give_seats.new.helpers.second e.0.second back.second
          (same_back (known_on 2 news) (passes_on 2 h.0) passes.second (sym (h.1.passes 2)) have.second) e.3;
      third = ended_of g.D.Disk g.N3.ServerNaming g.N3.LockNaming g.N3.ServiceNaming g.N3.VersionsNaming s.third g.N3.LockNaming.handlers (passes_on 3 h.0) passes.third c.give_seats.new.helpers.third e.0.third back.third
          (same_back (known_on 3 news) (passes_on 3 h.0) passes.third (sym (h.1.passes 3)) have.third) e.4;
      fourth = ended_of g.D.Disk g.N4.ServerNaming g.N4.LockNaming g.N4.ServiceNaming g.N4.VersionsNaming s.fourth g.N4.LockNaming.handlers (passes_on 4 h.0) passes.fourth c.give_seats.new.helpers.fourth e.0.fourth back.fourth
          (same_back (known_on 4 news) (passes_on 4 h.0) passes.fourth (sym (h.1.passes 4)) have.fourth) e.5;
    }
