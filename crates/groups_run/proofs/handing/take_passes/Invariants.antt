use Rattle.std.proofs.Common.{◌≡◌, length, vec_len, vec_capacity}
use Rattle.groups_run.specs.Dealing.{AreGroupPassesOf, groups_out}
use Rattle.group_calls.specs.Servers.{Servers}
use Rattle.groups_run.specs.Handing.{AllOfServers, AreTaken, NoneIsBack}
use Rattle.groups_run.proofs.handing.take_passes.Given as goal

abbrev pub invariant-loop-room : goal.invariant-loop-room
invariant-loop-room g l = record {
  taken : AreTaken 1 l.yielded l.handlers.items;
  out : groups_out l.passes ≡ length l.yielded;
  back : NoneIsBack l.passes;
  len : vec_len l.handlers ≡ length l.yielded;
  room : vec_capacity l.handlers ≡ vec_capacity l.initial.handlers;
  of : (s : Servers) → AreGroupPassesOf s g.N1.LockNaming.handlers g.N2.LockNaming.handlers g.N3.LockNaming.handlers g.N4.LockNaming.handlers l.fn.passes
      → AreGroupPassesOf s g.N1.LockNaming.handlers g.N2.LockNaming.handlers g.N3.LockNaming.handlers g.N4.LockNaming.handlers l.passes × AllOfServers s l.handlers.items;
}
