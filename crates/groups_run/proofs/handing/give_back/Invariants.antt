use Rattle.std.proofs.Common.{◌≡◌, map, length, vec_len, vec_capacity}
use Rattle.std.specs.Vec.Iter.{into_iter_items}
use Rattle.script_run.specs.Ends.{first_of_all}
use Rattle.groups_run.specs.Dealing.{AreGroupPassesOf, groups_out}
use Rattle.group_calls.specs.Servers.{Servers}
use Rattle.groups_run.specs.Handing.{AllOfServers, HaveBack, lines_in, spent_in}
use Rattle.groups_run.proofs.handing.give_back.Given as goal

abbrev pub invariant-loop-handler : goal.invariant-loop-handler
invariant-loop-handler g l = record {
  back : HaveBack l.passes l.yielded;
  out : groups_out l.passes ≡ groups_out l.initial.passes;
  parts : l.parts.items ≡ map lines_in l.yielded;
  len : vec_len l.parts ≡ length l.yielded;
  room : vec_capacity l.parts ≡ vec_capacity l.initial.parts;
  spent : l.first ≡ first_of_all (map spent_in l.yielded);
  of : (s : Servers) → AreGroupPassesOf s g.N1.LockNaming.handlers g.N2.LockNaming.handlers g.N3.LockNaming.handlers g.N4.LockNaming.handlers l.fn.passes → AllOfServers s l.fn.handlers.items
      → AreGroupPassesOf s g.N1.LockNaming.handlers g.N2.LockNaming.handlers g.N3.LockNaming.handlers g.N4.LockNaming.handlers l.passes × AllOfServers s (into_iter_items l.handler-iterator);
}
