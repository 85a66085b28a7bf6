use Rattle.std.proofs.Common.{◌≡◌, Option, sym, subst}
use Rattle.handler_threads.specs.region_calls.declared.passes.Passes.{Passes}
use Rattle.group_servers.specs.Dealing.{ArePassesAt}
use Rattle.group_servers.proofs.Handing.{back_there, back_of}
use Rattle.group_servers.proofs.dealing.put_back_at.Goals.{in-Some-Some, in-None-None}
use Rattle.group_servers.proofs.dealing.put_back_at.Goals as goal

pub put_back-requires-clause-of : goal.put_back-requires-clause-of
put_back-requires-clause-of g c =
    back_there c.requires.of.0 g.N.LockNaming.handlers c.in-Some-Some.passes c.in-Some-Some.pass (rw c.in-Some-Some.is-0 at c.requires.of.1) (rw c.in-Some-Some.is-1 at c.requires.of.2)

pub put_back-requires-clause-out : goal.put_back-requires-clause-out
put_back-requires-clause-out g c = rw c.in-Some-Some.is-0 at c.requires.room

pub returns-clause-of : goal.returns-clause-of
returns-clause-of g c place are is =
    elim c.match-passes.branch [
      | in-Some-Some w ↦
          rw w.passes-is
          (back_of g.N.LockNaming.handlers w.in-Some-Some.passes w.put_back.new.self w.in-Some-Some.pass w.put_back.ensures.of place (rw w.in-Some-Some.is-0 at are) (rw w.in-Some-Some.is-1 at is))
      | in-None-None w ↦
          let same : c.match-passes.passes ≡ c.args.passes.now = cc (w.passes-is, w.in-None-None.is-0) in
          subst (λ (p : Option (Passes g.row.N.Denot g.N.LockNaming)). ArePassesAt place g.N.LockNaming.handlers p) (sym same) are
    ]
