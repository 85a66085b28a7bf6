use Rattle.group_servers.proofs.Handing.{passes_there, next_some, next_of}
use Rattle.group_servers.proofs.dealing.next_at.Goals as goal

pub next-requires : goal.next-requires
next-requires g c = record { of = passes_there c.requires.of.0 g.N.LockNaming.handlers c.in-Some.passes (rw c.in-Some.is at c.requires.of.1) }

pub returns-in-Some-clause-next : goal.returns-in-Some-clause-next
returns-in-Some-clause-next g c =
    rw c.in-Some.is (next_some g.N.LockNaming.handlers c.in-Some.passes c.next.new.self c.next.result (rw c.in-Some.is at c.requires.left) c.next.ensures.some c.next.ensures.none c.next.ensures.back)

pub returns-in-Some-clause-of : goal.returns-in-Some-clause-of
returns-in-Some-clause-of g c =
    rw c.in-Some.is (next_of g.N.LockNaming.handlers c.in-Some.passes c.next.new.self c.next.result (rw c.in-Some.is at c.requires.left) c.next.ensures.none c.next.ensures.of)
