use Rattle.std.proofs.Common.{◌≡◌, List, get_or, refl, subst, sym}
use Rattle.seq_accounting.specs.Marks.{FamilyMark}
use Rattle.seq_accounting.specs.Regions.{IsPouredAt}
use Rattle.seq_accounting.specs.Rooms.{flush_of}
use Rattle.seq_accounting.specs.Accounts.{Accounts, Flush}
use Rattle.seq_accounting.specs.Noted.{HasNoted}
use Rattle.seq_accounting.specs.Steps.{IsAborted}
use Rattle.seq_accounting.proofs.NotedLaws.{noted_abort}
use Rattle.seq_accounting.proofs.CallLaws.{aborted}
use Rattle.seq_accounting.proofs.accounting.Accounting.abort_flush.Goals as goal

pub returns-clause-aborted : goal.returns-clause-aborted
returns-clause-aborted c =
    let s = c.«spend-region» in
    rw (← c.self.view_is, ← s.ensures.flush) (aborted _ _ (flush_of s.result) c.self.invariant s.ensures.within (record {
      since = c.take-since.ensures.left;
      flushing = refl;
      noted = refl;
      current = refl;
      files = record { closed = refl; last = refl; room = refl };
    }) (record { whole = refl; flushed = refl })
    (subst (IsPouredAt c.self.inside.oldest c.pour.new.self s.result.region) c.take-since.ensures.taken c.pour.ensures.poured))

pub returns-clause-history : goal.returns-clause-history
returns-clause-history c notes h =
    let s = c.«spend-region» in
    let before = subst (λ (a : Accounts). HasNoted a notes) (sym c.self.view_is) h in
    noted_abort _ _ notes (flush_of s.result) c.self.invariant s.ensures.within (aborted _ _ (flush_of s.result) c.self.invariant s.ensures.within (record {
      since = c.take-since.ensures.left;
      flushing = refl;
      noted = refl;
      current = refl;
      files = record { closed = refl; last = refl; room = refl };
    }) (record { whole = refl; flushed = refl })
    (subst (IsPouredAt c.self.inside.oldest c.pour.new.self s.result.region) c.take-since.ensures.taken c.pour.ensures.poured)) before
