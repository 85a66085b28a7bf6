use Rattle.std.proofs.Common.{◌+◌, ℕ, List, sym, subst, arith}
use Rattle.wal_split.specs.declared.flushed.RegionFlushed.{RegionFlushed}
use Rattle.wal_split.proofs.Raising.{AreNone, none_more, all_none, none_yet}
use Rattle.wal_split.proofs.flushed.none_flushed.Goals as goal

pub loop-before-init : goal.loop-before-init
loop-before-init c = none_yet c.in_ok-flushed.flushed.items c.in_ok-flushed.ensures.items

pub loop-before-preserved : goal.loop-before-preserved
loop-before-preserved c =
    subst (λ (l : List RegionFlushed). AreNone (c.loop-before._before + 1) l) (sym c.in_ok-push.ensures.items)
    (none_more c.loop-before._before c.loop-before.flushed.items c.none.result c.loop-before.invariant c.none.ensures)

pub returns : goal.returns
returns c = all_none c.loop-before.flushed.items (subst (λ (n : ℕ). AreNone n c.loop-before.flushed.items) (omega (arith, c.loop-before-test.false, c.loop-before.auto._before-end)) c.loop-before.invariant)
