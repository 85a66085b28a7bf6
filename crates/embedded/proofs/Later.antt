-- What is kept of a pass that knows more.
use Rattle.std.proofs.Common.{◌≡◌, ℕ, ◌∙◌, arith}
use Rattle.server_model.specs.Pass.{Naming, Pass, IsLater}
use Rattle.server_model.proofs.JournalLaws.{prefix_trans}
use Rattle.embedded.specs.Settings.{IsSetFor}

pub later_trans : (p q t : Pass) → IsLater p q → IsLater q t → IsLater p t
later_trans p q t a b = record {
  handler = b.handler ∙ a.handler;
  calls = omega (arith, a.calls, b.calls);
  known = λ r. let x = a.known r in let y = b.known r in record {
    shown = prefix_trans (p.known r).shown (q.known r).shown (t.known r).shown x.shown y.shown;
    synced = omega (arith, x.synced, y.synced);
    stored = omega (arith, x.stored, y.stored);
    closed = omega (arith, x.closed, y.closed);
  };
  broken = λ e. b.broken (a.broken e);
}

-- what is kept beside a pass is right after a call too
pub set_after : (name : Naming) (time regions calls more : ℕ) (first old new : Pass) → IsSetFor name time regions calls first old → IsLater old new → more ≡ new.calls
    → IsSetFor name time regions more first new
set_after name time regions calls more first old new s later is = record {
  later = later_trans first old new s.later later;
  calls_are = is;
  regions_are = s.regions_are;
  handler = (omega (arith, s.handler.0, later.handler), omega (arith, s.handler.1, later.handler));
  time_fits = s.time_fits;
  flushers = s.flushers;
}
