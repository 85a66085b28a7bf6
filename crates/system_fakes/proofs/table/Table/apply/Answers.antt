use Rattle.std.proofs.Common.{◌≡◌, refl, sym, subst}
use Rattle.system_fakes.specs.declared.op.Op.{Op}
use Rattle.system_fakes.specs.Held.{held_after}
use Rattle.system_fakes.specs.Table.{held_in}
use Rattle.system_fakes.proofs.table.Table.apply.Goals as goal

pub returns-in-Sync-clause-done : goal.returns-in-Sync-clause-done
returns-in-Sync-clause-done c = subst (λ (o : Op). held_in c.args.self.now ≡ held_after (held_in c.args.self.now) o) (sym c.in-Sync.is) refl

pub returns-in-SyncFolder-clause-done : goal.returns-in-SyncFolder-clause-done
returns-in-SyncFolder-clause-done c = subst (λ (o : Op). held_in c.args.self.now ≡ held_after (held_in c.args.self.now) o) (sym c.in-SyncFolder.is) refl

pub returns-in-Tick-clause-done : goal.returns-in-Tick-clause-done
returns-in-Tick-clause-done c = subst (λ (o : Op). held_in c.args.self.now ≡ held_after (held_in c.args.self.now) o) (sym c.in-Tick.is) refl
