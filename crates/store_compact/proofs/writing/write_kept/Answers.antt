use Rattle.std.proofs.Common.{sym, subst}
use Rattle.cell_model.specs.Order.{cells_of}
use Rattle.log_model.specs.StoreText.{IsStore}
use Rattle.store_compact.specs.declared.kind.CompactKind.{CompactKind}
use Rattle.store_compact.specs.Compacting.{kept_by}
use Rattle.store_compact.specs.Plan.{whole_store}
use Rattle.store_compact.proofs.Begun.{shown_store}
use Rattle.store_compact.proofs.writing.write_kept.Goals as goal

pub returns-in-Major-clause-whole : goal.returns-in-Major-clause-whole
returns-in-Major-clause-whole g c =
    subst (λ (k : CompactKind). IsStore (whole_store c.args.name c.args.from c.args.to (kept_by k (cells_of c.args.merged.now)))) (sym c.in-Major.is)
    (shown_store c.args.name c.args.from c.args.to (cells_of c.args.merged.now) c.requires.store)
