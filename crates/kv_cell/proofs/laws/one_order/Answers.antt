use Rattle.cell_model.proofs.OrderLaws.{version_cmp_total, version_cmp_exact}
use Rattle.kv_cell.proofs.laws.one_order.Goals as goal

pub returns-clause-total : goal.returns-clause-total
returns-clause-total c = version_cmp_total

pub returns-clause-exact : goal.returns-clause-exact
returns-clause-exact c = version_cmp_exact
