use Rattle.recovery_laws.proofs.OneStore.{one_store}
use Rattle.store_file.proofs.laws.store_text_is_one.Goals as goal

pub returns : goal.returns
returns c = one_store
