use Rattle.disk_folder.proofs.OneName as laws
use Rattle.disk_folder.proofs.laws.one_name.Goals as goal

pub returns : goal.returns
returns c = laws.one_name
