use Rattle.cell_model.proofs.HalvesLaws.{few_segments}
use Rattle.mem_segments.proofs.layers.few_segments.Goals as goal

pub returns : goal.returns
returns c = few_segments
