use Rattle.report_text.proofs.OneReading as laws
use Rattle.report_text.proofs.laws.one_reading.Goals as goal

pub returns : goal.returns
returns c = laws.one_reading
