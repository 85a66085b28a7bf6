use Rattle.report_text.proofs.TokenLaws.{token_back}
use Rattle.report_text.proofs.laws.tokens_read_again.Goals as goal

pub returns : goal.returns
returns c = token_back
