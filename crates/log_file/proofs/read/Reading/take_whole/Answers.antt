use Rattle.std.proofs.lemmas.Result.{err_from_is_err_and}
use Rattle.std.proofs.Common.{[], ◌++◌, ◌∙◌}
use Rattle.log_file.proofs.Pieces.{refused}
use Rattle.log_file.proofs.read.Reading.take_whole.Goals as goal

pub returns-in_err-entry-clause-damaged : goal.returns-in_err-entry-clause-damaged
returns-in_err-entry-clause-damaged c given fed =
    let p = err_from_is_err_and c.from_residual.result c.from_residual.ensures.1 in
    rw (p.1, p.2) (refused (Unit {0}) c.take.new.self c.args.self.now.feed.key given (c.loop-entry.self.entries.items ++ []) c.in_err-entry.field-0.0 (c.take.ensures.key ∙ c.loop-entry.invariant.0)
    (c.in_err-entry.ensures.taken given c.loop-entry.self.entries.items (c.loop-entry.invariant.1 given fed)) c.in_err-entry.ensures.damaged)
