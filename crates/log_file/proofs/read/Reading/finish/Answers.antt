use Rattle.std.proofs.Common.{[], List, sym, subst}
use Rattle.log_model.specs.Entry.{Entry}
use Rattle.log_model.specs.LogText.{FileKey, IsLogText}
use Rattle.std.proofs.lemmas.List.{append-nil}
use Rattle.std.proofs.lemmas.Result.{err_from_is_err_and}
use Rattle.log_file.specs.declared.list.LogText.{LogText}
use Rattle.log_file.proofs.Pieces.{damaged_whole}
use Rattle.log_file.proofs.read.Reading.finish.Goals as goal

pub returns-in_err-take_whole-clause-damaged : goal.returns-in_err-take_whole-clause-damaged
returns-in_err-take_whole-clause-damaged c given fed =
    let p = err_from_is_err_and c.from_residual.result c.from_residual.ensures.1 in
    let key = c.args.self.feed.key in
    rw (p.1, p.2) (damaged_whole (Unit {0}) LogText c.in_err-take_whole.field-0.0 key key given [] given (λ _. key) (append-nil given) (c.in_err-take_whole.ensures.damaged given fed))

pub returns-clause-text : goal.returns-clause-text
returns-clause-text c given fed =
    let items : List Entry = c.take_whole.new.self.entries.items in
    let text = c.in_ok-ended.ensures.text given items (c.in_ok-take_whole.ensures.fed given fed) in
    subst (λ (es : List Entry). IsLogText c.args.self.feed.key given es c.in_ok-ended.ended) (sym c.of.ensures) (subst (λ (k : FileKey). IsLogText k given items c.in_ok-ended.ended) c.in_ok-take_whole.ensures.key text)
