use Rattle.std.proofs.lemmas.Result.{err_from_is_err_and}
use Rattle.std.proofs.Common.{◌++◌, ◌+◌, ◌-◌, List, ℕ, length, take, drop, refl, sym, ap, ◌∙◌, take-append-drop}
use Rattle.std.proofs.lemmas.List.{length-drop}
use Rattle.file_base.specs.Refusal.{read_refusal_of}
use Rattle.log_file.proofs.Pieces.{read_behind, first_read, refused, damaged_whole}
use Rattle.log_file.proofs.read.Reading.read_piece.Goals as goal

pub returns-in_err-give-clause-damaged : goal.returns-in_err-give-clause-damaged
returns-in_err-give-clause-damaged g c told bytes reads fed =
    let p = err_from_is_err_and c.from_residual-in_err-give.result c.from_residual-in_err-give.ensures.1 in
    let key = c.args.self.now.feed.key in
    rw (p.1, p.2) (damaged_whole (Unit {0}) ℕ (read_refusal_of c.in_err-give.field-0.0) key key (take c.args.at bytes) (drop c.args.at bytes) bytes (λ _. key) (take-append-drop c.args.at bytes)
    (refused (Unit {0}) c.args.self.now.feed key (take c.args.at bytes) c.args.self.now.entries.items c.in_err-give.field-0.0 (λ _. key) fed c.in_err-give.ensures.damaged))

pub returns-in_err-take_whole-clause-damaged : goal.returns-in_err-take_whole-clause-damaged
returns-in_err-take_whole-clause-damaged g c told bytes reads fed =
    let p = err_from_is_err_and c.from_residual-in_err-take_whole.result c.from_residual-in_err-take_whole.ensures.1 in
    let n = c.in_ok-n.n in
    let piece = first_read c.read.new.into (drop c.args.at bytes) (drop n c.args.into.now) n (length bytes - c.args.at) (length c.args.into.now) (c.in_ok-n.ensures.bytes told bytes reads) (c.in_ok-n.ensures.count told bytes reads) (sym (length-drop c.args.at bytes)) in
    let given = take c.args.at bytes ++ take n c.read.new.into in
    let whole = ap (λ (l : List ℕ). l ++ drop (c.args.at + n) bytes) (read_behind (take c.args.at bytes) (take n c.read.new.into) bytes c.args.at n refl piece) ∙ take-append-drop (c.args.at + n) bytes in
    rw (p.1, p.2) (damaged_whole (Unit {0}) ℕ c.in_err-take_whole.field-0.0 c.give.new.self.key c.args.self.now.feed.key given (drop (c.args.at + n) bytes) bytes c.give.ensures.key whole
    (c.in_err-take_whole.ensures.damaged given (c.in_ok-give.ensures.given (take c.args.at bytes) c.args.self.now.entries.items fed)))

pub returns-clause-bytes : goal.returns-clause-bytes
returns-clause-bytes g c told bytes reads =
    first_read c.read.new.into (drop c.args.at bytes) (drop c.in_ok-n.n c.args.into.now) c.in_ok-n.n (length bytes - c.args.at) (length c.args.into.now) (c.in_ok-n.ensures.bytes told bytes reads) (c.in_ok-n.ensures.count told bytes reads) (sym (length-drop c.args.at bytes))
