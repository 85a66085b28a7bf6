use Rattle.std.proofs.Common.{◌≡◌, Some, List, ℕ, length, sym, ◌∙◌, ap, arith, is_some}
use Rattle.std.proofs.lemmas.Result.{on_ok_weaker, on_err_weaker}
use Rattle.disk_images.specs.Crash.{overwritten}
use Rattle.disk_fakes.proofs.Names.{there_now, none_now, bytes_there, updated}
use Rattle.disk_fakes.proofs.table.FileTable.overwrite.Goals as goal

pub write_over-requires : goal.write_over-requires
write_over-requires c =
    let same = bytes_there c.args.self.now.files c.args.name c.in-Some.file.now c.requires.0 (sym c.in-Some.ensures.value) c.requires.1 in
    omega (arith, ap length same, c.requires.2)

pub returns-in-None-clause-written : goal.returns-in-None-clause-written
returns-in-None-clause-written c bytes reads =
    let none = none_now c.args.self.now.files c.args.name (sym c.in-None.ensures.value) in absurd (cc (none, reads))

pub returns-in-Some-clause-written : goal.returns-in-Some-clause-written
returns-in-Some-clause-written c bytes reads =
    let same = bytes_there c.args.self.now.files c.args.name c.in-Some.file.now bytes (sym c.in-Some.ensures.value) reads in
    let update = (c.get_mut.follows.holds c.write_over.new.file).3 (ap is_some (sym c.in-Some.ensures.value)) in
    let now = there_now (c.get_mut.follows.lender c.write_over.new.file) c.args.name c.write_over.new.file update.1 in
    on_ok_weaker c.write_over.result
    (λ (is : c.write_over.new.file.items ≡ overwritten c.in-Some.file.now.items c.args.at c.args.bytes.now). now ∙ ap Some (is ∙ ap (λ (l : List ℕ). overwritten l c.args.at c.args.bytes.now) same))
    c.write_over.ensures.written

pub returns-in-Some-clause-err : goal.returns-in-Some-clause-err
returns-in-Some-clause-err c bytes reads =
    let same = bytes_there c.args.self.now.files c.args.name c.in-Some.file.now bytes (sym c.in-Some.ensures.value) reads in
    let update = (c.get_mut.follows.holds c.write_over.new.file).3 (ap is_some (sym c.in-Some.ensures.value)) in
    let now = there_now (c.get_mut.follows.lender c.write_over.new.file) c.args.name c.write_over.new.file update.1 in
    on_err_weaker c.write_over.result
    (λ (is : c.write_over.new.file.items ≡ c.in-Some.file.now.items). now ∙ ap Some (is ∙ same))
    c.write_over.ensures.err

pub returns-in-Some-clause-others : goal.returns-in-Some-clause-others
returns-in-Some-clause-others c =
    let update = (c.get_mut.follows.holds c.write_over.new.file).3 (ap is_some (sym c.in-Some.ensures.value)) in
    updated c.args.self.now.files (c.get_mut.follows.lender c.write_over.new.file) c.args.name (Some c.write_over.new.file) update.2
