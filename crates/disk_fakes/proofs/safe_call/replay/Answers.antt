use Rattle.std.proofs.Common.{ℕ, List, [], Option, Some, sym, ◌∙◌, ap, subst}
use Rattle.std.proofs.lemmas.Result.{on_ok_weaker}
use Rattle.std.specs.FinMap as map
use Rattle.log_model.specs.Files.{content, Reads}
use Rattle.disk_images.specs.Crash.{overwritten}
use Rattle.disk_fakes.specs.declared.safe_call.SafeCall.{SafeCall}
use Rattle.disk_fakes.specs.Table.{files_in}
use Rattle.disk_fakes.specs.Safe.{applied, Met, text_in, put_over, moved_to}
use Rattle.disk_fakes.specs.Laws.{reached, text_of}
use Rattle.disk_fakes.proofs.Steps.{put_same, removed_same, moved_same}
use Rattle.disk_fakes.proofs.safe_call.replay.Goals as goal

pub returns-in-Create : goal.returns-in-Create
returns-in-Create c =
    let F = files_in c.args.table.now in
    on_ok_weaker c.put.result
    (λ (reads : Reads (files_in c.put.new.self) c.in-Create.name c.new.result.items).
    put_same F (files_in c.put.new.self) c.in-Create.name [] (reads ∙ ap (λ (l : List ℕ). Some l) c.new.ensures.items) c.put.ensures.others
    ∙ ap (λ (k : SafeCall). applied c.args.arena.now F k) (sym c.in-Create.is))
    c.put.ensures.put

pub returns-in-Write : goal.returns-in-Write
returns-in-Write c =
    let F = files_in c.args.table.now in
    let met = subst (λ (k : SafeCall). Met c.args.arena.now F k) c.in-Write.is c.requires in
    let text = reached (content F c.in-Write.name) c.in-Write.at met.0 in
    let T = text_in c.args.arena.now c.in-Write.start c.in-Write.len in
    on_ok_weaker c.overwrite.result
    (λ (reads : Reads (files_in c.overwrite.new.self) c.in-Write.name (overwritten text.0 c.in-Write.at c.part.result.now)).
    put_same F (files_in c.overwrite.new.self) c.in-Write.name (overwritten text.0 c.in-Write.at c.part.result.now) reads c.overwrite.ensures.others
    ∙ ap (λ (b : List ℕ). map.insert F c.in-Write.name (overwritten text.0 c.in-Write.at b)) c.part.ensures
    ∙ ap (λ (o : Option (List ℕ)). put_over F c.in-Write.name c.in-Write.at T o) (sym text.1)
    ∙ ap (λ (k : SafeCall). applied c.args.arena.now F k) (sym c.in-Write.is))
    (c.overwrite.ensures.written text.0 text.1)

pub returns-in_ok-put-in-Rename : goal.returns-in_ok-put-in-Rename
returns-in_ok-put-in-Rename c =
    let F = files_in c.args.table.now in
    let met = subst (λ (k : SafeCall). Met c.args.arena.now F k) c.in-Rename.is c.requires in
    let text = text_of (content F c.in-Rename.from) met.0 in
    moved_same F (files_in c.put-in-Rename.new.self) (files_in c.remove.new.self) c.in-Rename.from c.in-Rename.to text.0 text.1 met.1
    (c.in_ok-put-in-Rename.ensures.put ∙ ap (λ (l : List ℕ). Some l) (c.in_ok-copy-in-Rename.ensures text.0 text.1)) c.put-in-Rename.ensures.others c.remove.ensures.removed c.remove.ensures.others
    ∙ ap (λ (o : Option (List ℕ)). moved_to F c.in-Rename.from c.in-Rename.to o) (sym text.1)
    ∙ ap (λ (k : SafeCall). applied c.args.arena.now F k) (sym c.in-Rename.is)

pub returns-in-Remove : goal.returns-in-Remove
returns-in-Remove c =
    let F = files_in c.args.table.now in
    removed_same F (files_in c.remove-in-Remove.new.self) c.in-Remove.name c.remove-in-Remove.ensures.removed c.remove-in-Remove.ensures.others
    ∙ ap (λ (k : SafeCall). applied c.args.arena.now F k) (sym c.in-Remove.is)
