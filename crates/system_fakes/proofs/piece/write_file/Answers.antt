use Rattle.std.proofs.Common.{◌≡◌, ◌≤◌, ℕ, List, [], length, set, get_or, Vec, sym, subst, ◌∙◌, ap}
use Rattle.std.proofs.lemmas.List.{map-set, set-get_or}
use Rattle.std.proofs.lemmas.Result.{on_ok_weaker, on_err_weaker}
use Rattle.std.specs.declared.alloc.Global.{Global}
use Rattle.disk_images.specs.Crash.{overwritten}
use Rattle.system_fakes.specs.Texts.{texts_in}
use Rattle.system_fakes.proofs.Names.{index_text}
use Rattle.system_fakes.proofs.piece.write_file.Goals as goal

pub write_over-requires : goal.write_over-requires
write_over-requires c =
    let was : c.index_mut.result.now.items ≡ get_or (texts_in c.args.files.now.items) c.args.inode [] = index_text c.args.files.now.items c.args.inode c.index_mut.result.now c.requires.given c.index_mut.ensures.value in
    subst (λ (l : List ℕ). c.args.at ≤ length l) (sym was) c.requires.within

pub returns-clause-written : goal.returns-clause-written
returns-clause-written c =
    let was : c.index_mut.result.now.items ≡ get_or (texts_in c.args.files.now.items) c.args.inode [] = index_text c.args.files.now.items c.args.inode c.index_mut.result.now c.requires.given c.index_mut.ensures.value in
    on_ok_weaker c.write_over.result
    (λ (is : c.write_over.new.file.items ≡ overwritten c.index_mut.result.now.items c.args.at c.args.bytes.now).
    map-set (λ (w : Vec ℕ Global). w.items) c.args.files.now.items c.args.inode c.write_over.new.file
    ∙ ap (set (texts_in c.args.files.now.items) c.args.inode) (is ∙ ap (λ (l : List ℕ). overwritten l c.args.at c.args.bytes.now) was))
    c.write_over.ensures.written

pub returns-clause-err : goal.returns-clause-err
returns-clause-err c =
    let was : c.index_mut.result.now.items ≡ get_or (texts_in c.args.files.now.items) c.args.inode [] = index_text c.args.files.now.items c.args.inode c.index_mut.result.now c.requires.given c.index_mut.ensures.value in
    on_err_weaker c.write_over.result
    (λ (is : c.write_over.new.file.items ≡ c.index_mut.result.now.items).
    map-set (λ (w : Vec ℕ Global). w.items) c.args.files.now.items c.args.inode c.write_over.new.file
    ∙ ap (set (texts_in c.args.files.now.items) c.args.inode) (is ∙ was) ∙ set-get_or (texts_in c.args.files.now.items) c.args.inode [])
    c.write_over.ensures.err
