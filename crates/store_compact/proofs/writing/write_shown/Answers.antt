use Rattle.std.proofs.Common.{◌≡◌, ◌∙◌, ℕ, List, length, sym, subst, arith}
use Rattle.std.specs.Prelude.{IfOk, OnOk}
use Rattle.cell_model.specs.declared.form.Form.TheVariants.{Tagged}
use Rattle.cell_model.specs.Order.{NumberedCell}
use Rattle.mask_model.specs.Masked.{shown}
use Rattle.mask_model.proofs.Limit.{has_no_limit}
use Rattle.log_model.specs.StoreText.{IsStore, store_text}
use Rattle.disk_images.specs.Crash.{Throughout, OnlyAt}
use Rattle.disk_images.specs.OneFile.{IsDurableFile}
use Rattle.store_file.specs.Whole.{IsWholeOrNot}
use Rattle.store_file.proofs.Stores.{not_begun, or_whole}
use Rattle.store_compact.specs.Plan.{whole_store}
use Rattle.store_compact.proofs.Begun.{shown_store}
use Rattle.store_compact.proofs.writing.write_shown.Goals as goal

pub mask-requires : goal.mask-requires
mask-requires g c = record { order = c.requires.store.rising }

pub returns-in_err-shown-clause-any_moment : goal.returns-in_err-shown-clause-any_moment
returns-in_err-shown-clause-any_moment g c told =
    let v = g.D.Disk.view c.args.disk.now in
    let free = c.requires.absent told in
    (0, or_whole c.args.name (store_text Tagged (whole_store c.args.name c.args.from c.args.to (shown c.args.rows.now))) 0 v v (not_begun c.args.name 0 v ((g.met.D.Disk.is_true c.args.disk.now told).absent c.args.name free.0 free.1)))

pub write_whole-requires-clause-store : goal.write_whole-requires-clause-store
write_whole-requires-clause-store g c =
    let is : c.as_slice.result.now ≡ shown c.args.rows.now = c.as_slice.ensures ∙ c.in_ok-shown.ensures.seen ∙ has_no_limit (length c.args.rows.now) c.args.rows.now (omega arith) in
    subst (λ (l : List NumberedCell). IsStore (whole_store c.args.name c.args.from c.args.to l)) (sym is) (shown_store c.args.name c.args.from c.args.to c.args.rows.now c.requires.store)

pub returns-clause-stored : goal.returns-clause-stored
returns-clause-stored g c told =
    let is : c.as_slice.result.now ≡ shown c.args.rows.now = c.as_slice.ensures ∙ c.in_ok-shown.ensures.seen ∙ has_no_limit (length c.args.rows.now) c.args.rows.now (omega arith) in
    subst (λ (l : List NumberedCell). OnOk c.write_whole.result (IsDurableFile (g.D.Disk.view c.write_whole.new.disk) c.args.name (store_text Tagged (whole_store c.args.name c.args.from c.args.to l)))) is (c.write_whole.ensures.stored told)

pub returns-clause-any_moment : goal.returns-clause-any_moment
returns-clause-any_moment g c told =
    let v = g.D.Disk.view c.args.disk.now in
    let is : c.as_slice.result.now ≡ shown c.args.rows.now = c.as_slice.ensures ∙ c.in_ok-shown.ensures.seen ∙ has_no_limit (length c.args.rows.now) c.args.rows.now (omega arith) in
    subst (λ (l : List NumberedCell). (by : ℕ) × Throughout (OnlyAt c.args.name (IsWholeOrNot (store_text Tagged (whole_store c.args.name c.args.from c.args.to l))) v) by v (g.D.Disk.view c.write_whole.new.disk)) is
    (c.write_whole.ensures.any_moment told)

pub returns-clause-count : goal.returns-clause-count
returns-clause-count g c =
    let is : c.as_slice.result.now ≡ shown c.args.rows.now = c.as_slice.ensures ∙ c.in_ok-shown.ensures.seen ∙ has_no_limit (length c.args.rows.now) c.args.rows.now (omega arith) in
    subst (λ (l : List NumberedCell). IfOk c.write_whole.result (λ n. n ≡ length l)) is c.write_whole.ensures.count
