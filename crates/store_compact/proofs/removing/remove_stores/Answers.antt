use Rattle.std.proofs.Common.{◌+◌, ◌∙◌, Ok, Err, ap, length, arith}
use Rattle.std.specs.Prelude.{Result, OnOk}
use Rattle.log_model.specs.Files.{Files, content}
use Rattle.disk_images.proofs.Moments.{more_time}
use Rattle.store_compact.specs.Plan.{IsReplaced}
use Rattle.store_compact.proofs.Leaving.{settled_moments, gone_everywhere}
use Rattle.store_compact.proofs.removing.remove_stores.Goals as goal

on_ok : {T E P Q : Type 0} (r : Result T E) → (P → Q) → OnOk r P → OnOk r Q
on_ok (Ok x) f p = f p
on_ok (Err e) f p = tt

pub returns-in_err-remove_each-clause-any_moment : goal.returns-in_err-remove_each-clause-any_moment
returns-in_err-remove_each-clause-any_moment g c told found name text is others =
    more_time (IsReplaced found name text) (length c.args.names.now) (length c.args.names.now + 1) (g.D.Disk.view c.args.disk.now) (g.D.Disk.view c.remove_each.new.disk) (omega arith)
    (c.remove_each.ensures.any_moment told found name text is others)

pub returns-clause-any_moment : goal.returns-clause-any_moment
returns-clause-any_moment g c told found name text is others =
    let v = g.D.Disk.view c.remove_each.new.disk in
    let w = g.D.Disk.view c.settle.new.self in
    settled_moments found name text v w (length c.args.names.now) (g.D.Disk.view c.args.disk.now) (c.remove_each.ensures.any_moment told found name text is others)
    (c.in_ok-remove_each.ensures.replacing told found name text is others).images (c.settle.ensures.settles told).looks

pub returns-clause-replaced : goal.returns-clause-replaced
returns-clause-replaced g c told found name text is others =
    let settles = c.settle.ensures.settles told in
    on_ok c.settle.result (λ pinned J now. (c.in_ok-remove_each.ensures.replacing told found name text is others).images J (settles.looks.crash J now)) settles.pinned

pub returns-clause-gone : goal.returns-clause-gone
returns-clause-gone g c told =
    let v = g.D.Disk.view c.remove_each.new.disk in
    let w = g.D.Disk.view c.settle.new.self in
    let settles = c.settle.ensures.settles told in
    on_ok c.settle.result (λ pinned J m now has store. gone_everywhere v w m (c.in_ok-remove_each.ensures.gone told m has store) settles.looks.files pinned J now) settles.pinned

pub returns-clause-others : goal.returns-clause-others
returns-clause-others g c told m other = ap (λ (f : Files). content f m) (c.settle.ensures.settles told).looks.files ∙ c.remove_each.ensures.others told m other
