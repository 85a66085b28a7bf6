use Rattle.std.proofs.Common.{◌≤◌, ◌+◌, ◌∙◌, inl, IsTrue, List, Contains, sym, ap, subst, arith}
use Rattle.std.specs.FinMap.{empty}
use Rattle.std.specs.List.{AllByRecursion}
use Rattle.cell_model.specs.Order.{NumberedCell}
use Rattle.cell_model.specs.Merge.{put_numbered}
use Rattle.log_model.specs.declared.name.Name.{Name}
use Rattle.file_base.specs.declared.error.FileRefusal.TheVariants as refusals
use Rattle.mem_segments.specs.declared.segment.Segment.{Segment}
use Rattle.found_files.proofs.Causes.{same_cause, no_error, error_of}
use Rattle.region_replay.specs.Names.{store_name}
use Rattle.region_replay.specs.Cuts.{IsUnflushedCut, AreEdits, EditsUpTo}
use Rattle.region_replay.proofs.BaseLaws.{joined_cells}
use Rattle.region_replay.proofs.Cutting.{none_written}
use Rattle.region_replay.proofs.Finding.{cells_of_found, cut_within, to_low, within_of, not_replaced, is_cut, edits_up, replayed_of, next_below, next_few}
use Rattle.region_replay.proofs.NewStores.{one_stored}
use Rattle.region_replay.proofs.region.store_region.Goals as goal

pub returns-in_err-cut-clause-any_moment : goal.returns-in_err-cut-clause-any_moment
returns-in_err-cut-clause-any_moment g c told base held found = none_written base (g.D.Disk.view c.args.disk.now) held

pub returns-in_err-stored-clause-any_moment : goal.returns-in_err-stored-clause-any_moment
returns-in_err-stored-clause-any_moment g c told base held found = none_written base (g.D.Disk.view c.args.disk.now) held

pub replay_found-requires-clause-range : goal.replay_found-requires-clause-range
replay_found-requires-clause-range g c =
    let x = c.args.found in
    let top = c.requires.last in
    (omega arith, omega (arith, c.requires.more), to_low x c.requires.order c.args.last top)

pub replay_found-requires-clause-within : goal.replay_found-requires-clause-within
replay_found-requires-clause-within g c =
    let x = c.args.found in
    let to = c.args.last in
    let top = c.requires.last in
    subst (λ (cs : List NumberedCell). AllByRecursion (λ y. (x.flushed.whole + 1 ≤ y.0) × (y.0 ≤ to)) cs) (sym c.in_ok-cut.ensures) (cut_within x c.requires.order to top)

pub returns-in_err-unflushed-clause-any_moment : goal.returns-in_err-unflushed-clause-any_moment
returns-in_err-unflushed-clause-any_moment g c told base held found =
    let u = g.D.Disk.view c.args.disk.now in
    let x = c.args.found in
    let to = c.args.last in
    let top = c.requires.last in
    c.replay_found.ensures.any_moment told base held
    (subst (λ (cs : List NumberedCell). IsUnflushedCut u.files (store_name x.region x.next_store) to cs) (sym c.in_ok-cut.ensures) (is_cut u.files x c.requires.order found to top c.requires.more))
    (subst (λ (ns : List Name). EditsUpTo u.files x.region to ns) (sym c.deref.ensures.value) (edits_up u.files x c.requires.order found to top))

pub invariant_of-result : goal.invariant_of-result
invariant_of-result g c =
    let x = c.args.found in
    let to = c.args.last in
    let top = c.requires.last in
    within_of x c.requires.order to top (x.next_store + 1) c.in_ok-base.base (omega arith) (omega (arith, c.requires.order.next))
    (joined_cells x.stored (cells_of_found x) c.in_ok-base.base.content c.in_ok-stored.stored c.in_ok-unflushed.unflushed c.in_ok-base.ensures.0 c.in_ok-stored.ensures.content (c.in_ok-unflushed.ensures.cells ∙ ap (put_numbered empty) c.in_ok-cut.ensures)) c.in_ok-base.ensures.1

pub returns-in_err-base-clause-any_moment : goal.returns-in_err-base-clause-any_moment
returns-in_err-base-clause-any_moment g c told base held found =
    let u = g.D.Disk.view c.args.disk.now in
    let x = c.args.found in
    let to = c.args.last in
    let top = c.requires.last in
    c.replay_found.ensures.any_moment told base held
    (subst (λ (cs : List NumberedCell). IsUnflushedCut u.files (store_name x.region x.next_store) to cs) (sym c.in_ok-cut.ensures) (is_cut u.files x c.requires.order found to top c.requires.more))
    (subst (λ (ns : List Name). EditsUpTo u.files x.region to ns) (sym c.deref.ensures.value) (edits_up u.files x c.requires.order found to top))

pub returns-clause-any_moment : goal.returns-clause-any_moment
returns-clause-any_moment g c told base held found =
    let u = g.D.Disk.view c.args.disk.now in
    let x = c.args.found in
    let to = c.args.last in
    let top = c.requires.last in
    c.replay_found.ensures.any_moment told base held
    (subst (λ (cs : List NumberedCell). IsUnflushedCut u.files (store_name x.region x.next_store) to cs) (sym c.in_ok-cut.ensures) (is_cut u.files x c.requires.order found to top c.requires.more))
    (subst (λ (ns : List Name). EditsUpTo u.files x.region to ns) (sym c.deref.ensures.value) (edits_up u.files x c.requires.order found to top))

pub returns-clause-held : goal.returns-clause-held
returns-clause-held g c told base held found =
    let u = g.D.Disk.view c.args.disk.now in
    let x = c.args.found in
    let to = c.args.last in
    let top = c.requires.last in
    c.in_ok-unflushed.ensures.held told base held
    (subst (λ (cs : List NumberedCell). IsUnflushedCut u.files (store_name x.region x.next_store) to cs) (sym c.in_ok-cut.ensures) (is_cut u.files x c.requires.order found to top c.requires.more))
    (subst (λ (ns : List Name). EditsUpTo u.files x.region to ns) (sym c.deref.ensures.value) (edits_up u.files x c.requires.order found to top))

pub returns-clause-replayed : goal.returns-clause-replayed
returns-clause-replayed g c told base held found =
    let u = g.D.Disk.view c.args.disk.now in
    let w = g.D.Disk.view c.replay_found.new.disk in
    let x = c.args.found in
    let to = c.args.last in
    let top = c.requires.last in
    let held_w = c.in_ok-unflushed.ensures.held told base held
    (subst (λ (cs : List NumberedCell). IsUnflushedCut u.files (store_name x.region x.next_store) to cs) (sym c.in_ok-cut.ensures) (is_cut u.files x c.requires.order found to top c.requires.more))
    (subst (λ (ns : List Name). EditsUpTo u.files x.region to ns) (sym c.deref.ensures.value) (edits_up u.files x c.requires.order found to top)) in
    replayed_of base u w (g.met.D.Disk.is_true c.args.disk.now told) (g.met.D.Disk.is_true c.replay_found.new.disk told) held held_w x c.requires.order found to (x.next_store + 1) top
    (inl (c.in_ok-unflushed.ensures.flushed told (not_replaced u.files x c.requires.order found)))
    (next_below u w x c.requires.order found (λ m not other. c.in_ok-unflushed.ensures.others told m not (λ n has. other n (subst (λ (ns : List Name). Contains ns n) c.deref.ensures.value has))))
    (λ n bound. (
    let low = next_few u w x c.requires.order found (λ m not other. c.in_ok-unflushed.ensures.others told m not (λ n has. other n (subst (λ (ns : List Name). Contains ns n) c.deref.ensures.value has))) n bound in
    let more = c.requires.more in
    omega (arith, low, more)))
    c.in_ok-base.base (joined_cells x.stored (cells_of_found x) c.in_ok-base.base.content c.in_ok-stored.stored c.in_ok-unflushed.unflushed c.in_ok-base.ensures.0 c.in_ok-stored.ensures.content (c.in_ok-unflushed.ensures.cells ∙ ap (put_numbered empty) c.in_ok-cut.ensures)) c.in_ok-base.ensures.1

pub returns-clause-stored : goal.returns-clause-stored
returns-clause-stored g c told found =
    let u = g.D.Disk.view c.args.disk.now in
    let w = g.D.Disk.view c.replay_found.new.disk in
    let x = c.args.found in
    one_stored u.files w.files x c.requires.order found
    (λ m not other. c.in_ok-unflushed.ensures.others told m not (λ n has. other n (subst (λ (ns : List Name). Contains ns n) c.deref.ensures.value has)))
    c.in_ok-base.base c.args.last c.in_ok-base.ensures.1 c.requires.more (c.in_ok-unflushed.ensures.stored told)

pub returns-clause-others : goal.returns-clause-others
returns-clause-others g c told m not other = c.in_ok-unflushed.ensures.others told m not (λ n has. other n (subst (λ (ns : List Name). Contains ns n) c.deref.ensures.value has))

pub returns-clause-no_edits : goal.returns-clause-no_edits
returns-clause-no_edits g c told m has = c.in_ok-unflushed.ensures.gone told m (subst (λ (ns : List Name). Contains ns m) (sym c.deref.ensures.value) has)

pub replay_found-requires-clause-edits : goal.replay_found-requires-clause-edits
replay_found-requires-clause-edits g c = subst (λ (ns : List Name). AreEdits (IsTrue g.D.Disk.told) ns) (sym c.deref.ensures.value) c.requires.order.edits

pub replay_found-requires-clause-there : goal.replay_found-requires-clause-there
replay_found-requires-clause-there g c told m has = c.requires.there told m (subst (λ (ns : List Name). Contains ns m) c.deref.ensures.value has)

pub returns-in_err-unflushed-clause-cause : goal.returns-in_err-unflushed-clause-cause
returns-in_err-unflushed-clause-cause g c =
    same_cause c.in_err-unflushed.ensures.cause (λ is. error_of Segment c.in_err-unflushed.field-0.0 refusals.DiskFault c.from_residual-in_err-unflushed.result c.from_residual-in_err-unflushed.ensures.1 is)

pub returns-clause-cause : goal.returns-clause-cause
returns-clause-cause g c = same_cause c.replay_found.ensures.cause (λ is. absurd (no_error is))
