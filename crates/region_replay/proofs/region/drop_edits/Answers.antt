use Rattle.std.proofs.Common.{◌≡◌, ◌≢◌, ◌∙◌, IsTrue, List, length, Contains, refl, sym, ap, subst, arith}
use Rattle.log_model.specs.declared.name.Name.{Name}
use Rattle.log_model.specs.Files.{content}
use Rattle.found_files.proofs.Causes.{same_cause, no_error}
use Rattle.region_replay.specs.Names.{store_name}
use Rattle.region_replay.specs.Cuts.{AreEdits, EditsFlushed}
use Rattle.region_replay.proofs.Cutting.{none_written}
use Rattle.region_replay.proofs.Finding.{edits_flushed, dropped_of, no_cells, none_over, within_of}
use Rattle.region_replay.proofs.NewStores.{none_stored}
use Rattle.region_replay.proofs.region.drop_edits.Goals as goal

pub returns-in_err-base-clause-any_moment : goal.returns-in_err-base-clause-any_moment
returns-in_err-base-clause-any_moment g c told base held found = none_written base (g.D.Disk.view c.args.disk.now) held

pub invariant_of-replayed : goal.invariant_of-replayed
invariant_of-replayed g c =
    let x = c.args.found in
    within_of x c.requires.order x.flushed.whole c.requires.over x.next_store c.in_ok-base.base c.requires.order.next_given (omega (arith, c.requires.order.next))
    (no_cells x c.in_ok-base.base.content (none_over x c.requires.order c.requires.over) c.in_ok-base.ensures.0) c.in_ok-base.ensures.1

pub returns-in-Ok-clause-any_moment : goal.returns-in-Ok-clause-any_moment
returns-in-Ok-clause-any_moment g c told base held found =
    let u = g.D.Disk.view c.args.disk.now in
    (length c.deref.result.now, c.remove_all.ensures.any_moment told base held (subst (λ (ns : List Name). EditsFlushed u.files ns) (sym c.deref.ensures.value) (edits_flushed u.files c.args.found c.requires.order found (none_over c.args.found c.requires.order c.requires.over))))

pub returns-clause-any_moment : goal.returns-clause-any_moment
returns-clause-any_moment g c told base held found =
    let u = g.D.Disk.view c.args.disk.now in
    (length c.deref.result.now, c.remove_all.ensures.any_moment told base held (subst (λ (ns : List Name). EditsFlushed u.files ns) (sym c.deref.ensures.value) (edits_flushed u.files c.args.found c.requires.order found (none_over c.args.found c.requires.order c.requires.over))))

pub returns-in-Ok-clause-held : goal.returns-in-Ok-clause-held
returns-in-Ok-clause-held g c told base held found =
    let u = g.D.Disk.view c.args.disk.now in
    c.in-Ok.ensures.held told base held (subst (λ (ns : List Name). EditsFlushed u.files ns) (sym c.deref.ensures.value) (edits_flushed u.files c.args.found c.requires.order found (none_over c.args.found c.requires.order c.requires.over)))

pub returns-in-Ok-clause-replayed : goal.returns-in-Ok-clause-replayed
returns-in-Ok-clause-replayed g c told base held found =
    let u = g.D.Disk.view c.args.disk.now in
    let w = g.D.Disk.view c.remove_all.new.disk in
    let x = c.args.found in
    let held_w = c.in-Ok.ensures.held told base held (subst (λ (ns : List Name). EditsFlushed u.files ns) (sym c.deref.ensures.value) (edits_flushed u.files x c.requires.order found (none_over x c.requires.order c.requires.over))) in
    dropped_of base u w (g.met.D.Disk.is_true c.args.disk.now told) (g.met.D.Disk.is_true c.remove_all.new.disk told) held held_w x c.requires.order found c.requires.over
    (λ m other. c.in-Ok.ensures.others told m (λ n has. other n (subst (λ (ns : List Name). Contains ns n) c.deref.ensures.value has)))
    c.in_ok-base.base (no_cells x c.in_ok-base.base.content (none_over x c.requires.order c.requires.over) c.in_ok-base.ensures.0) c.in_ok-base.ensures.1

pub returns-in-Ok-clause-stored : goal.returns-in-Ok-clause-stored
returns-in-Ok-clause-stored g c told found =
    let u = g.D.Disk.view c.args.disk.now in
    let w = g.D.Disk.view c.remove_all.new.disk in
    let x = c.args.found in
    let same : (m : Name) → ((n : Name) → Contains x.edits.items n → m ≢ n) → content w.files m ≡ content u.files m =
    λ m other. c.in-Ok.ensures.others told m (λ n has. other n (subst (λ (ns : List Name). Contains ns n) c.deref.ensures.value has)) in
    none_stored u.files w.files x c.requires.order found (λ m not other. same m other) c.in_ok-base.base x.flushed.whole c.in_ok-base.ensures.1 refl
    (same (store_name x.region x.next_store) (λ n has is. absurd (cc (ap (λ (k : Name). k.kind) is ∙ c.requires.order.edits.kind n has))))

pub returns-in-Ok-clause-others : goal.returns-in-Ok-clause-others
returns-in-Ok-clause-others g c told m not other = c.in-Ok.ensures.others told m (λ n has. other n (subst (λ (ns : List Name). Contains ns n) c.deref.ensures.value has))

pub returns-in-Ok-clause-no_edits : goal.returns-in-Ok-clause-no_edits
returns-in-Ok-clause-no_edits g c told m has = c.in-Ok.ensures.gone told m (subst (λ (ns : List Name). Contains ns m) (sym c.deref.ensures.value) has)

pub returns-in-Ok-clause-cause : goal.returns-in-Ok-clause-cause
returns-in-Ok-clause-cause g c = same_cause c.remove_all.ensures.cause (λ is. absurd (no_error is))

pub remove_all-requires-clause-edits : goal.remove_all-requires-clause-edits
remove_all-requires-clause-edits g c = subst (λ (ns : List Name). AreEdits (IsTrue g.D.Disk.told) ns) (sym c.deref.ensures.value) c.requires.order.edits

pub remove_all-requires-clause-there : goal.remove_all-requires-clause-there
remove_all-requires-clause-there g c told m has = c.requires.there told m (subst (λ (ns : List Name). Contains ns m) c.deref.ensures.value has)
