use Rattle.std.proofs.Common.{length, length-append, ◌⊎◌, inl, inr, ◌≡◌, ◌∙◌, ◌++◌, ◌∷◌, [], IsTrue, List, Contains, le_refl, sym, ap, subst, arith}
use Rattle.std.proofs.Math.Logic.{∥∥₁_elim, ∥∥₁_map}
use Rattle.std.proofs.lemmas.List.{append_assoc, append-nil, nil_from_length}
use Rattle.std.specs.Vec.Iter.{into_iter_items}
use Rattle.log_model.specs.Files.{content, IsPresent}
use Rattle.file_base.specs.declared.error.FileRefusal.TheVariants as refusals
use Rattle.found_files.proofs.Causes.{cause_since, no_error, error_of}
use Rattle.region_replay.specs.declared.found.RegionFiles.{RegionFiles}
use Rattle.region_replay.specs.Names.{store_name}
use Rattle.region_replay.specs.Ready.{Found}
use Rattle.region_replay.specs.Whole.{AreApart, AllStoresReplayed}
use Rattle.region_replay.proofs.InTurn.{Going, none_yet, one_more, moments_on, next_absent, next_there, next_of, among_all, absent_by, apart_before, apart_behind}
use Rattle.region_replay.proofs.Sorting.{is_first}
use Rattle.region_replay.proofs.regions.replay_regions.Goals as goal

pub loop-region-init : goal.loop-region-init
loop-region-init g c =
    let v = g.D.Disk.view c.args.disk.now in
    let T = IsTrue g.D.Disk.told in
    record {
      so_far = subst (λ (xs : List Found). Going T v v c.args.regions.items [] (into_iter_items c.into_iter-region-iterator.result) xs) (sym c.new-replayed.ensures.items)
          (subst (λ (rest : List RegionFiles). Going T v v c.args.regions.items [] rest []) (sym c.into_iter-region-iterator.ensures.into_iter_gives.0) (none_yet T v c.args.regions.items));
      rest = c.into_iter-region-iterator.ensures.into_iter_gives.0;
      len = omega (arith, c.into_iter-region-iterator.ensures.into_iter_gives.1, ap length c.into_iter-region-iterator.ensures.into_iter_gives.0);
      count = ap length c.new-replayed.ensures.items;
      later = le_refl (g.D.Disk.faults c.args.disk.now);
    }

pub replay_region-requires-clause-order : goal.replay_region-requires-clause-order
replay_region-requires-clause-order g c =
    let ys = c.loop-region.yielded in
    let x = c.in-Some.region in
    let rest = into_iter_items c.next.new.self in
    let is = next_of c.args.regions.items ys x rest (into_iter_items c.loop-region.region-iterator) c.loop-region.invariant.rest c.in-Some.ensures.steps.0 in
    c.requires.order x (among_all c.args.regions.items ys x rest is x (is_first x rest))

pub replay_region-requires-clause-absent : goal.replay_region-requires-clause-absent
replay_region-requires-clause-absent g c told =
    let u = g.D.Disk.view c.args.disk.now in
    let v = g.D.Disk.view c.loop-region.disk in
    let T = IsTrue g.D.Disk.told in
    let all = c.args.regions.items in
    let ys = c.loop-region.yielded in
    let x = c.in-Some.region in
    let rest = into_iter_items c.next.new.self in
    let so_far : Going T u v all ys (x ∷ rest) c.loop-region.replayed.items = subst (λ (r : List RegionFiles). Going T u v all ys r c.loop-region.replayed.items) c.in-Some.ensures.steps.0 c.loop-region.invariant.so_far in (
      absent_by (content v.files (store_name x.region x.next_store)) (c.requires.found told) (λ f. (next_absent T u v v all ys rest c.loop-region.replayed.items x so_far told f.0 f.1 f.2).0),
      λ gone. ∥∥₁_elim (c.requires.found told) (λ a b. absurd a) (λ f. (next_absent T u v v all ys rest c.loop-region.replayed.items x so_far told f.0 f.1 f.2).1 gone),
    )

pub replay_region-requires-clause-there : goal.replay_region-requires-clause-there
replay_region-requires-clause-there g c told m has =
    let u = g.D.Disk.view c.args.disk.now in
    let v = g.D.Disk.view c.loop-region.disk in
    let T = IsTrue g.D.Disk.told in
    let all = c.args.regions.items in
    let ys = c.loop-region.yielded in
    let x = c.in-Some.region in
    let rest = into_iter_items c.next.new.self in
    let so_far : Going T u v all ys (x ∷ rest) c.loop-region.replayed.items = subst (λ (r : List RegionFiles). Going T u v all ys r c.loop-region.replayed.items) c.in-Some.ensures.steps.0 c.loop-region.invariant.so_far in
    ∥∥₁_map (c.requires.found told) (λ f. next_there T u v v all ys rest c.loop-region.replayed.items x so_far told f.0 f.1 f.2 m has)

pub returns-in_err-next-clause-any_moment : goal.returns-in_err-next-clause-any_moment
returns-in_err-next-clause-any_moment g c told base held found =
    let u = g.D.Disk.view c.args.disk.now in
    let v = g.D.Disk.view c.loop-region.disk in
    let w = g.D.Disk.view c.replay_region.new.disk in
    let T = IsTrue g.D.Disk.told in
    let all = c.args.regions.items in
    let ys = c.loop-region.yielded in
    let x = c.in-Some.region in
    let rest = into_iter_items c.next.new.self in
    let is = next_of all ys x rest (into_iter_items c.loop-region.region-iterator) c.loop-region.invariant.rest c.in-Some.ensures.steps.0 in
    let apart = subst AreApart is c.requires.apart in
    let so_far : Going T u v all ys (x ∷ rest) c.loop-region.replayed.items = subst (λ (r : List RegionFiles). Going T u v all ys r c.loop-region.replayed.items) c.in-Some.ensures.steps.0 c.loop-region.invariant.so_far in
    moments_on T u v w all ys rest c.loop-region.replayed.items x so_far (λ t. g.met.D.Disk.is_true c.loop-region.disk t) (λ t. g.met.D.Disk.is_true c.args.disk.now t) c.requires.order (among_all all ys x rest is)
    (apart_before ys x rest apart) (apart_behind ys x rest apart) c.replay_region.ensures.any_moment told base held found

pub returns-in_err-keep-clause-any_moment : goal.returns-in_err-keep-clause-any_moment
returns-in_err-keep-clause-any_moment g c told base held found =
    let u = g.D.Disk.view c.args.disk.now in
    let v = g.D.Disk.view c.loop-region.disk in
    let w = g.D.Disk.view c.replay_region.new.disk in
    let T = IsTrue g.D.Disk.told in
    let all = c.args.regions.items in
    let ys = c.loop-region.yielded in
    let x = c.in-Some.region in
    let rest = into_iter_items c.next.new.self in
    let is = next_of all ys x rest (into_iter_items c.loop-region.region-iterator) c.loop-region.invariant.rest c.in-Some.ensures.steps.0 in
    let apart = subst AreApart is c.requires.apart in
    let so_far : Going T u v all ys (x ∷ rest) c.loop-region.replayed.items = subst (λ (r : List RegionFiles). Going T u v all ys r c.loop-region.replayed.items) c.in-Some.ensures.steps.0 c.loop-region.invariant.so_far in
    moments_on T u v w all ys rest c.loop-region.replayed.items x so_far (λ t. g.met.D.Disk.is_true c.loop-region.disk t) (λ t. g.met.D.Disk.is_true c.args.disk.now t) c.requires.order (among_all all ys x rest is)
    (apart_before ys x rest apart) (apart_behind ys x rest apart) c.replay_region.ensures.any_moment told base held found

pub loop-region-preserved : goal.loop-region-preserved
loop-region-preserved g c =
    let u = g.D.Disk.view c.args.disk.now in
    let v = g.D.Disk.view c.loop-region.disk in
    let w = g.D.Disk.view c.replay_region.new.disk in
    let T = IsTrue g.D.Disk.told in
    let all = c.args.regions.items in
    let ys = c.loop-region.yielded in
    let x = c.in-Some.region in
    let rest = into_iter_items c.next.new.self in
    let is = next_of all ys x rest (into_iter_items c.loop-region.region-iterator) c.loop-region.invariant.rest c.in-Some.ensures.steps.0 in
    let apart = subst AreApart is c.requires.apart in
    let so_far : Going T u v all ys (x ∷ rest) c.loop-region.replayed.items = subst (λ (r : List RegionFiles). Going T u v all ys r c.loop-region.replayed.items) c.in-Some.ensures.steps.0 c.loop-region.invariant.so_far in
    record {
      so_far = subst (λ (xs : List Found). Going T u w all (ys ++ x ∷ []) rest xs) (sym c.in_ok-keep.ensures)
          (one_more T u v w all ys rest c.loop-region.replayed.items x so_far (λ t. g.met.D.Disk.is_true c.loop-region.disk t) (λ t. g.met.D.Disk.is_true c.args.disk.now t) c.requires.order (among_all all ys x rest is)
          (apart_before ys x rest apart) (apart_behind ys x rest apart) c.replay_region.ensures.any_moment
          c.in_ok-next.next c.in_ok-next.ensures.held c.in_ok-next.ensures.replayed c.in_ok-next.ensures.no_edits c.in_ok-next.ensures.others c.in_ok-next.ensures.stored);
      rest = append_assoc ys (x ∷ []) rest ∙ sym is;
      len = omega (arith, c.in-Some.ensures.steps.1, ap length c.in-Some.ensures.steps.0, c.loop-region.invariant.len);
      count = (let was = c.loop-region.invariant.count in let more = ap length c.in_ok-keep.ensures in omega (arith, was, more, length-append c.loop-region.replayed.items (c.in_ok-next.next ∷ []), length-append ys (x ∷ [])));
      later = (let a = c.loop-region.invariant.later in let b = c.replay_region.ensures.cause.later in omega (arith, a, b));
    }

pub returns-clause-no_edits : goal.returns-clause-no_edits
returns-clause-no_edits g c told base held found x m has edits region =
    let v = g.D.Disk.view c.loop-region.disk in
    let none : into_iter_items c.loop-region.region-iterator ≡ [] = nil_from_length (into_iter_items c.loop-region.region-iterator) (omega (arith, c.in-None.ensures.steps.0, c.loop-region.invariant.len)) in
    let all_yielded : c.args.regions.items ≡ c.loop-region.yielded = sym c.loop-region.invariant.rest ∙ ap (λ (l : List RegionFiles). c.loop-region.yielded ++ l) none ∙ append-nil c.loop-region.yielded in
    c.loop-region.invariant.so_far.no_edits told base held found x m (subst (λ (l : List RegionFiles). Contains l x) all_yielded has) edits region

pub returns-clause-olds : goal.returns-clause-olds
returns-clause-olds g c told m old = c.loop-region.invariant.so_far.olds told m old

pub returns-clause-names : goal.returns-clause-names
returns-clause-names g c told base held found m here =
    let u = g.D.Disk.view c.args.disk.now in
    let none : into_iter_items c.loop-region.region-iterator ≡ [] = nil_from_length (into_iter_items c.loop-region.region-iterator) (omega (arith, c.in-None.ensures.steps.0, c.loop-region.invariant.len)) in
    let all_yielded : c.args.regions.items ≡ c.loop-region.yielded = sym c.loop-region.invariant.rest ∙ ap (λ (l : List RegionFiles). c.loop-region.yielded ++ l) none ∙ append-nil c.loop-region.yielded in
    elim (c.loop-region.invariant.so_far.names told base held found m here) as (λ _. IsPresent u.files m ⊎ ((x : RegionFiles) × Contains c.args.regions.items x × (m ≡ store_name x.region x.next_store))) [
      | inl was ↦ inl was
      | inr (x, has, is) ↦ inr (x, subst (λ (l : List RegionFiles). Contains l x) (sym all_yielded) has, is)
    ]

pub returns-clause-stored : goal.returns-clause-stored
returns-clause-stored g c told base held found =
    let u = g.D.Disk.view c.args.disk.now in
    let v = g.D.Disk.view c.loop-region.disk in
    let none : into_iter_items c.loop-region.region-iterator ≡ [] = nil_from_length (into_iter_items c.loop-region.region-iterator) (omega (arith, c.in-None.ensures.steps.0, c.loop-region.invariant.len)) in
    let all_yielded : c.args.regions.items ≡ c.loop-region.yielded = sym c.loop-region.invariant.rest ∙ ap (λ (l : List RegionFiles). c.loop-region.yielded ++ l) none ∙ append-nil c.loop-region.yielded in
    subst (λ (l : List RegionFiles). AllStoresReplayed u.files v.files l c.loop-region.replayed.items) (sym all_yielded) (c.loop-region.invariant.so_far.stored told base held found)

pub returns-clause-count : goal.returns-clause-count
returns-clause-count g c =
    let none : into_iter_items c.loop-region.region-iterator ≡ [] = nil_from_length (into_iter_items c.loop-region.region-iterator) (omega (arith, c.in-None.ensures.steps.0, c.loop-region.invariant.len)) in
    let all_yielded : c.args.regions.items ≡ c.loop-region.yielded = sym c.loop-region.invariant.rest ∙ ap (λ (l : List RegionFiles). c.loop-region.yielded ++ l) none ∙ append-nil c.loop-region.yielded in
    c.loop-region.invariant.count ∙ sym (ap length all_yielded)

pub returns-in_err-next-clause-cause : goal.returns-in_err-next-clause-cause
returns-in_err-next-clause-cause g c =
    cause_since c.in_err-next.ensures.cause c.loop-region.invariant.later (λ is. error_of Found c.in_err-next.field-0.0 refusals.DiskFault c.from_residual.result c.from_residual.ensures.1 is)

pub returns-clause-cause : goal.returns-clause-cause
returns-clause-cause g c = record { later = c.loop-region.invariant.later; risen = λ is. absurd (no_error is) }
