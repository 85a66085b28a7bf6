use Rattle.std.proofs.Common.{◌≡◌, ◌-◌, ◌++◌, ◌∷◌, [], ℕ, get_or, slice_set, ap, subst, arith}
use Rattle.std.proofs.lemmas.Result.{on_ok_weaker}
use Rattle.std.proofs.lemmas.List.Elements.{at_read}
use Rattle.log_model.specs.Entry.{Entry}
use Rattle.wal_split.specs.declared.job.EditsJob.{EditsJob}
use Rattle.wal_split.proofs.grouping.add_to.Goals as goal

pub returns-clause-added : goal.returns-clause-added
returns-clause-added c =
    let jobs = c.args.jobs.now.items in
    let job = c.add_entry.new.job in
    let region : c.entry.inside.region ≡ c.args.entry.region = ap (λ (v : Entry). v.region) c.entry.view_is in
    let P : EditsJob → Type 0 = λ j. (job.name ≡ j.name) × (job.entries.items ≡ j.entries.items ++ c.args.entry ∷ []) in
    on_ok_weaker c.add_entry.result
    (λ h. (
      job,
      ap (λ (r : ℕ). slice_set jobs (r - 1) job) region,
      λ d. subst (λ (r : ℕ). P (get_or jobs (r - 1) d)) region (at_read jobs P (c.entry.inside.region - 1) c.index_mut.result.now (omega (arith, c.requires, c.entry.invariant.0.region, c.entry.invariant.0.region_given)) c.index_mut.ensures.value h d),
    ))
    c.add_entry.ensures.added
