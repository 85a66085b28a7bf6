use Rattle.std.proofs.Common.{◌≡◌, ◌<◌, ◌+◌, ◌∙◌, ◌++◌, ◌∷◌, [], ℕ, List, length, get_or, sym, ap, subst, arith, length-append}
use Rattle.std.proofs.lemmas.List.{append_assoc}
use Rattle.std.proofs.Math.Seq.{get_or-append_seam}
use Rattle.std.specs.Vec.Iter.{into_iter_items}
use Rattle.wal_split.specs.declared.flushed.RegionFlushed.{RegionFlushed}
use Rattle.wal_split.specs.declared.job.EditsJob.{EditsJob}
use Rattle.region_replay.specs.declared.found.RegionFiles.{RegionFiles}
use Rattle.region_replay.specs.Dealt.{AreBegun, IsDealt}
use Rattle.region_replay.proofs.InTurn.{next_of}
use Rattle.region_replay.proofs.Shares.{one_begun}
use Rattle.region_replay.proofs.grouping.begin_regions.Goals as goal

-- the region of the next job, and that there are no more than 64
region_at : (all ys : List EditsJob) (x : EditsJob) (rest : List EditsJob) → all ≡ ys ++ x ∷ rest → length all ≡ 64 → ((k : ℕ) (j : EditsJob) → k < 64 → (get_or all k j).name.region ≡ k + 1) → (x.name.region ≡ length ys + 1) × (length ys < 64)
region_at all ys x rest is long named =
    let within : length ys < 64 = omega (arith, sym long ∙ ap length is, length-append ys (x ∷ rest)) in
    let here : get_or all (length ys) x ≡ x = ap (λ (l : List EditsJob). get_or l (length ys) x) is ∙ get_or-append_seam ys x rest x in
    (ap (λ (j : EditsJob). j.name.region) (sym here) ∙ named (length ys) x within, within)

pub take_flushed-upto-requires : goal.take_flushed-upto-requires
take_flushed-upto-requires c =
    let all = c.args.jobs.items in
    let ys = c.loop-job.yielded in
    let x = c.in-Some.job in
    let rest = into_iter_items c.next.new.self in
    let is = next_of all ys x rest (into_iter_items c.loop-job.job-iterator) c.loop-job.invariant.rest c.in-Some.ensures.steps.0 in
    let at = region_at all ys x rest is c.requires.jobs c.requires.regions in
    let long = c.loop-job.invariant.long in
    omega (arith, at.0, at.1, long)

pub loop-job-preserved : goal.loop-job-preserved
loop-job-preserved c =
    let all = c.args.jobs.items in
    let ys = c.loop-job.yielded in
    let x = c.in-Some.job in
    let rest = into_iter_items c.next.new.self in
    let is = next_of all ys x rest (into_iter_items c.loop-job.job-iterator) c.loop-job.invariant.rest c.in-Some.ensures.steps.0 in
    let at = region_at all ys x rest is c.requires.jobs c.requires.regions in
    let was = c.loop-job.invariant.long in
    let same : (u : RegionFlushed) → c.take_flushed-upto.result ≡ get_or c.args.flushed.items x.name.region u = λ u. c.take_flushed-upto.ensures.taken u ∙ c.loop-job.invariant.same x.name.region u (omega (arith, at.0)) in
    record {
      begun = subst (λ (l : List RegionFiles). AreBegun (ys ++ x ∷ []) c.args.flushed.items l) (sym c.in_ok-push.ensures.items)
          (one_begun ys c.args.flushed.items c.loop-job.regions.items x c.in_ok-region.region c.loop-job.invariant.begun (λ u. subst (λ (z : RegionFlushed). IsDealt x x.name.region z [] [] [] c.in_ok-region.region) (same u) c.in_ok-region.ensures));
      rest = append_assoc ys (x ∷ []) rest ∙ sym is;
      long = (let now = c.take_flushed-upto.ensures.long in omega (arith, now, was));
      same = λ r u behind.
          let more = length-append ys (x ∷ []) in
          c.take_flushed-upto.ensures.others r u (λ is_here. omega (arith, behind, more, is_here, at.0)) ∙ c.loop-job.invariant.same r u (omega (arith, behind, more));
    }
