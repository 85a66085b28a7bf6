use Rattle.std.proofs.Common.{sym, ap, ◌∙◌, arith}
use Rattle.region_model.specs.Journal.{Base}
use Rattle.region_calls.proofs.seeds.RegionSeeds.new.Goals as goal

pub returns-clause-seed : goal.returns-clause-seed
returns-clause-seed c =
    let state = c.in_ok-first.ensures.state in
    let version = c.in_ok-first.ensures.version in
    let desks = c.in_ok-desks.ensures.parts in
    record {
      region = state.0;
      limit = omega (arith, ap (λ (b : Base). b.last) state.1, c.requires.limit);
      no_lines = state.2;
      version_base = version.0 ∙ sym state.1;
      version_cut = version.1;
      desk = desks.0;
      spent = desks.1;
    }

pub returns-clause-base : goal.returns-clause-base
returns-clause-base c = c.in_ok-first.ensures.state.1
