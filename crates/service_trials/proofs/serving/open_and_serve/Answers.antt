use Rattle.std.proofs.Common.{[], arith}
use Rattle.std.proofs.lemmas.List.{length-map}
use Rattle.region_model.specs.Journal.{Base}
use Rattle.region_calls.specs.Seeds.{base_of}
use Rattle.region_calls.specs.Store.{bases_of}
use Rattle.region_calls.proofs.OwnNames.{own_name}
use Rattle.service_trials.proofs.serving.open_and_serve.Goals as goal

pub serve-requires-clause-name : goal.serve-requires-clause-name
serve-requires-clause-name g c = own_name g.D.Disk (λ r. []) c.in-Ok.opened

pub serve-requires-clause-regions_there : goal.serve-requires-clause-regions_there
serve-requires-clause-regions_there g c =
    let o = c.in-Ok.opened in
    let store = c.in-Ok.ensures.store in
    omega (arith, length-map (bases_of o) (λ (b : Base). b.last), length-map o.seeds.items base_of, store.count, store.some.0)
