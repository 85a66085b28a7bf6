use Rattle.std.proofs.Common.{◌≡◌, ◌+◌, ◌^◌, ◌-◌, ℕ, get_or, refl, sym, ap, ◌∙◌, arith}
use Rattle.log_ledger.specs.History.{started_in}
use Rattle.log_device.specs.Whole.{numbers_of}
use Rattle.disk_fakes.specs.Watch.{watched}
use Rattle.disk_fakes.specs.Views.{view_of}
use Rattle.service_trials.proofs.CrewLaws.{regions_from, are_regions, nothing_stored, has_region, zeros}
use Rattle.service_trials.proofs.Empty.{opened_empty, few_first}
use Rattle.service_trials.proofs.held.on_disk.Goals as goal

pub start-requires-clause-regions : goal.start-requires-clause-regions
start-requires-clause-regions g c = are_regions 16 (omega arith)

pub over_held-requires-clause-items : goal.over_held-requires-clause-items
over_held-requires-clause-items g c κs within = (c.sixteen_rings-rings.ensures.items.0, record { is = refl; parts = c.sixteen_rings-rings.ensures.items.1 })

pub over_held-requires-clause-chains : goal.over_held-requires-clause-chains
over_held-requires-clause-chains g c κs within = (c.sixteen_rings-rings.ensures.chains.0, record { is = refl; parts = c.sixteen_rings-rings.ensures.chains.1 })

pub start-requires-clause-opened : goal.start-requires-clause-opened
start-requires-clause-opened g c told =
    ∣ (λ r. 0, opened_empty (view_of (watched c.args.disk)) (regions_from 0 16) c.requires.empty c.requires.none_gone c.requires.quiet (λ m has. (nothing_stored 0 16 m has).0)) ∣₁

pub over_held-requires-clause-device : goal.over_held-requires-clause-device
over_held-requires-clause-device g c κs within =
    let d = c.in-Ok.device in
    record {
      unbroken = c.in-Ok.ensures.unbroken;
      idle = c.in-Ok.ensures.idle;
      served = λ r low high. (c.in-Ok.ensures.served r).1 (has_region 0 16 r low high);
      drawn = λ r low high.
          let m = has_region 0 16 r low high in
          ap (λ (q : ℕ). get_or (numbers_of d).drawn q 0) (sym m.2) ∙ c.in-Ok.ensures.drawn.named m.0 m.1 ∙ sym (nothing_stored 0 16 m.0 m.1).0 ∙ sym (zeros 16 (r - 1));
      synced = c.in-Ok.ensures.numbers.0;
      stored = c.in-Ok.ensures.numbers.1;
    }

pub over_held-requires-clause-whole : goal.over_held-requires-clause-whole
over_held-requires-clause-whole g c κs within =
    let d = c.in-Ok.device in
    let v = view_of (watched c.args.disk) in
    let opened = opened_empty v (regions_from 0 16) c.requires.empty c.requires.none_gone c.requires.quiet (λ m has. (nothing_stored 0 16 m has).0) in
    let found : (view_of (watched c.of-found.result.value)).files ≡ v.files = ap (λ x. (view_of (watched x)).files) c.of-found.ensures in
    ∣ (
      started_in v.files (λ r. 0),
      record {
        whole = c.in-Ok.ensures.started refl (λ r. 0) opened;
        began = record { base = sym found; first = λ r low high. sym (zeros 16 (r - 1)) };
        none_durable = refl;
        none_staged = refl;
        no_logs = refl;
        few = λ n up. c.in-Ok.ensures.few (n + 2 ^ 48) (few_first (regions_from 0 16) n (λ m has. sym (nothing_stored 0 16 m has).1));
      },
    ) ∣₁
