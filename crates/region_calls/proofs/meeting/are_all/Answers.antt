use Rattle.std.proofs.Common.{◌≡◌, inl, inr, ◌+◌, map, Contains, ◌∙◌, arith}
use Rattle.std.proofs.lemmas.Bool.{cases_lt}
use Rattle.server_model.specs.Pass.{Pass as ThePass}
use Rattle.region_calls.specs.Passes.{knows}
use Rattle.region_calls.proofs.meeting.are_all.Goals as goal

pub counting-preserved : goal.counting-preserved
counting-preserved g c = record {
  each = λ h low high. elim (cases_lt c.counting.before h) as (λ _. (p : ThePass) × Contains (map knows c.args.passes.now) p × (p.handler ≡ h)) [
    | inl above ↦
        let x = c.is_among.ensures c.if-not-is_among.false in
        let next : c.counting.before + 1 ≡ h = omega (arith, above, high) in
        (x.0, x.1, x.2 ∙ next)
    | inr below ↦ c.counting.invariant.each h low below
  ];
}
