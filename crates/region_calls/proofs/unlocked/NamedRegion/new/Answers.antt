use Rattle.std.proofs.Common.{ℕ, [], replicate, sym, ap, ◌∙◌, subst, arith}
use Rattle.atomic_table.specs.Seated.{TableId}
use Rattle.hand_register.specs.Desks.{AreFresh}
use Rattle.hand_register.specs.Rule.{empty}
use Rattle.region_versions.specs.Histories.{Beginning, beginning}
use Rattle.region_calls.proofs.unlocked.NamedRegion.new.Goals as goal

pub invariant_of-hands : goal.invariant_of-hands
invariant_of-hands g c =
    let seed = c.requires.seed in
    let named = c.requires.named in
    let here = sym c.region-region.ensures in
    record {
      own = (subst (λ (t : TableId). AreFresh t 1 c.args.seeds.desk.hands) (named.desk_is ∙ ap g.N.LockNaming.desk here) seed.desk.fresh, seed.desk.count);
      told = (subst (λ (t : TableId). AreFresh t 1 c.args.seeds.spent.hands) (named.spent_is ∙ ap g.N.LockNaming.spent here) seed.spent.fresh, seed.spent.count);
      viewing = c.in_ok-shower.ensures.viewers ∙ ap (λ (b : Beginning). replicate c.args.handlers b) (c.front.ensures ∙ c.named-history.ensures);
      small = omega (arith, c.requires.handlers.1);
    }

pub invariant_of-unlocked : goal.invariant_of-unlocked
invariant_of-unlocked g c =
    let seed = c.requires.seed in
    let named = c.requires.named in
    let many = c.requires.handlers.2 in
    record {
      no_lines = seed.no_lines;
      base_is = named.base_is;
      last = named.last_is;
      own = (named.desk_is, seed.desk.empty ∙ ap (λ (n : ℕ). replicate n empty) many);
      told = (named.spent_is, seed.spent.empty ∙ ap (λ (n : ℕ). replicate n empty) many);
      past = c.named-history.ensures ∙ ap (λ (r : ℕ). beginning r []) c.region-region.ensures;
      seen = c.in_ok-shower.ensures.shower ∙ c.front.ensures;
    }
