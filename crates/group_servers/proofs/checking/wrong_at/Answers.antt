use Rattle.std.proofs.Common.{◌≡◌, ℕ, Some, sym, subst, ◌∙◌}
use Rattle.group_servers.specs.declared.recovering.FoundStore.{FoundStore}
use Rattle.group_servers.specs.Checking.{AreClear, IsWrongIn}
use Rattle.group_lists.proofs.Each.{some_is}
use Rattle.group_servers.proofs.Firsts.{if_none_weaker, if_some_weaker}
use Rattle.group_servers.proofs.checking.wrong_at.Goals as goal

pub wrong_of-requires-clause-count : goal.wrong_of-requires-clause-count
wrong_of-requires-clause-count g c = c.requires.count c.in-Some.store c.in-Some.is

pub returns-in-Some-clause-some : goal.returns-in-Some-clause-some
returns-in-Some-clause-some g c =
    if_some_weaker (λ (region : ℕ). IsWrongIn c.args.groups c.args.group c.in-Some.store.recovered region)
    (λ (region : ℕ). (s : FoundStore g.row.D.Denot) × (c.args.store.now ≡ Some s) × IsWrongIn c.args.groups c.args.group s.recovered region) c.wrong_of.result
    (λ region wrong. (c.in-Some.store, c.in-Some.is, wrong)) c.wrong_of.ensures.some

pub returns-in-Some-clause-none : goal.returns-in-Some-clause-none
returns-in-Some-clause-none g c =
    if_none_weaker (AreClear c.args.groups c.args.group c.in-Some.store.recovered 64)
    ((s : FoundStore g.row.D.Denot) → c.args.store.now ≡ Some s → AreClear c.args.groups c.args.group s.recovered 64) c.wrong_of.result
    (λ clear s is. subst (λ (t : FoundStore g.row.D.Denot). AreClear c.args.groups c.args.group t.recovered 64) (some_is c.in-Some.store s (sym c.in-Some.is ∙ is)) clear) c.wrong_of.ensures.none

pub returns-in-None-clause-none : goal.returns-in-None-clause-none
returns-in-None-clause-none g c s is = absurd (cc (c.in-None.is, is))
