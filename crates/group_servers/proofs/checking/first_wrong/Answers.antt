use Rattle.std.proofs.Common.{refl}
use Rattle.group_servers.proofs.Firsts.{all_clear, first_1, first_2, first_3, first_4}
use Rattle.group_servers.proofs.checking.first_wrong.Goals as goal

pub wrong_of-requires-clause-count : goal.wrong_of-requires-clause-count
wrong_of-requires-clause-count g c = c.requires.count 1 c.args.stores.now.first refl

pub wrong_at-requires-clause-count : goal.wrong_at-requires-clause-count
wrong_at-requires-clause-count g c = c.requires.count 2

pub wrong_at-requires-in-None-wrong_at-clause-count : goal.wrong_at-requires-in-None-wrong_at-clause-count
wrong_at-requires-in-None-wrong_at-clause-count g c = c.requires.count 3

pub wrong_at-requires-in-None-wrong_at-2-clause-count : goal.wrong_at-requires-in-None-wrong_at-2-clause-count
wrong_at-requires-in-None-wrong_at-2-clause-count g c = c.requires.count 4

pub returns-in-Some-clause-some : goal.returns-in-Some-clause-some
returns-in-Some-clause-some g c = first_1 c.args.groups c.args.stores.now c.in-Some.region c.in-Some.ensures.some

pub returns-in-Some-wrong_at-clause-some : goal.returns-in-Some-wrong_at-clause-some
returns-in-Some-wrong_at-clause-some g c = first_2 c.args.groups c.args.stores.now c.in-Some-wrong_at.region c.in-None.ensures.none c.in-Some-wrong_at.ensures.some

pub returns-in-Some-wrong_at-2-clause-some : goal.returns-in-Some-wrong_at-2-clause-some
returns-in-Some-wrong_at-2-clause-some g c = first_3 c.args.groups c.args.stores.now c.in-Some-wrong_at-2.region c.in-None.ensures.none c.in-None-wrong_at.ensures.none c.in-Some-wrong_at-2.ensures.some

pub returns-in-Some-wrong_at-3-clause-some : goal.returns-in-Some-wrong_at-3-clause-some
returns-in-Some-wrong_at-3-clause-some g c = first_4 c.args.groups c.args.stores.now c.in-Some-wrong_at-3.region c.in-None.ensures.none c.in-None-wrong_at.ensures.none c.in-None-wrong_at-2.ensures.none c.in-Some-wrong_at-3.ensures.some

pub returns-in-None-wrong_at-3-clause-none : goal.returns-in-None-wrong_at-3-clause-none
returns-in-None-wrong_at-3-clause-none g c = all_clear c.args.groups c.args.stores.now c.in-None.ensures.none c.in-None-wrong_at.ensures.none c.in-None-wrong_at-2.ensures.none c.in-None-wrong_at-3.ensures.none
