use Rattle.std.proofs.Common.{◌≡◌, sym, subst, ◌∙◌}
use Rattle.group_calls.specs.region_calls.declared.store.OpenedStore.{OpenedStore}
use Rattle.group_calls.specs.group_servers.group_lists.declared.lists.GroupList.{GroupList}
use Rattle.group_calls.specs.group_servers.declared.refusal.GroupsRefusal.{GroupsRefusal}
use Rattle.group_calls.specs.group_servers.group_lists.Lists.{AtEach, OfBoth, at_group, count_of}
use Rattle.group_calls.specs.group_servers.Recovering.{IsFoundAs}
use Rattle.group_calls.specs.group_servers.Refusals.{AreRefused, GoesOn, HaveNoOthers, IsNotWrong, Tells}
use Rattle.group_calls.proofs.group_servers_laws.group_lists_laws.Each.{each_joined, of_both_at, same_count}
use Rattle.group_calls.proofs.group_servers_laws.Sound.{all_sound}
use Rattle.group_calls.specs.group_servers.Beginning.{HasGoneOn, IsOpened, IsOpenedFrom, TellsFrom, disks_left}
use Rattle.groups_run.proofs.Answered.{if_err_both, if_ok_weaker, on_ok_always}
use Rattle.groups_run.proofs.opening.open_groups.Goals as goal

pub begin_each-requires-clause-recovered : goal.begin_each-requires-clause-recovered
begin_each-requires-clause-recovered g c = c.in-Ok.ensures.recovered

pub returns-in-Ok-clause-opened : goal.returns-in-Ok-clause-opened
returns-in-Ok-clause-opened g c =
    let n = c.args.regions in
    let h = c.args.handlers in
    if_ok_weaker (λ (o : GroupList (OpenedStore g.row.D.Denot)). AtEach (IsOpenedFrom g.D.Disk n h) c.in-Ok.stores o)
    (λ (o : GroupList (OpenedStore g.row.D.Denot)). AtEach (IsOpened g.D.Disk n h) c.args.disks o) c.begin_each.result
    (λ o each. each_joined IsFoundAs (IsOpenedFrom g.D.Disk n h) (IsOpened g.D.Disk n h) (λ s d x like is. subst (λ e. IsOpened g.D.Disk n h e x) like is) c.in-Ok.stores c.args.disks o c.in-Ok.ensures.found each)
    c.begin_each.ensures.opened

pub returns-in-Ok-clause-count : goal.returns-in-Ok-clause-count
returns-in-Ok-clause-count g c =
    let n = c.args.regions in
    let h = c.args.handlers in
    if_ok_weaker (λ (o : GroupList (OpenedStore g.row.D.Denot)). AtEach (IsOpenedFrom g.D.Disk n h) c.in-Ok.stores o)
    (λ (o : GroupList (OpenedStore g.row.D.Denot)). count_of o ≡ count_of c.args.disks) c.begin_each.result
    (λ o each. same_count (IsOpenedFrom g.D.Disk n h) c.in-Ok.stores o each ∙ sym (same_count IsFoundAs c.in-Ok.stores c.args.disks c.in-Ok.ensures.found))
    c.begin_each.ensures.opened

pub returns-in-Ok-clause-goes_on : goal.returns-in-Ok-clause-goes_on
returns-in-Ok-clause-goes_on g c =
    each_joined IsFoundAs (HasGoneOn g.D.Disk) (GoesOn g.D.Disk) (λ s d e like is. subst (λ x. GoesOn g.D.Disk x e) like is) c.in-Ok.stores c.args.disks (disks_left c.begin_each.result) c.in-Ok.ensures.found
    c.begin_each.ensures.goes_on

pub returns-in-Ok-clause-none_of_others : goal.returns-in-Ok-clause-none_of_others
returns-in-Ok-clause-none_of_others g c told = on_ok_always (HaveNoOthers g.D.Disk c.args.disks) c.begin_each.result (c.in-Ok.ensures.none_of_others told)

pub returns-in-Ok-clause-refused : goal.returns-in-Ok-clause-refused
returns-in-Ok-clause-refused g c =
    let stores = c.in-Ok.stores in
    if_err_both (λ (e : GroupsRefusal g.row.D.Denot). OfBoth (TellsFrom g.D.Disk e.why) (at_group stores e.disk) (at_group e.disks e.disk)) (λ (e : GroupsRefusal g.row.D.Denot). IsNotWrong e.why)
    (λ (e : GroupsRefusal g.row.D.Denot). AreRefused g.D.Disk c.args.disks e.disks e.why e.disk) c.begin_each.result
    (λ e tells right. record {
      tells = of_both_at IsFoundAs (TellsFrom g.D.Disk e.why) (Tells g.D.Disk e.why) (λ s d x like is. subst (λ z. Tells g.D.Disk e.why z x) like is) stores c.args.disks e.disks c.in-Ok.ensures.found e.disk tells;
      wrong = λ region is told. absurd (right region is);
      before = λ told k d low at. all_sound g.D.Disk stores c.args.disks c.recover_groups.new.disks c.in-Ok.ensures.found c.in-Ok.ensures.recovered told k d at;
    })
    c.begin_each.ensures.tells c.begin_each.ensures.right
