use Rattle.std.proofs.Common.{ℕ, inl, inr, subst}
use Rattle.group_servers.specs.Checking.{IsFirstIn}
use Rattle.group_servers.specs.Refusals.{HasNoOthers}
use Rattle.group_servers.proofs.Wrong.{clear_at, have_64, refused_wrong}
use Rattle.group_servers.proofs.stores.recover_groups.Goals as goal

pub first_wrong-requires-clause-count : goal.first_wrong-requires-clause-count
first_wrong-requires-clause-count g c = have_64 g.D.Disk c.in-Ok.stores c.args.disks.now c.recover_each.new.disks c.in-Ok.ensures.recovered

pub returns-in-Err-clause-refused : goal.returns-in-Err-clause-refused
returns-in-Err-clause-refused g c = record {
  tells = c.in-Err.ensures.tells;
  wrong = λ region is told. absurd (c.in-Err.ensures.right region is);
  before = λ told k d low at. elim low [
    | inl below ↦ c.in-Err.ensures.before told k d below at
    | inr of ↦ absurd (c.in-Err.ensures.right of.0 of.1)
  ];
}

pub returns-in-Some-clause-refused : goal.returns-in-Some-clause-refused
returns-in-Some-clause-refused g c =
    refused_wrong g.D.Disk c.in-Ok.stores c.args.disks.now c.recover_each.new.disks c.in-Some.wrong.disk c.in-Some.wrong.region c.in-Ok.ensures.found c.in-Ok.ensures.recovered
    (subst (λ (n : ℕ). IsFirstIn n c.in-Ok.stores c.in-Some.wrong.disk c.in-Some.wrong.region) c.count-groups.ensures.is c.in-Some.ensures.some)

pub returns-in-None-clause-none_of_others : goal.returns-in-None-clause-none_of_others
returns-in-None-clause-none_of_others g c told k d at =
    subst (λ (n : ℕ). HasNoOthers n 64 k (g.D.Disk.view d).files) c.count-groups.ensures.is
    (clear_at g.D.Disk c.in-Ok.stores c.args.disks.now c.recover_each.new.disks c.in-Ok.ensures.found c.in-Ok.ensures.recovered told c.count-groups.result k d at
    (λ s there. c.in-None.ensures.none k s there))
