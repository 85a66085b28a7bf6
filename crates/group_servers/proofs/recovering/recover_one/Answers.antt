use Rattle.std.proofs.Common.{Err, List, ap, sym, subst, ◌∙◌}
use Rattle.found_files.specs.declared.refusal.SplitRefusal.{SplitRefusal}
use Rattle.log_model.specs.Files.{IsSound}
use Rattle.recovery_laws.specs.Alike.{AllAlike}
use Rattle.region_replay.specs.Ready.{Found}
use Rattle.region_replay.specs.Opened.{AreOf, AtMostOneHigher}
use Rattle.group_servers.specs.Refusals.{GoesOn}
use Rattle.group_servers.proofs.Recovers.{never_wrong, tells_split}
use Rattle.group_servers.proofs.recovering.recover_one.Goals as goal

pub returns-in-Ok-clause-recovered : goal.returns-in-Ok-clause-recovered
returns-in-Ok-clause-recovered g c =
    let is = sym c.of-found.ensures in
    let new = (g.D.Disk.view c.recover_all.new.disk).files in
    let ok = c.in-Ok.ensures in
    record {
      all = ok.regions;
      goes_on = subst (λ d. GoesOn g.D.Disk d c.recover_all.new.disk) is (record { any_moment = c.recover_all.ensures.any_moment; later = c.recover_all.ensures.cause.later });
      sound = λ told. subst (λ d. IsSound (g.D.Disk.view d).files) is (ok.sound told);
      ready = ok.ready;
      alike = λ told. subst (λ d. AllAlike (g.D.Disk.view d).files new) is (ok.alike told);
      names = λ told. subst (λ d. AtMostOneHigher (g.D.Disk.view d).files new) is (ok.names told);
      recovered = λ told. subst (λ d. AreOf (g.D.Disk.view d).files new 1 c.in-Ok.recovered) is (ok.recovered told);
    }

pub returns-in-Err-clause-tells : goal.returns-in-Err-clause-tells
returns-in-Err-clause-tells g c =
    rw c.split_why.ensures
    (tells_split g.D.Disk (List Found) c.in-Err.refusal c.args.disk.now c.recover_all.new.disk
    (λ same. c.recover_all.ensures.cause.risen (c.in-Err.is ∙ ap (λ (e : SplitRefusal). Err e) same)) c.in-Err.ensures.unsound c.in-Err.ensures.damaged)

pub returns-in-Err-clause-right : goal.returns-in-Err-clause-right
returns-in-Err-clause-right g c = rw c.split_why.ensures (never_wrong c.in-Err.refusal)
