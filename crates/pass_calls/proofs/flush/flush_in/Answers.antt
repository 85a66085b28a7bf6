use Rattle.std.specs.Option.{option_map}
use Rattle.std.proofs.Common.{ℕ, List, Option, Ok, Err, sym, ap, ◌∙◌, subst}
use Rattle.region_lock.specs.declared.answers.FlushRefusal.{FlushRefusal}
use Rattle.region_lock.specs.Logged.{FlushesLog}
use Rattle.pass_calls.proofs.FlushLaws.{flushed_pass, refused_pass, log_refused}
use Rattle.pass_calls.proofs.flush.flush_in.Goals as goal

pub returns-in-Ok-flushed-clause-flushes : goal.returns-in-Ok-flushed-clause-flushes
returns-in-Ok-flushed-clause-flushes g c =
    let r = c.args.at.now.viewer.region in
    let family : Option (List ℕ) = option_map (λ (f : _). f.now) c.args.family in
    flushed_pass c.args.service.now.regions (g.N.VersionsNaming.region_base r) (g.N.LockNaming.flushes r) family c.args.by c.in-Ok-flushed.number c.region-region.result c.args.at.now c.look.new.at c.unmark.new.at c.args.seat.now c.flush-flushed.new.seat c.in-Ok.upto
    c.region-region.ensures c.look.ensures.same c.unmark.ensures.same c.flush-flushed.ensures.later c.in-Ok.ensures.looked.0 c.in-Ok.ensures.looked.2 c.in-Ok-flushed.ensures.flushed

pub returns-in-Err-flushed-clause-flushes : goal.returns-in-Err-flushed-clause-flushes
returns-in-Err-flushed-clause-flushes g c =
    let r = c.args.at.now.viewer.region in
    let family : Option (List ℕ) = option_map (λ (f : _). f.now) c.args.family in
    let is = c.in-Err-flushed.is in
    refused_pass c.args.service.now.regions (g.N.VersionsNaming.region_base r) (g.N.LockNaming.flushes r) family c.args.by _ c.in-Err-flushed.refusal c.region-region.result c.args.at.now c.look.new.at c.unmark.new.at c.args.seat.now c.flush-flushed.new.seat c.in-Ok.upto
    c.refusal_of.ensures.answer c.region-region.ensures c.look.ensures.same c.unmark.ensures.same c.flush-flushed.ensures.later c.in-Ok.ensures.looked.0 c.in-Ok.ensures.looked.2 (λ m e. c.flush-flushed.ensures.nothing m (is ∙ ap Err e)) (λ e. c.flush-flushed.ensures.fault.0 (is ∙ ap Err e))

pub returns-in-Ok-flushed-clause-family : goal.returns-in-Ok-flushed-clause-family
returns-in-Ok-flushed-clause-family g c =
    let family : Option (List ℕ) = option_map (λ (f : _). f.now) c.args.family in
    subst (λ (r : ℕ). FlushesLog g.D.Disk g.N.ServiceNaming c.args.service.now.regions r family c.flush-flushed.new.seat (Ok c.in-Ok-flushed.number)) c.region-region.ensures c.in-Ok-flushed.ensures.family

pub returns-in-Err-flushed-clause-family : goal.returns-in-Err-flushed-clause-family
returns-in-Err-flushed-clause-family g c =
    let n = c.args.service.now.regions in
    let family : Option (List ℕ) = option_map (λ (f : _). f.now) c.args.family in
    let k = c.flush-flushed.new.seat in
    subst (λ (r : ℕ). FlushesLog g.D.Disk g.N.ServiceNaming n r family k (Err c.refusal_of.result)) c.region-region.ensures
    (subst (λ (e : FlushRefusal). FlushesLog g.D.Disk g.N.ServiceNaming n c.region-region.result family k (Err e)) (sym c.refusal_of.ensures.same)
    (log_refused g.D.Disk g.N.ServiceNaming n c.region-region.result family k c.in-Err-flushed.refusal c.in-Err-flushed.ensures.family))

pub returns-in-Ok-flushed-clause-counted : goal.returns-in-Ok-flushed-clause-counted
returns-in-Ok-flushed-clause-counted g c = c.in-Ok-flushed.ensures.counted

pub returns-in-Err-flushed-clause-counted : goal.returns-in-Err-flushed-clause-counted
returns-in-Err-flushed-clause-counted g c = c.in-Err-flushed.ensures.counted
