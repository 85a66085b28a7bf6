use Rattle.std.proofs.Common.{◌≡◌, inl, inr, ℕ, Bool, refl, ap, sym, subst}
use Rattle.region_model.specs.Calls.{Answer}
use Rattle.region_model.specs.Journal.{Base, Caller}
use Rattle.region_model.specs.Lines.{Line, pending}
use Rattle.pass_calls.specs.region_lock.Answers.{is_sync, put_answer}
use Rattle.pass_calls.specs.region_lock.Calls.{PutsAt}
use Rattle.pass_calls.specs.region_lock.Jobs.{line_of}
use Rattle.pass_calls.specs.region_lock.Parts.{AreCalledBelow}
use Rattle.pass_calls.specs.region_lock.Passes.{known_of}
use Rattle.server_model.specs.Pass.{Known}
use Rattle.pass_calls.proofs.WatchLaws.{asks_none}
use Rattle.region_calls.proofs.putting.put_at.Goals as goal

caller_of : (a b : Line) → a ≡ b → a.caller ≡ b.caller
caller_of a b e = ap (λ (x : Line). x.caller) e

pub put_in-requires-clause-caller : goal.put_in-requires-clause-caller
put_in-requires-clause-caller g c =
    let at = c.args.at.now in
    let same : c.in-Ok.job.caller ≡ c.args.caller = caller_of (line_of 0 c.in-Ok.job) (pending 0 c.args.caller c.args.time c.args.batch) (c.in-Ok.ensures.of 0) in
    subst (λ (k : Caller). (k.handler ≡ at.hand.number) × AreCalledBelow k.call at.hand.record.list) (sym same) c.requires.caller

puts_of : (base : Base) (r : ℕ) (sync : Bool) (answer : Answer) (old new : Known) (was is : Bool) (a b : Line) → a ≡ b
    → PutsAt base a.time r sync a.batch a.caller answer old new was is → PutsAt base b.time r sync b.batch b.caller answer old new was is
puts_of base r sync answer old new was is a b e puts = subst (λ (x : Line). PutsAt base x.time r sync x.batch x.caller answer old new was is) e puts

pub returns-in-Ok-clause-puts : goal.returns-in-Ok-clause-puts
returns-in-Ok-clause-puts g c =
    let n = c.args.service.now.regions in
    let at = c.args.at.now in
    let seat = c.args.seat.now in
    puts_of (g.N.VersionsNaming.region_base at.viewer.region) at.viewer.region (is_sync c.args.durability) (put_answer c.put_in.result) (known_of n at seat) (known_of n c.put_in.new.at c.put_in.new.seat)
    seat.device.knows.broken c.put_in.new.seat.device.knows.broken (line_of 0 c.in-Ok.job) (pending 0 c.args.caller c.args.time c.args.batch) (c.in-Ok.ensures.of 0) c.put_in.ensures.puts

pub returns-in-Ok-clause-watched : goal.returns-in-Ok-clause-watched
returns-in-Ok-clause-watched g c = inr c.put_in.ensures.watched

pub returns-in-Err-clause-asked : goal.returns-in-Err-clause-asked
returns-in-Err-clause-asked g c = asks_none (is_sync c.args.durability) _ _ _ _ _ refl refl

pub returns-in-Err-clause-watched : goal.returns-in-Err-clause-watched
returns-in-Err-clause-watched g c = inl (refl, refl)
