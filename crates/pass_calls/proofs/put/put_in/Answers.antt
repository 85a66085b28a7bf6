use Rattle.std.proofs.Common.{◌≡◌, ℕ, Bool, Some, None, Result, Ok, Err, refl, sym, ap, ◌∙◌, subst}
use Rattle.hand_register.specs.declared.known.Record.{Record}
use Rattle.region_model.specs.Journal.{Done}
use Rattle.region_model.specs.Lawful.{number_of}
use Rattle.region_model.specs.Lines.{Line, last_in}
use Rattle.region_lock.proofs.log_service_laws.SeatLaws.{later_trans}
use Rattle.region_lock.specs.Answers.{is_sync, put_answer}
use Rattle.region_lock.specs.declared.answers.PutRefusal.{PutRefusal}
use Rattle.region_lock.specs.declared.answers.PutRefusal.TheVariants as put
use Rattle.region_lock.specs.log_service.declared.tally.Asked.{Asked}
use Rattle.region_lock.specs.log_service.declared.tally.PutTally.{PutTally}
use Rattle.region_lock.specs.log_service.declared.tally.Watch.{Watch}
use Rattle.region_lock.specs.log_service.Tallies.{watched}
use Rattle.region_lock.specs.Puts.{HasLooked, IsAskedFor}
use Rattle.region_lock.specs.Met.{HasSeen}
use Rattle.region_lock.specs.Parts.{WasEnded}
use Rattle.region_versions.proofs.Fronts.{prefix_trans}
use Rattle.region_lock.proofs.Knowns.{later_refl, not_before}
use Rattle.pass_calls.proofs.PutLaws.{put_failed, put_shown, put_unshown}
use Rattle.pass_calls.proofs.WatchLaws.{start_looked, number_looked, refused_looked, handed_on, none_drawn, asks_none, asks_number}
use Rattle.pass_calls.proofs.put.put_in.Goals as goal

pub returns-then-not-await_log-clause-puts : goal.returns-then-not-await_log-clause-puts
returns-then-not-await_log-clause-puts g c =
    let drawn = later_trans c.args.seat.now c.watch.new.seat c.draw.new.seat c.watch.ensures.later c.draw.ensures.later in
    let logged = later_trans c.args.seat.now c.draw.new.seat c.await_log.new.seat drawn c.await_log.ensures.later in
    let ended = c.end-left in
    put_failed c.args.service.now.regions (g.N.VersionsNaming.region_base c.args.at.now.viewer.region) (is_sync c.args.durability) c.args.job c.number-number.result c.args.at.now c.draw.new.at ended.new.at c.args.seat.now c.await_log.new.seat
    (record {
      entry = c.in_ok-entry.entry;
      number = c.number-number.ensures;
      drew = c.in_ok-entry.ensures.drawn;
      view = c.draw.ensures.same.0;
      region = ended.ensures.pass.0;
      lines = ended.ensures.lines;
      ended = ended.ensures.own;
      told = ended.ensures.told;
      later = logged;
      whole = not_before c.args.seat.now.device.knows.broken c.watch.new.seat.device.knows.broken (λ b. (c.watch.ensures.later.fault b).0) (sym c.watch.ensures.broken ∙ c.if-watch.false);
    })
    c.if-not-await_log.ensures.logged.0 c.if-not-await_log.ensures.logged.1.broken

pub returns-in-Nothing-clause-puts : goal.returns-in-Nothing-clause-puts
returns-in-Nothing-clause-puts g c =
    let drawn = later_trans c.args.seat.now c.watch.new.seat c.draw.new.seat c.watch.ensures.later c.draw.ensures.later in
    let logged = later_trans c.args.seat.now c.draw.new.seat c.await_log.new.seat drawn c.await_log.ensures.later in
    let ended = c.end-left-2 in
    put_shown c.args.service.now.regions g.N.VersionsNaming.region_base (is_sync c.args.durability) c.args.job c.number-number.result c.region-region.result c.args.at.now c.draw.new.at ended.new.at c.args.seat.now c.await_log.new.seat c.await_log.new.seat
    (record {
      entry = c.in_ok-entry.entry;
      number = c.number-number.ensures;
      drew = c.in_ok-entry.ensures.drawn;
      view = c.draw.ensures.same.0;
      region = ended.ensures.pass.0;
      lines = ended.ensures.lines;
      ended = ended.ensures.own;
      told = ended.ensures.told;
      later = logged;
      whole = not_before c.args.seat.now.device.knows.broken c.watch.new.seat.device.knows.broken (λ b. (c.watch.ensures.later.fault b).0) (sym c.watch.ensures.broken ∙ c.if-watch.false);
    })
    c.region-region.ensures (later_refl c.await_log.new.seat) c.if-not-await_log.ensures.logged
    (subst (λ (m : ℕ). HasSeen (g.N.VersionsNaming.region_base ended.new.at.viewer.region) m ended.new.at.hand.record.list ended.new.at.viewer.lines) (sym c.number-number.ensures) (ended.ensures.seen c.in-Nothing.is))

pub returns-in-Ok-clause-puts : goal.returns-in-Ok-clause-puts
returns-in-Ok-clause-puts g c =
    let drawn = later_trans c.args.seat.now c.watch.new.seat c.draw.new.seat c.watch.ensures.later c.draw.ensures.later in
    let logged = later_trans c.args.seat.now c.draw.new.seat c.await_log.new.seat drawn c.await_log.ensures.later in
    let ended = c.end-left-2 in
    put_shown c.args.service.now.regions g.N.VersionsNaming.region_base (is_sync c.args.durability) c.args.job c.number-number.result c.region-region.result c.args.at.now c.draw.new.at c.show.new.at c.args.seat.now c.await_log.new.seat c.show.new.seat
    (record {
      entry = c.in_ok-entry.entry;
      number = c.number-number.ensures;
      drew = c.in_ok-entry.ensures.drawn;
      view = c.draw.ensures.same.0;
      region = c.show.ensures.region ∙ ended.ensures.pass.0;
      lines = prefix_trans c.draw.new.at.viewer.lines ended.new.at.viewer.lines c.show.new.at.viewer.lines ended.ensures.lines c.show.ensures.lines;
      ended = subst (λ (r : Record Line). WasEnded Done c.draw.new.at.hand.record.list r.list) (sym c.show.ensures.own.0) ended.ensures.own;
      told = c.show.ensures.told ∙ ended.ensures.told;
      later = later_trans c.args.seat.now c.await_log.new.seat c.show.new.seat logged c.show.ensures.later;
      whole = not_before c.args.seat.now.device.knows.broken c.watch.new.seat.device.knows.broken (λ b. (c.watch.ensures.later.fault b).0) (sym c.watch.ensures.broken ∙ c.if-watch.false);
    })
    c.region-region.ensures c.show.ensures.later c.if-not-await_log.ensures.logged c.in-Ok.ensures.seen

pub returns-in-Err-clause-puts : goal.returns-in-Err-clause-puts
returns-in-Err-clause-puts g c =
    let drawn = later_trans c.args.seat.now c.watch.new.seat c.draw.new.seat c.watch.ensures.later c.draw.ensures.later in
    let logged = later_trans c.args.seat.now c.draw.new.seat c.await_log.new.seat drawn c.await_log.ensures.later in
    let ended = c.end-left-2 in
    put_unshown c.args.service.now.regions (g.N.VersionsNaming.region_base c.args.at.now.viewer.region) (is_sync c.args.durability) c.args.job c.number-number.result c.region-region.result c.args.at.now c.draw.new.at c.show.new.at c.args.seat.now c.await_log.new.seat c.show.new.seat
    (record {
      entry = c.in_ok-entry.entry;
      number = c.number-number.ensures;
      drew = c.in_ok-entry.ensures.drawn;
      view = c.draw.ensures.same.0;
      region = c.show.ensures.region ∙ ended.ensures.pass.0;
      lines = prefix_trans c.draw.new.at.viewer.lines ended.new.at.viewer.lines c.show.new.at.viewer.lines ended.ensures.lines c.show.ensures.lines;
      ended = subst (λ (r : Record Line). WasEnded Done c.draw.new.at.hand.record.list r.list) (sym c.show.ensures.own.0) ended.ensures.own;
      told = c.show.ensures.told ∙ ended.ensures.told;
      later = later_trans c.args.seat.now c.await_log.new.seat c.show.new.seat logged c.show.ensures.later;
      whole = not_before c.args.seat.now.device.knows.broken c.watch.new.seat.device.knows.broken (λ b. (c.watch.ensures.later.fault b).0) (sym c.watch.ensures.broken ∙ c.if-watch.false);
    })
    c.region-region.ensures c.show.ensures.later c.if-not-await_log.ensures.logged

-- ---- what is counted

pub returns-then-watch-clause-asked : goal.returns-then-watch-clause-asked
returns-then-watch-clause-asked g c = asks_none (is_sync c.args.durability) _ _ _ _ _ refl refl

pub returns-then-watch-clause-watched : goal.returns-then-watch-clause-watched
returns-then-watch-clause-watched g c =
    start_looked c.args.at.now.tally.watch c.watch.new.watch (c.watch.ensures.counted ∙ ap (λ (b : Bool). watched b c.args.at.now.tally.watch) c.if-watch.true)

pub returns-in_err-entry-clause-asked : goal.returns-in_err-entry-clause-asked
returns-in_err-entry-clause-asked g c =
    asks_none (is_sync c.args.durability) _ c.from_residual.result _ _ _
    (handed_on (λ (x : Result ℕ PutRefusal). number_of (put_answer x) ≡ None) c.from_residual.result c.in_err-entry.field-0.0 c.from_residual.ensures.1 (none_drawn (last_in (g.N.VersionsNaming.region_base c.args.at.now.viewer.region) c.args.at.now.viewer.lines) c.args.job c.args.at.now.hand.record.list c.draw.new.at.hand.record.list c.args.at.now.told.record.list c.draw.new.at.told.record.list c.draw.new.seat.device.knows.broken c.in_err-entry.field-0.0 c.in_err-entry.ensures.drawn))
    c.draw.ensures.unasked

pub returns-in_err-entry-clause-watched : goal.returns-in_err-entry-clause-watched
returns-in_err-entry-clause-watched g c =
    let mid = c.watch.ensures.counted ∙ ap (λ (b : Bool). watched b c.args.at.now.tally.watch) c.if-watch.false in
    handed_on (λ (x : Result ℕ PutRefusal). HasLooked x c.args.at.now.tally.watch c.draw.new.at.tally.watch) c.from_residual.result c.in_err-entry.field-0.0 c.from_residual.ensures.1
    (refused_looked (last_in (g.N.VersionsNaming.region_base c.args.at.now.viewer.region) c.args.at.now.viewer.lines) c.args.job c.args.at.now.hand.record.list c.draw.new.at.hand.record.list c.args.at.now.told.record.list c.draw.new.at.told.record.list c.draw.new.seat.device.knows.broken c.in_err-entry.field-0.0 c.args.at.now.tally.watch c.watch.new.watch c.draw.new.at.tally.watch mid c.in_err-entry.ensures.drawn c.in_err-entry.ensures.watched)

pub returns-then-not-await_log-clause-asked : goal.returns-then-not-await_log-clause-asked
returns-then-not-await_log-clause-asked g c =
    let tally = c.end-left.ensures.tally in
    asks_number (is_sync c.args.durability) c.args.at.now.viewer.region c.region-region.result c.number-number.result _ c.args.at.now.tally.asked c.draw.new.at.tally.asked c.end-left.new.at.tally.asked c.await_log.new.seat.device.knows.broken c.await_log.new.seat.device.knows.broken
    refl c.region-region.ensures c.draw.ensures.unasked (λ e. e)
    (subst (λ (a : Asked). IsAskedFor (is_sync c.args.durability) c.region-region.result c.number-number.result c.draw.new.at.tally.asked a c.await_log.new.seat.device.knows.broken) (sym (ap (λ (t : PutTally). t.asked) tally)) c.await_log.ensures.asked)

pub returns-then-not-await_log-clause-watched : goal.returns-then-not-await_log-clause-watched
returns-then-not-await_log-clause-watched g c =
    let mid = c.watch.ensures.counted ∙ ap (λ (b : Bool). watched b c.args.at.now.tally.watch) c.if-watch.false in
    subst (λ (w : Watch). HasLooked (Err (put.WriteFault (Some c.number-number.result))) c.args.at.now.tally.watch w) (sym (ap (λ (t : PutTally). t.watch) c.end-left.ensures.tally))
    (number_looked c.in_ok-entry.entry _ c.args.at.now.tally.watch c.watch.new.watch c.draw.new.at.tally.watch mid c.in_ok-entry.ensures.watched (λ e. cc e))

pub returns-in-Nothing-clause-asked : goal.returns-in-Nothing-clause-asked
returns-in-Nothing-clause-asked g c =
    let tally = c.end-left-2.ensures.tally in
    asks_number (is_sync c.args.durability) c.args.at.now.viewer.region c.region-region.result c.number-number.result _ c.args.at.now.tally.asked c.draw.new.at.tally.asked c.end-left-2.new.at.tally.asked c.await_log.new.seat.device.knows.broken c.await_log.new.seat.device.knows.broken
    refl c.region-region.ensures c.draw.ensures.unasked (λ e. e)
    (subst (λ (a : Asked). IsAskedFor (is_sync c.args.durability) c.region-region.result c.number-number.result c.draw.new.at.tally.asked a c.await_log.new.seat.device.knows.broken) (sym (ap (λ (t : PutTally). t.asked) tally)) c.await_log.ensures.asked)

pub returns-in-Nothing-clause-watched : goal.returns-in-Nothing-clause-watched
returns-in-Nothing-clause-watched g c =
    let mid = c.watch.ensures.counted ∙ ap (λ (b : Bool). watched b c.args.at.now.tally.watch) c.if-watch.false in
    subst (λ (w : Watch). HasLooked (Ok c.number-number.result) c.args.at.now.tally.watch w) (sym (ap (λ (t : PutTally). t.watch) c.end-left-2.ensures.tally))
    (number_looked c.in_ok-entry.entry _ c.args.at.now.tally.watch c.watch.new.watch c.draw.new.at.tally.watch mid c.in_ok-entry.ensures.watched (λ e. cc e))

pub returns-in-Ok-clause-asked : goal.returns-in-Ok-clause-asked
returns-in-Ok-clause-asked g c =
    let tally = c.show.ensures.tally ∙ c.end-left-2.ensures.tally in
    asks_number (is_sync c.args.durability) c.args.at.now.viewer.region c.region-region.result c.number-number.result _ c.args.at.now.tally.asked c.draw.new.at.tally.asked c.show.new.at.tally.asked c.await_log.new.seat.device.knows.broken c.show.new.seat.device.knows.broken
    refl c.region-region.ensures c.draw.ensures.unasked (λ e. (c.show.ensures.later.fault e).0)
    (subst (λ (a : Asked). IsAskedFor (is_sync c.args.durability) c.region-region.result c.number-number.result c.draw.new.at.tally.asked a c.await_log.new.seat.device.knows.broken) (sym (ap (λ (t : PutTally). t.asked) tally)) c.await_log.ensures.asked)

pub returns-in-Ok-clause-watched : goal.returns-in-Ok-clause-watched
returns-in-Ok-clause-watched g c =
    let mid = c.watch.ensures.counted ∙ ap (λ (b : Bool). watched b c.args.at.now.tally.watch) c.if-watch.false in
    let tally = c.show.ensures.tally ∙ c.end-left-2.ensures.tally in
    subst (λ (w : Watch). HasLooked (Ok c.number-number.result) c.args.at.now.tally.watch w) (sym (ap (λ (t : PutTally). t.watch) tally))
    (number_looked c.in_ok-entry.entry _ c.args.at.now.tally.watch c.watch.new.watch c.draw.new.at.tally.watch mid c.in_ok-entry.ensures.watched (λ e. cc e))

pub returns-in-Err-clause-asked : goal.returns-in-Err-clause-asked
returns-in-Err-clause-asked g c =
    let tally = c.show.ensures.tally ∙ c.end-left-2.ensures.tally in
    asks_number (is_sync c.args.durability) c.args.at.now.viewer.region c.region-region.result c.number-number.result _ c.args.at.now.tally.asked c.draw.new.at.tally.asked c.show.new.at.tally.asked c.await_log.new.seat.device.knows.broken c.show.new.seat.device.knows.broken
    refl c.region-region.ensures c.draw.ensures.unasked (λ e. (c.show.ensures.later.fault e).0)
    (subst (λ (a : Asked). IsAskedFor (is_sync c.args.durability) c.region-region.result c.number-number.result c.draw.new.at.tally.asked a c.await_log.new.seat.device.knows.broken) (sym (ap (λ (t : PutTally). t.asked) tally)) c.await_log.ensures.asked)

pub returns-in-Err-clause-watched : goal.returns-in-Err-clause-watched
returns-in-Err-clause-watched g c =
    let mid = c.watch.ensures.counted ∙ ap (λ (b : Bool). watched b c.args.at.now.tally.watch) c.if-watch.false in
    let tally = c.show.ensures.tally ∙ c.end-left-2.ensures.tally in
    subst (λ (w : Watch). HasLooked (Err (put.Memory (Some c.number-number.result))) c.args.at.now.tally.watch w) (sym (ap (λ (t : PutTally). t.watch) tally))
    (number_looked c.in_ok-entry.entry _ c.args.at.now.tally.watch c.watch.new.watch c.draw.new.at.tally.watch mid c.in_ok-entry.ensures.watched (λ e. cc e))
