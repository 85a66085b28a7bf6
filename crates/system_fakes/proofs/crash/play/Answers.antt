use Rattle.std.proofs.Common.{◌≡◌, ◌∙◌, ap, sym, subst}
use Rattle.std.specs.Prelude.{OnOk}
use Rattle.std.proofs.lemmas.Result.{on_ok_weaker}
use Rattle.system_fakes.specs.declared.op.Op.{Op}
use Rattle.system_fakes.specs.declared.op.Op.TheVariants.{Begin, Sync, SyncFolder, Doubt, Tick}
use Rattle.system_fakes.specs.Held.{Held, bytes_of}
use Rattle.system_fakes.specs.History.{step}
use Rattle.system_fakes.specs.Table.{held_in}
use Rattle.system_fakes.specs.Image.{IsPlayed, Plays, replaced, named_as}
use Rattle.system_fakes.proofs.Played.{plays, plays_to, begin_any, sync_any, folder_any, doubt_any, tick_any}
use Rattle.system_fakes.proofs.crash.play.Goals as goal

pub returns-in-Begin : goal.returns-in-Begin
returns-in-Begin c =
    on_ok_weaker c.skip.result (λ is. subst (λ (o : Op). Plays o (held_in c.args.truth.now) (held_in c.args.image.now) (held_in c.skip.new.self)) (sym c.in-Begin.is)
    (plays_to (Begin c.in-Begin.field-0) _ _ _ _ is (λ s fair same was. begin_any s fair _ was c.in-Begin.field-0))) c.skip.ensures

pub returns-in-Sync : goal.returns-in-Sync
returns-in-Sync c =
    on_ok_weaker c.replace.result (λ is. subst (λ (o : Op). Plays o (held_in c.args.truth.now) (held_in c.args.image.now) (held_in c.replace.new.self)) (sym c.in-Sync.is)
    (plays (Sync c.in-Sync.inode) (held_in c.args.truth.now) (held_in c.args.image.now) (held_in c.replace.new.self) (λ s fair same was. subst (IsPlayed (step s (Sync c.in-Sync.inode)))
    (sym (is ∙ ap (replaced (held_in c.args.image.now) c.in-Sync.inode) (c.bytes.ensures ∙ ap (λ (h : Held). bytes_of h c.in-Sync.inode) (sym same)))) (sync_any s fair _ was c.in-Sync.inode)))) c.replace.ensures

pub returns-in-SyncFolder : goal.returns-in-SyncFolder
returns-in-SyncFolder c =
    on_ok_weaker c.take_names.result (λ is. subst (λ (o : Op). Plays o (held_in c.args.truth.now) (held_in c.args.image.now) (held_in c.take_names.new.self)) (sym c.in-SyncFolder.is)
    (plays SyncFolder (held_in c.args.truth.now) (held_in c.args.image.now) (held_in c.take_names.new.self) (λ s fair same was. subst (IsPlayed (step s SyncFolder))
    (sym (is ∙ ap (λ (h : Held). named_as (held_in c.args.image.now) h.folder) (sym same))) (folder_any s fair _ was)))) c.take_names.ensures

pub returns-in-Doubt : goal.returns-in-Doubt
returns-in-Doubt c = subst (λ (o : Op). Plays o (held_in c.args.truth.now) (held_in c.args.image.now) (held_in c.args.image.now)) (sym c.in-Doubt.is) (plays (Doubt c.in-Doubt.field-0) _ _ _ (λ s fair same was. doubt_any s fair _ was c.in-Doubt.field-0))

pub returns-in-Tick : goal.returns-in-Tick
returns-in-Tick c = subst (λ (o : Op). Plays o (held_in c.args.truth.now) (held_in c.args.image.now) (held_in c.args.image.now)) (sym c.in-Tick.is) (plays Tick _ _ _ (λ s fair same was. tick_any s fair _ was))

pub returns-in-Create : goal.returns-in-Create
returns-in-Create c = subst (λ (o : Op). OnOk c.play_create.result (Plays o (held_in c.args.truth.now) (held_in c.args.image.now) (held_in c.play_create.new.image))) (sym c.in-Create.is) (c.play_create.ensures (held_in c.args.truth.now))

pub returns-in-Write : goal.returns-in-Write
returns-in-Write c = subst (λ (o : Op). OnOk c.play_write.result (Plays o (held_in c.args.truth.now) (held_in c.args.image.now) (held_in c.play_write.new.image))) (sym c.in-Write.is) (c.play_write.ensures.written (held_in c.args.truth.now))

pub returns-in-Tear : goal.returns-in-Tear
returns-in-Tear c = subst (λ (o : Op). OnOk c.play_write-in-Tear.result (Plays o (held_in c.args.truth.now) (held_in c.args.image.now) (held_in c.play_write-in-Tear.new.image))) (sym c.in-Tear.is) (c.play_write-in-Tear.ensures.torn (held_in c.args.truth.now))

pub returns-in-Move : goal.returns-in-Move
returns-in-Move c = subst (λ (o : Op). OnOk c.play_move.result (Plays o (held_in c.args.truth.now) (held_in c.args.image.now) (held_in c.play_move.new.image))) (sym c.in-Move.is) (c.play_move.ensures (held_in c.args.truth.now))

pub returns-in-Unlink : goal.returns-in-Unlink
returns-in-Unlink c = subst (λ (o : Op). OnOk c.play_unlink.result (Plays o (held_in c.args.truth.now) (held_in c.args.image.now) (held_in c.play_unlink.new.image))) (sym c.in-Unlink.is) (c.play_unlink.ensures (held_in c.args.truth.now))

pub returns-in-Place : goal.returns-in-Place
returns-in-Place c = subst (λ (o : Op). OnOk c.play_place.result (Plays o (held_in c.args.truth.now) (held_in c.args.image.now) (held_in c.play_place.new.image))) (sym c.in-Place.is) (c.play_place.ensures (held_in c.args.truth.now))
