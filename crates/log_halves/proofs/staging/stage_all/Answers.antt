use Rattle.std.proofs.Common.{◌≡◌, ℕ, List, [], ◌∷◌, ◌++◌, length, refl, sym, ap, ◌∙◌, subst, arith, append_assoc}
use Rattle.std.proofs.Math.Logic.{∥∥₁_map}
use Rattle.std.proofs.lemmas.List.{append-nil}
use Rattle.log_model.specs.Entry.{Entry}
use Rattle.log_file.specs.Open.{OpenLog}
use Rattle.log_trucks.specs.Held.{Held, held_of, AreHeld}
use Rattle.log_device.specs.Whole.{IsWhole, disk_of, numbers_of}
use Rattle.log_device.proofs.Whole.{some_file}
use Rattle.log_device.proofs.Numbering.{same_file}
use Rattle.log_halves.specs.Trucks.{AreSpelled, FollowOn, onward, size_of, come_to}
use Rattle.log_halves.specs.Commits.{all_staged_in, AreServed, drawn_in}
use Rattle.log_halves.proofs.Staged.{come_same, follow_same, served_still, staged_more, staged_none, held_none, held_head}
use Rattle.log_halves.proofs.staging.stage_all.Goals as goal

pub loop-truck-init : goal.loop-truck-init
loop-truck-init g c = record {
  unbroken = c.requires.unbroken;
  served = c.requires.served;
  spelled = c.requires.spelled;
  rising = c.requires.rising;
  room = c.requires.room;
  whole = λ told h es whole held. ([], es, refl, held, subst (IsWhole c.args.device.now (g.D.Disk.view (disk_of c.args.device.now))) (sym (staged_none h)) whole);
  disk = refl;
  file = λ file is. (file, is, refl, refl);
  drawn = λ r. refl;
  same = record { synced = refl; stored = refl; closed = refl; next_store = refl; few = λ limit few. few };
}

pub stage-requires-clause-entry : goal.stage-requires-clause-entry
stage-requires-clause-entry g c =
    let was = c.loop-truck.invariant in
    ∥∥₁_map (subst AreSpelled c.in-Some.ensures.first was.spelled).0 (λ x. (x.0, record { entry = x.1.entry; bytes = x.1.bytes; region = x.1.region; number = x.1.number; families = x.1.families }))

pub unreachable-requires : goal.unreachable-requires
unreachable-requires g c =
    let was = c.loop-truck.invariant in
    let f = some_file c.loop-truck.device was.unbroken in
    let over = (c.in-Err.ensures.full f.0 f.1).0 refl in
    let room = was.room f.0 f.1 in
    let size = ap size_of c.in-Some.ensures.first in
    absurd (omega (arith, over, room, size))

pub loop-truck-preserved : goal.loop-truck-preserved
loop-truck-preserved g c =
    let was = c.loop-truck.invariant in
    let old = c.loop-truck.device in
    let new = c.stage.new.self in
    let lone : Held = held_of c.in-Some.truck.value in
    let next : List Held = c.pop.new.self in
    let here : c.loop-truck.rest ≡ lone ∷ next = c.in-Some.ensures.first in
    let ok = c.in-Ok.ensures in
    let f = some_file old was.unbroken in
    let staged = ok.numbers.file f.0 f.1 in
    let drawn : (r : ℕ) → drawn_in (numbers_of new) r ≡ onward (drawn_in (numbers_of old)) lone r = ok.numbers.drawn_at in
    let rising = subst (FollowOn was.rising.0 (drawn_in (numbers_of old))) here was.rising.1 in
    record {
      unbroken = λ broken. absurd (cc (sym broken ∙ staged.is));
      served = served_still (numbers_of old) (numbers_of new) ok.numbers.next_store next (subst (AreServed (numbers_of old)) here was.served).1;
      spelled = (subst AreSpelled here was.spelled).1;
      rising = (was.rising.0, follow_same was.rising.0 (onward (drawn_in (numbers_of old)) lone) (drawn_in (numbers_of new)) (λ r. sym (drawn r)) next rising.1);
      room = λ file is.
          let now = ap (λ (x : OpenLog). length x.bytes) (same_file staged.now file (sym staged.is ∙ is)) in
          let size = ap size_of here in
          omega (arith, now, size, staged.bytes, was.room f.0 f.1);
      whole = λ told h es whole held.
          let w = was.whole told h es whole held in
          let head = held_head lone next w.1 (subst (λ (l : List Held). AreHeld l w.1) here w.3) in
          let split = w.2 ∙ (ap (λ (l : List Entry). w.0 ++ l) head.2 ∙ sym (append_assoc w.0 (head.0 ∷ []) head.1)) in
          let more = (ok.stages told (all_staged_in h w.0) w.4).staged head.0 head.3.entry head.3.bytes (sym head.3.region) (sym head.3.number) in
          (w.0 ++ head.0 ∷ [], head.1, split, head.4, subst (IsWhole new (g.D.Disk.view (disk_of new))) (staged_more h w.0 head.0) more);
      disk = ok.numbers.disk ∙ was.disk;
      file = λ file is.
          let w = was.file file is in
          let s = ok.numbers.file w.0 w.1 in
          let len = ap length here in
          (s.now, s.is, omega (arith, s.staged, w.2, len), s.name ∙ w.3);
      drawn = λ r. come_same (drawn_in (numbers_of new)) (onward (drawn_in (numbers_of old)) lone) drawn next r ∙ (ap (λ (l : List Held). come_to (drawn_in (numbers_of old)) l r) (sym here) ∙ was.drawn r);
      same = record { synced = ok.numbers.synced ∙ was.same.synced; stored = ok.numbers.stored ∙ was.same.stored; closed = ok.numbers.closed ∙ was.same.closed; next_store = ok.numbers.next_store ∙ was.same.next_store; few = λ limit few. ok.numbers.few limit (was.same.few limit few) };
    }

pub returns-clause-whole : goal.returns-clause-whole
returns-clause-whole g c told h es whole held =
    let d = c.loop-truck.device in
    let w = c.loop-truck.invariant.whole told h es whole held in
    let none = held_none w.1 (subst (λ (l : List Held). AreHeld l w.1) c.in_default.ensures.first.0 w.3) in
    let all = w.2 ∙ (ap (λ (l : List Entry). w.0 ++ l) none ∙ append-nil w.0) in
    subst (λ (l : List Entry). IsWhole d (g.D.Disk.view (disk_of d)) (all_staged_in h l)) (sym all) w.4
