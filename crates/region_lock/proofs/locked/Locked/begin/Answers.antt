use Rattle.std.proofs.Common.{◌≡◌, ℕ, ◌+◌, ◌-◌, ◌^◌, ◌<◌, ◌≤◌, List, [], ◌∷◌, ◌++◌, length, get_or, Some, refl, sym, ap, ◌∙◌, subst}
use Rattle.hand_register.specs.Desks.{with_value}
use Rattle.region_model.specs.Journal.{Follows}
use Rattle.region_model.specs.Lines.{Line, edits_in}
use Rattle.region_state.specs.States.{State, write_point}
use Rattle.region_lock.specs.Parts.{Part}
use Rattle.log_trucks.specs.Held.{Haul, IsHeld, held_of}
use Rattle.log_service.specs.log_halves.declared.item.Item.TheVariants as items
use Rattle.region_lock.specs.Jobs.{IsJob, line_of, entry_under}
use Rattle.region_lock.proofs.Lists.{length_set}
use Rattle.region_lock.proofs.Numbers.{place_back, next_is_one, next_within, below_same}
use Rattle.region_lock.proofs.Ties.{next_call, own_upto, follows_front}
use Rattle.region_lock.proofs.Parts.{part_begun, spelled, kept, came_back, last_is}
use Rattle.region_lock.proofs.Shows.{shown_begun}
use Rattle.region_lock.proofs.locked.Locked.begin.Goals as goal

pub append-requires-clause-whole : goal.append-requires-clause-whole
append-requires-clause-whole g c =
    let n = c.write_point-number.result + 1 in
    let limit : write_point c.self.inside.state + 1 < 2 ^ 48 = subst (λ (p : Part). write_point p.state + 1 < 2 ^ 48) (sym c.self.view_is) c.requires.number in
    spelled c.args.self.now.state.region n c.args.job _ _ c.requires.job c.deref_mut.ensures.value c.stamp.ensures.truck c.stamp.ensures.bytes (next_is_one c.write_point-number.result n refl)
    (next_within c.write_point-number.result (write_point c.self.inside.state) n refl (sym c.write_point-number.ensures.point) limit)

pub begin_edit-entry-requires-clause-call : goal.begin_edit-entry-requires-clause-call
begin_edit-entry-requires-clause-call g c x is same =
    let h = c.args.hand.now.number in
    let given : 1 ≤ h = c.meet.ensures.given in
    let k : h - 1 + 1 ≡ h = place_back h given in
    next_call c.self.inside.desk.records c.self.inside.state.lines (h - 1) c.args.job.caller.call c.args.hand.now.record c.self.invariant.0.own c.meet.ensures.met c.requires.caller.1 x is (same ∙ c.requires.caller.0 ∙ sym k)

pub invariant_of-self : goal.invariant_of-self
invariant_of-self g c =
    let i = c.self.invariant in
    let s : State = c.self.inside.state in
    let j = c.args.job in
    let h = c.args.hand.now.number in
    let given : 1 ≤ h = c.meet.ensures.given in
    let k : h - 1 + 1 ≡ h = place_back h given in
    let n = write_point s + 1 in
    let x : Line = line_of n j in
    let job : IsJob s.region j = subst (λ (p : Part). IsJob p.state.region j) (sym c.self.view_is) c.requires.job in
    let limit : n < 2 ^ 48 = subst (λ (p : Part). write_point p.state + 1 < 2 ^ 48) (sym c.self.view_is) c.requires.number in
    let drawn : c.write_point-number.result + 1 ≡ n = ap (λ (m : ℕ). m + 1) c.write_point-number.ensures.point in
    let held : IsHeld (held_of c.stamp.new.truck) (entry_under s.region n j) = subst (λ (m : ℕ). IsHeld (held_of c.stamp.new.truck) (entry_under s.region m j)) drawn (kept s.region (c.write_point-number.result + 1) j c.deref_mut.result.now c.stamp.new.truck job c.deref_mut.ensures.value c.stamp.ensures.truck c.stamp.ensures.bytes (next_is_one c.write_point-number.result (c.write_point-number.result + 1) refl) (next_within c.write_point-number.result (write_point s) (c.write_point-number.result + 1) refl (sym c.write_point-number.ensures.point) limit)) in
    let number : Some c.stamp.new.truck.number ≡ Some n = ap (λ (t : Haul). Some t.number) c.stamp.ensures.truck ∙ ap Some drawn in
    let lines : c.journal-lines.result.now ≡ s.lines ++ x ∷ [] = c.journal-lines.ensures.lines ∙ ap (λ (t : State). t.lines) c.begin_edit-entry.ensures.lines in
    let added : c.index-lines-lines.result ≡ x = c.index-lines-lines.is ∙ ap (λ (l : List Line). get_or l (length l - 1) c.index-lines-lines.result) lines ∙ last_is s.lines x c.index-lines-lines.result in
    let p = part_begun _ s.region s.base s.lines _ _ _ c.self.inside.pass c.append.new.pass (h - 1) c.args.hand.now.record x _ i.0 c.in-Ok.ensures.pushed c.append.ensures.same.1 c.meet.ensures.met (c.requires.caller.0 ∙ sym k) refl
    (held, tt) number in
    rw (c.begin_edit-entry.ensures.lines, c.add.ensures.desk, c.add.ensures.hand, added, c.meet.ensures.same.0, c.meet.ensures.same.1, c.meet.ensures.still.0) (
      p,
      record {
        desk = c.add.ensures.still.2 ∙ c.meet.ensures.still.2 ∙ i.1.desk;
        spent = i.1.spent;
        ring = c.append.ensures.same.0 ∙ i.1.ring;
        region = c.append.ensures.same.1 ∙ i.1.region;
        known = i.1.known;
        hands = length_set c.self.inside.desk.records (h - 1) (with_value c.args.hand.now.record x) ∙ i.1.hands;
      },
      shown_begun s.region s.lines (x ∷ []) _ _ i.2,
    )

pub returns-in-Ok-clause-begun : goal.returns-in-Ok-clause-begun
returns-in-Ok-clause-begun g c =
    let i = c.self.invariant in
    let s : State = c.self.inside.state in
    let j = c.args.job in
    let x : Line = line_of (write_point s + 1) j in
    let e = c.begin_edit-entry.result in
    let drew : e ≡ write_point s + 1 = c.begin_edit-entry.ensures.number in
    let lines : c.journal-lines.result.now ≡ s.lines ++ x ∷ [] = c.journal-lines.ensures.lines ∙ ap (λ (t : State). t.lines) c.begin_edit-entry.ensures.lines in
    let added : c.index-lines-lines.result ≡ x = c.index-lines-lines.is ∙ ap (λ (l : List Line). get_or l (length l - 1) c.index-lines-lines.result) lines ∙ last_is s.lines x c.index-lines-lines.result in
    let back : write_point s + 1 ≡ e = sym drew in
    let room : s.room - 1 ≡ c.begin_edit-entry.new.self.room = sym (ap (λ (t : State). t.room) c.begin_edit-entry.ensures.lines) in
    let now : c.begin_edit-entry.new.self ≡ record s { lines = s.lines ++ line_of e j ∷ []; room = c.begin_edit-entry.new.self.room } =
    c.begin_edit-entry.ensures.lines ∙ (λ d. record s { lines = s.lines ++ line_of (back d) j ∷ []; room = room d }) in
    let hand : c.add.new.hand.record ≡ with_value c.args.hand.now.record (line_of e j) =
    c.add.ensures.hand ∙ (λ i. with_value (c.meet.ensures.same.1 i) ((added ∙ ap (λ (m : ℕ). line_of m j) (sym drew)) i)) in
    let st = c.begin_edit-entry.ensures.lines in
    let all : Follows s.base.last (edits_in s.region (s.lines ++ x ∷ [])) = subst (λ (t : State). Follows t.base.last (edits_in t.region t.lines)) st c.journal-lines.ensures.journal.numbers in
    let below = own_upto s.region s.base.last (c.args.hand.now.number - 1) c.self.inside.desk.records s.lines c.args.hand.now.record (follows_front s.region s.base.last s.lines (x ∷ []) all) i.0.own c.meet.ensures.met in
    rw (← c.self.view_is) (drew, ap (λ (t : State). record { state = t; mark = c.self.inside.mark }) now, hand, (λ y is. below_same y.number (write_point s + 1) e (below y is) drew))

pub returns-in-Err-clause-begun : goal.returns-in-Err-clause-begun
returns-in-Err-clause-begun g c =
    let limit : write_point c.self.inside.state + 1 < 2 ^ 48 = subst (λ (p : Part). write_point p.state + 1 < 2 ^ 48) (sym c.self.view_is) c.requires.number in
    let job = came_back c.args.self.now.state.region (c.write_point-number.result + 1) c.args.job c.deref_mut.result.now c.stamp.new.truck c.in-Err.truck _ c.in-Err.ensures.pushed.0 refl
    c.requires.job c.deref_mut.ensures.value c.stamp.ensures.truck c.stamp.ensures.bytes (next_is_one c.write_point-number.result (c.write_point-number.result + 1) refl)
    (next_within c.write_point-number.result (write_point c.self.inside.state) (c.write_point-number.result + 1) refl (sym c.write_point-number.ensures.point) limit) in
    (c.self.view_is, search, (job, refl))
