use Rattle.std.proofs.Common.{◌≡◌, ◌+◌, ◌≤◌, ℕ, List, [], ◌∷◌, map, get_or, set, ap, ◌∙◌, subst, sym}
use Rattle.std.specs.Prelude.{sum}
use Rattle.std.proofs.Math.Bool.{Bool-set}
use Rattle.std.proofs.Math.Logic.{∥∥₁_elim}
use Rattle.cell_model.specs.Cell.{Cell}
use Rattle.log_model.specs.Entry.{Entry}
use Rattle.entry_frame.proofs.SpellingLaws.{one_entry}
use Rattle.seq_accounting.specs.Marks.{has_family}
use Rattle.seq_accounting.specs.Steps.{IsNoted}
use Rattle.seq_accounting.specs.Noted.{HasNoted, AreNotedAs}
use Rattle.log_trucks.specs.Held.{Haul, held_of, noted_of}
use Rattle.log_ledger.specs.Numbers.{Numbers, AreInOrder}
use Rattle.log_ledger.proofs.DrawnSums.{drawn_grow}
use Rattle.log_ledger.proofs.Few.{few_staged}
use Rattle.log_ledger.proofs.Steps.{StagedBy, flushed_same}
use Rattle.log_ledger.proofs.Staged.{counted_staged}
use Rattle.log_ledger.proofs.Orders.{order_staged}
use Rattle.log_ledger.proofs.ledger.Ledger.stage.Goals as goal

-- the ledger's numbers after the call
abbrev after : goal.After-push → Numbers
after c = record {
  drawn = set c.self.inside.drawn c.behind-truck.inside.region c.behind-truck-2.inside.number;
  synced = c.self.inside.synced;
  stored = c.self.inside.stored;
  closed = c.self.inside.closed;
  next_store = c.self.inside.next_store;
  accounts = c.note.new.self;
  chains = c.push.new.self;
}

staged : (c : goal.After-push) → StagedBy c.args.self.now (after c) c.args.truck.value
staged c =
    let was = c.self.view_is in
    let t : Haul = c.args.truck.value in
    let region : c.behind-truck.inside.region ≡ c.args.truck.value.region = ap (λ (t : Haul). t.region) (c.behind-truck.view_is ∙ c.deref.ensures) in
    let number : c.behind-truck-2.inside.number ≡ c.args.truck.value.number = ap (λ (t : Haul). t.number) (c.behind-truck-2.view_is ∙ c.deref-2.ensures) in
    let families : c.take_marks-marks.result ≡ c.args.truck.value.families = c.take_marks-marks.ensures.taken ∙ ap (λ (t : Haul). t.families) c.deref_mut.ensures.value in
    let left : c.take_marks-marks.new.self ≡ record c.args.truck.value { families = [] } = c.take_marks-marks.ensures.left ∙ ap (λ (t : Haul). record t { families = [] }) c.deref_mut.ensures.value in
    record {
      drawn = λ i. set (was i).drawn (region i) (number i);
      synced = λ i. (was i).synced;
      stored = λ i. (was i).stored;
      closed = λ i. (was i).closed;
      next_store = λ i. (was i).next_store;
      noted = subst (λ (fs : List (List ℕ)). IsNoted c.args.self.now.accounts c.note.new.self t.region t.number fs) families
          (subst (λ (n : ℕ). IsNoted c.args.self.now.accounts c.note.new.self t.region n c.take_marks-marks.result) number
          (subst (λ (r : ℕ). IsNoted c.args.self.now.accounts c.note.new.self r c.behind-truck-2.inside.number c.take_marks-marks.result) region
          (subst (λ (b : Numbers). IsNoted b.accounts c.note.new.self c.behind-truck.inside.region c.behind-truck-2.inside.number c.take_marks-marks.result) was c.note.ensures.noted)));
      history = λ notes x as_one noted. c.note.ensures.history notes x
          (subst (λ (fs : List (List ℕ)). AreNotedAs fs c.behind-truck.inside.region c.behind-truck-2.inside.number x) (sym families)
          (subst (λ (n : ℕ). AreNotedAs t.families c.behind-truck.inside.region n x) (sym number) (subst (λ (r : ℕ). AreNotedAs t.families r t.number x) (sym region) as_one)))
          (subst (λ (b : Numbers). HasNoted b.accounts notes) (sym was) noted);
      order = c.note.ensures.order;
      chains = c.push.ensures.pushed ∙ (λ i. set c.self.inside.chains (left i).region (held_of (left i) ∷ get_or c.self.inside.chains (left i).region []))
          ∙ (λ i. set (was i).chains t.region (noted_of t ∷ get_or (was i).chains t.region []));
    }

pub invariant_of-self : goal.invariant_of-self
invariant_of-self c =
    order_staged c.args.self.now (after c) c.args.truck.value (subst AreInOrder c.self.view_is c.self.invariant) (staged c) c.requires.served c.requires.above c.requires.entry

pub returns-clause-counted : goal.returns-clause-counted
returns-clause-counted c h e counted is bytes region number =
    counted_staged c.args.self.now (after c) c.args.truck.value h e (subst AreInOrder c.self.view_is c.self.invariant) (staged c) c.requires.served c.requires.above counted (record {
      entry = is;
      bytes = bytes;
      region = region;
      number = number;
      families = λ f. ∥∥₁_elim c.requires.entry (Bool-set (has_family c.args.truck.value.families f) (has_family (map (λ (d : Cell). d.family) e.batch.cells) f))
          (λ x. subst (λ (d : Entry). has_family c.args.truck.value.families f ≡ has_family (map (λ (k : Cell). k.family) d.batch.cells) f) (one_entry x.0 e x.1.entry is (sym x.1.bytes ∙ bytes)) (x.1.families f));
    })

pub returns-clause-few : goal.returns-clause-few
returns-clause-few c limit few =
    few_staged limit c.args.self.now (after c) c.args.truck.value (subst AreInOrder c.self.view_is c.self.invariant) (staged c) c.requires.served c.requires.above c.requires.entry few

pub returns-clause-grows : goal.returns-clause-grows
returns-clause-grows c =
    subst (λ (xs : List ℕ). sum c.args.self.now.drawn + 1 ≤ sum xs) (sym (staged c).drawn)
    (drawn_grow c.args.self.now c.args.truck.value.region c.args.truck.value.number (subst AreInOrder c.self.view_is c.self.invariant) c.requires.served c.requires.above)

pub returns-clause-drawn : goal.returns-clause-drawn
returns-clause-drawn c = (staged c).drawn

pub returns-clause-synced : goal.returns-clause-synced
returns-clause-synced c = (staged c).synced

pub returns-clause-stored : goal.returns-clause-stored
returns-clause-stored c = (staged c).stored

pub returns-clause-closed : goal.returns-clause-closed
returns-clause-closed c = (staged c).closed

pub returns-clause-next_store : goal.returns-clause-next_store
returns-clause-next_store c = (staged c).next_store

pub returns-clause-flushed : goal.returns-clause-flushed
returns-clause-flushed c = flushed_same c.args.self.now.accounts c.note.new.self (staged c).noted.flushed

pub returns-clause-files : goal.returns-clause-files
returns-clause-files c = (staged c).noted.files
