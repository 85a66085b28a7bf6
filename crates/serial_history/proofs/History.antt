-- Lawful replies are a history of one thread.
use Rattle.std.proofs.Common.{◌≡◌, ℕ, List, [], Contains, refl, sym, ◌∙◌, subst, arith, inl, inr}
use Rattle.region_model.specs.Journal.{Base, Edit, IsJournal, last_of}
use Rattle.region_model.specs.Calls.{Reply, IsAnswerTo}
use Rattle.region_model.specs.Lawful.{IsLawful}
use Rattle.region_model.specs.OneThread.{Run}
use Rattle.serial_history.specs.History.{HasPosition, AreTwoCalls, ArePlaced, AreNumbered, IsHistory}
use Rattle.serial_history.proofs.Lists.{pairs_all, pairs_weaker}
use Rattle.serial_history.proofs.Positions.{kinds, scan_of}
use Rattle.serial_history.proofs.Calls.{one_reply}
use Rattle.serial_history.proofs.Making.{AreMade, makers, history_from, IsBehind, scan_at, members, scan_is_in, maker_is_in, length_made, AreHandled, all_apart}
use Rattle.serial_history.proofs.Running.{runs}

is_among : (r last : ℕ) (replies : List Reply) (x : Reply) → IsBehind r replies last x → Contains replies x × HasPosition r x
is_among r last replies x (inl put) = (put.2.among, record { on = put.2.on; position = put.0; is = put.2.is })
is_among r last replies x (inr scan) = let at = scan_at r replies scan.0 x scan.2 scan.3 in (at.among, record { on = at.on; position = scan.0; is = at.is })

module _ (r : ℕ) (base : Base) (edits : List Edit) (replies : List Reply) (journal : IsJournal r base edits) (law : IsLawful r base edits replies) where
  -- each put that drew a sequence id, and each scan that was answered
  whole : (ps : List Reply) → AreMade replies edits ps → (x : Reply) → Contains replies x → HasPosition r x → Contains (history_from r replies base.last ps) x
  whole ps made x is has = elim (kinds x.answer has.position has.is) [
    | inl number ↦
        let e = law.puts x has.position is has.on number in
        let p = maker_is_in r replies base.last edits ps made e.0 e.1 in
        let one = one_reply r base edits replies journal law p.0 x p.2 is (sym p.3.handler ∙ e.3.handler) (sym p.3.call ∙ e.3.call) in
        subst (Contains (history_from r replies base.last ps)) one p.1
    | inr scan ↦
        let call = scan_of r x.call has.position scan.0 has.on (subst (IsAnswerTo x.call) scan.1 (law.answers x is)) in
        let seen = law.scans x call.0 call.1 call.2 has.position scan.0 is call.3 scan.1 in
        scan_is_in r replies base.last has.position ps x seen.0 (omega (arith, seen.1, length_made replies edits ps made)) is
        record { view = call.0; from = call.1; to = call.2; call = call.3; cells = scan.0; answer = scan.1 }
  ]

  pub history_of : (history : List Reply) × IsHistory r base edits replies history
  history_of =
      let m = makers replies edits law.told in
      let apart = all_apart r base edits replies journal law base.last edits m.0 journal.regions journal.numbers m.1 in
      let history = history_from r replies base.last m.0 in
      let start : last_of base.last [] ≡ base.last = omega arith in (
        history,
        record {
          runs = subst (λ n. Run r base [] (history_from r replies n m.0) edits) start (runs r base edits replies journal law [] edits m.0 refl m.1);
          from = λ x is. is_among r base.last replies x (members r replies base.last edits m.0 journal.regions journal.numbers m.1 x is);
          whole = whole m.0 m.1;
          once = pairs_all AreTwoCalls history (pairs_weaker AreHandled AreTwoCalls history (λ a b h same. (h same).once) apart);
          in_order = pairs_all ArePlaced history (pairs_weaker AreHandled ArePlaced history (λ a b h same. (h same).placed) apart);
          puts_in_order = pairs_all AreNumbered history (pairs_weaker AreHandled AreNumbered history (λ a b h same. (h same).numbered) apart);
        },
      )
