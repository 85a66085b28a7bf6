-- One thread that makes the calls of the history answers so, and leaves the edits.
use Rattle.std.proofs.Common.{◌≡◌, ℕ, ◌+◌, List, [], ◌∷◌, ◌++◌, Contains, refl, sym, ap, ◌∙◌, subst, arith, append_assoc, append-nil, length-append}
use Rattle.std.proofs.lemmas.List.Elements.{Contains-append_right}
use Rattle.region_model.specs.Journal.{Base, Edit, Follows, IsJournal, last_of, visible}
use Rattle.region_model.specs.Calls.{Scanned, Reply, viewed}
use Rattle.region_model.specs.Lawful.{IsEditOf, IsLawful}
use Rattle.region_model.specs.OneThread.{Step, Puts, Scans, Run}
use Rattle.serial_history.proofs.Lists.{contains_cons}
use Rattle.serial_history.proofs.Positions.{scans_at, is_scan_in, is_reply}
use Rattle.serial_history.proofs.Views.{same_view, next_number}
use Rattle.serial_history.proofs.Making.{AreMade, history_from}

-- one run, and then another from where it ended
pub run_append : (r : ℕ) (base : Base) (old mid new : List Edit) (xs ys : List Reply) → Run r base old xs mid → Run r base mid ys new → Run r base old (xs ++ ys) new
run_append r base old mid new [] ys first then = subst (λ z. Run r base z ys new) first then
run_append r base old mid new (x ∷ xs) ys first then = (first.0, first.1, run_append r base first.0 mid new xs ys first.2 then)

-- scans that each see all done edits change nothing
pub run_scans : (r : ℕ) (base : Base) (old : List Edit) (xs : List Reply) → ((x : Reply) → Contains xs x → Step r base old x old) → Run r base old xs old
run_scans r base old [] each = refl
run_scans r base old (x ∷ xs) each = (old, each x (0, omega arith, refl), run_scans r base old xs (λ y is. each y (contains_cons x xs y is)))

module _ (r : ℕ) (base : Base) (edits : List Edit) (replies : List Reply) (journal : IsJournal r base edits) (law : IsLawful r base edits replies) where
  -- a scan that read at the last of the first edits is what one thread answers that has made these
  scan_step : (old rest : List Edit) → edits ≡ old ++ rest → (x : Reply) → Contains (scans_at r (last_of base.last old) replies) x → Step r base old x old
  scan_step old rest parts x is =
      let scan = is_scan_in r (last_of base.last old) replies x is in
      let seen = law.scans x scan.view scan.from scan.to (last_of base.last old) scan.cells (is_reply r (last_of base.last old) replies x is) scan.call scan.answer in
      let here = seen.2 ∙ ap (λ (es : List Edit). viewed scan.view (visible base.content es (last_of base.last old) scan.from scan.to)) parts
      ∙ ap (viewed scan.view) (same_view base old rest scan.from scan.to (subst (λ (es : List Edit). Follows base.last es) parts journal.numbers)) in
      Scans scan.view scan.from scan.to scan.call (scan.answer ∙ ap (λ cells. Scanned (last_of base.last old) cells) here) refl

  put_step : (old : List Edit) (e : Edit) (rest : List Edit) (p : Reply) → edits ≡ old ++ e ∷ rest → IsEditOf p e → Step r base old p (old ++ e ∷ [])
  put_step old e rest p parts made =
      Puts e made
      (journal.regions e (subst (λ es. Contains es e) (sym parts) (Contains-append_right old (e ∷ rest) e (0, omega arith, refl))))
      (next_number base.last old e rest (subst (λ (es : List Edit). Follows base.last es) parts journal.numbers))
      refl

  -- from the first edits on, the puts of the others and the scans among them
  pub runs : (old es : List Edit) (ps : List Reply) → edits ≡ old ++ es → AreMade replies es ps → Run r base old (history_from r replies (last_of base.last old) ps) edits
  runs old [] [] parts made =
      subst (Run r base old (scans_at r (last_of base.last old) replies)) (sym (parts ∙ append-nil old)) (run_scans r base old (scans_at r (last_of base.last old) replies) (scan_step old [] parts))
  runs old [] (p ∷ ps) parts made = absurd made
  runs old (e ∷ es) [] parts made = absurd made
  runs old (e ∷ es) (p ∷ ps) parts made =
      let next : last_of base.last (old ++ e ∷ []) ≡ last_of base.last old + 1 = omega (arith, length-append old (e ∷ [])) in
      let rest = runs (old ++ e ∷ []) es ps (parts ∙ sym (append_assoc old (e ∷ []) es)) made.2 in
      run_append r base old old edits (scans_at r (last_of base.last old) replies) (p ∷ history_from r replies (last_of base.last old + 1) ps)
      (run_scans r base old (scans_at r (last_of base.last old) replies) (scan_step old (e ∷ es) parts))
      (old ++ e ∷ [], put_step old e es p parts made.1, subst (λ n. Run r base (old ++ e ∷ []) (history_from r replies n ps) edits) next rest)
