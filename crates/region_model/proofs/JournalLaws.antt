-- A journal stays one where a line is added, and where a line ends.
use Rattle.std.proofs.Common.{◌≡◌, ℕ, zero, suc, ◌+◌, ◌<◌, ◌≤◌, ◌⊎◌, ⊎_elim, inl, inr, List, [], ◌∷◌, ◌++◌, length, get_or, Contains, AllPairs, refl, sym, ap, ◌∙◌, subst, arith, length-append}
use Rattle.std.proofs.lemmas.List.{get_or_append_left}
use Rattle.std.proofs.Math.Seq.{get_or-append_seam}
use Rattle.std.proofs.lemmas.List.Elements.{Contains-push_cases, Contains-get_or}
use Rattle.cell_model.specs.Batch.{Batch}
use Rattle.cell_model.specs.Cell.{Cell}
use Rattle.region_model.specs.Journal.{Base, Caller, Outcome, Edit, Follows, InCallOrder, IsJournal}
use Rattle.region_model.specs.Lines.{Line, edit_in, edits_in, with_outcome, IsNextCall}
use Rattle.region_model.proofs.LineLaws.{edits_in-append, length-edits_in, AreAlike, alike_ended, length-with_outcome}

follows_end : (last : ℕ) (es : List Edit) (e : Edit) → Follows last es → e.entry.number ≡ last + length es + 1 → Follows last (es ++ e ∷ [])
follows_end last [] e f is = (omega arith, tt)
follows_end last (d ∷ es) e f is = (f.0, follows_end (last + 1) es e f.1 (omega arith))

-- the line of an edit
line_of : (r : ℕ) (xs : List Line) (e : Edit) → Contains (edits_in r xs) e → (x : Line) × Contains xs x × (e ≡ edit_in r x)
line_of r [] e c = let lt = c.1 in absurd (omega arith)
line_of r (x ∷ xs) e c = at c.0 c.1 c.2 (λ i lt is. line_of r xs e (i, lt, is))
  where
    at : (k : ℕ) → k < length (edits_in r (x ∷ xs)) → get_or (edits_in r (x ∷ xs)) k e ≡ e → ((i : ℕ) → i < length (edits_in r xs) → get_or (edits_in r xs) i e ≡ e → (y : Line) × Contains xs y × (e ≡ edit_in r y)) → (y : Line) × Contains (x ∷ xs) y × (e ≡ edit_in r y)
    at zero lt is rec = (x, (0, omega arith, refl), sym is)
    at (suc k) lt is rec = let t = rec k (omega arith) is in let within = t.1.1 in (t.0, (suc t.1.0, omega arith, t.1.2), t.2)

place : (k n : ℕ) → k < n + 1 → (k < n) ⊎ (k ≡ n)
place zero zero h = inr refl
place zero (suc n) h = inl (omega arith)
place (suc k) zero h = absurd (omega arith)
place (suc k) (suc n) h = ⊎_elim (λ (a : k < n). inl (omega arith)) (λ (e : k ≡ n). inr (ap suc e)) (place k n (omega arith))

pairs_end : (es : List Edit) (e : Edit) → AllPairs InCallOrder es → ((d : Edit) → Contains es d → InCallOrder d e) → AllPairs InCallOrder (es ++ e ∷ [])
pairs_end es e pairs last i j d lt within = ⊎_elim
    (λ (before : j < length es). let earlier : i < length es = omega arith in
    subst (λ (w : Edit). InCallOrder w (get_or (es ++ e ∷ []) j d)) (sym (get_or_append_left es (e ∷ []) d i earlier))
    (subst (λ (w : Edit). InCallOrder (get_or es i d) w) (sym (get_or_append_left es (e ∷ []) d j before)) (pairs i j d lt before)))
    (λ (there : j ≡ length es). let earlier : i < length es = omega arith in
    subst (λ (w : Edit). InCallOrder w (get_or (es ++ e ∷ []) j d)) (sym (get_or_append_left es (e ∷ []) d i earlier))
    (subst (λ (w : Edit). InCallOrder (get_or es i d) w) (sym (ap (λ (k : ℕ). get_or (es ++ e ∷ []) k d) there ∙ get_or-append_seam es e [] d)) (last (get_or es i d) (Contains-get_or es i d earlier))))
    (place j (length es) (let long = length-append es (e ∷ []) in omega arith))

-- a line is added
pub journal_begun : (r : ℕ) (base : Base) (xs : List Line) (x : Line) → IsJournal r base (edits_in r xs) → x.number ≡ base.last + length xs + 1 → 1 ≤ length x.batch.cells → IsNextCall x.caller xs
    → IsJournal r base (edits_in r (xs ++ x ∷ []))
journal_begun r base xs x journal number given next =
    subst (IsJournal r base) (sym (edits_in-append r xs (x ∷ []))) record {
      numbers = follows_end base.last (edits_in r xs) (edit_in r x) journal.numbers (number ∙ ap (λ (n : ℕ). base.last + n + 1) (sym (length-edits_in r xs)));
      callers = pairs_end (edits_in r xs) (edit_in r x) journal.callers (λ d c same.
          let t = line_of r xs d c in
          let before = next t.0 t.1 (sym (ap (λ (e : Edit). e.caller.handler) t.2) ∙ same) in
          subst (λ (e : Edit). e.caller.call < x.caller.call) (sym t.2) before);
      regions = λ e c. ⊎_elim (λ (was : Contains (edits_in r xs) e). journal.regions e was) (λ (new : edit_in r x ≡ e). sym (ap (λ (d : Edit). d.entry.region) new)) (Contains-push_cases (edits_in r xs) (edit_in r x) e c);
      given = λ e c. ⊎_elim (λ (was : Contains (edits_in r xs) e). journal.given e was) (λ (new : edit_in r x ≡ e). subst (λ (d : Edit). 1 ≤ length d.entry.batch.cells) new given) (Contains-push_cases (edits_in r xs) (edit_in r x) e c);
      upto = journal.upto;
    }

follows_alike : (r last : ℕ) (xs ys : List Line) → AreAlike xs ys → Follows last (edits_in r xs) → Follows last (edits_in r ys)
follows_alike r last [] [] alike f = tt
follows_alike r last [] (y ∷ ys) alike f = absurd alike
follows_alike r last (x ∷ xs) [] alike f = absurd alike
follows_alike r last (x ∷ xs) (y ∷ ys) alike f = (sym alike.0 ∙ f.0, follows_alike r (last + 1) xs ys alike.3 f.1)

alike_caller : (r : ℕ) (xs ys : List Line) (k : ℕ) (d : Edit) → AreAlike xs ys → (get_or (edits_in r ys) k d).caller ≡ (get_or (edits_in r xs) k d).caller
alike_caller r [] [] k d alike = refl
alike_caller r [] (y ∷ ys) k d alike = absurd alike
alike_caller r (x ∷ xs) [] k d alike = absurd alike
alike_caller r (x ∷ xs) (y ∷ ys) zero d alike = sym alike.1
alike_caller r (x ∷ xs) (y ∷ ys) (suc k) d alike = alike_caller r xs ys k d alike.3

alike_cells : (r : ℕ) (xs ys : List Line) (k : ℕ) (d : Edit) → AreAlike xs ys → (get_or (edits_in r ys) k d).entry.batch.cells ≡ (get_or (edits_in r xs) k d).entry.batch.cells
alike_cells r [] [] k d alike = refl
alike_cells r [] (y ∷ ys) k d alike = absurd alike
alike_cells r (x ∷ xs) [] k d alike = absurd alike
alike_cells r (x ∷ xs) (y ∷ ys) zero d alike = ap (λ (b : Batch). b.cells) (sym alike.2)
alike_cells r (x ∷ xs) (y ∷ ys) (suc k) d alike = alike_cells r xs ys k d alike.3

regions_in : (r : ℕ) (xs : List Line) (e : Edit) → Contains (edits_in r xs) e → e.entry.region ≡ r
regions_in r xs e c = ap (λ (d : Edit). d.entry.region) (line_of r xs e c).2

journal_alike : (r : ℕ) (base : Base) (xs ys : List Line) → AreAlike xs ys → length ys ≡ length xs → IsJournal r base (edits_in r xs) → IsJournal r base (edits_in r ys)
journal_alike r base xs ys alike long journal =
    let same : length (edits_in r ys) ≡ length (edits_in r xs) = length-edits_in r ys ∙ long ∙ sym (length-edits_in r xs) in
    record {
      numbers = follows_alike r base.last xs ys alike journal.numbers;
      callers = λ i j d lt within one.
          let ci = alike_caller r xs ys i d alike in
          let cj = alike_caller r xs ys j d alike in
          let before = journal.callers i j d lt (omega arith) (sym (ap (λ (c : Caller). c.handler) ci) ∙ one ∙ ap (λ (c : Caller). c.handler) cj) in
          subst (λ (c : Caller). c.call < (get_or (edits_in r ys) j d).caller.call) (sym ci) (subst (λ (c : Caller). (get_or (edits_in r xs) i d).caller.call < c.call) (sym cj) before);
      regions = regions_in r ys;
      given = λ e c.
          let within : c.0 < length (edits_in r xs) = let lt = c.1 in omega arith in
          let cells = ap (λ (d : Edit). d.entry.batch.cells) (sym c.2) ∙ alike_cells r xs ys c.0 e alike in
          subst (λ (cs : List Cell). 1 ≤ length cs) (sym cells) (journal.given (get_or (edits_in r xs) c.0 e) (Contains-get_or (edits_in r xs) c.0 e within));
      upto = journal.upto;
    }

-- a line ends
pub journal_ended : (r : ℕ) (base : Base) (xs : List Line) (n : ℕ) (o : Outcome) → IsJournal r base (edits_in r xs) → IsJournal r base (edits_in r (with_outcome n o xs))
journal_ended r base xs n o = journal_alike r base xs (with_outcome n o xs) (alike_ended n o xs) (length-with_outcome n o xs)
