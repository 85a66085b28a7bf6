-- What holds of a region's state goes on to hold.
use Rattle.std.proofs.Common.{◌≡◌, ℕ, zero, suc, ◌+◌, ◌-◌, ◌<◌, ◌≤◌, ◌^◌, Bool, true, List, [], ◌∷◌, ◌++◌, length, map, filter, take, drop, get_or, set, refl, sym, ap, ◌∙◌, subst, arith}
use Rattle.std.specs.List.{AllPass}
use Rattle.std.proofs.lemmas.List.{map-set}
use Rattle.std.proofs.Math.Seq.{map-set_same}
use Rattle.cell_model.specs.Order.{Content}
use Rattle.region_model.specs.Journal.{Base, Outcome, Pending, Follows, IsJournal, IsPoint, is_completed}
use Rattle.region_model.specs.Lines.{Line, edits_in, is_completed_line, completed_in, done_in, with_outcome, put_lines, last_in, IsNextCall}
use Rattle.region_model.proofs.LineLaws.{set_outcome, length-with_outcome}
use Rattle.region_model.proofs.JournalLaws.{journal_begun, journal_ended}
use Rattle.write_queue.specs.Numbers.{Numbers, completed, completed_behind, begun, with_completed, IsOut}
use Rattle.region_state.specs.Layers.{cells_alone, taken, AreLayers}
use Rattle.region_state.specs.Outcomes.{outcome_at_end}
use Rattle.region_state.specs.declared.line.Ended.{Ended}
use Rattle.region_state.specs.declared.line.Ended.TheVariants as end
use Rattle.cell_model.specs.Join.{joined}
use Rattle.region_model.specs.Journal.{visible, is_in_range}
use Rattle.region_model.proofs.VisibleLaws.{visible_lines}
use Rattle.cell_model.specs.Order.{cells_of}
use Rattle.region_state.specs.Versions.{Shown, shown_at, shown_content, IsShown}
use Rattle.region_state.specs.States.{marks, IsRegion}
use Rattle.region_state.proofs.LayerLaws.{waiting_le}
use Rattle.region_state.proofs.MarkTies.{same_completed, all_completed, point_within, IsAt, length_take, mark_out, behind_front}

map_append : {A B : Type 0} (f : A → B) (xs ys : List A) → map f (xs ++ ys) ≡ map f xs ++ map f ys
map_append f [] ys = refl
map_append f (x ∷ xs) ys = (λ i. f x ∷ map_append f xs ys i)

drop_push : (xs : List Line) (t : ℕ) (x : Line) → t ≤ length xs → drop t (xs ++ x ∷ []) ≡ drop t xs ++ x ∷ []
drop_push [] zero x le = refl
drop_push [] (suc t) x le = absurd (omega arith)
drop_push (y ∷ xs) zero x le = refl
drop_push (y ∷ xs) (suc t) x le = drop_push xs t x (omega arith)

take_push : (xs : List Line) (t : ℕ) (x : Line) → t ≤ length xs → take t (xs ++ x ∷ []) ≡ take t xs
take_push [] zero x le = refl
take_push [] (suc t) x le = absurd (omega arith)
take_push (y ∷ xs) zero x le = refl
take_push (y ∷ xs) (suc t) x le = (λ i. y ∷ take_push xs t x (omega arith) i)

length_push : {A : Type 0} (xs : List A) (x : A) → length (xs ++ x ∷ []) ≡ suc (length xs)
length_push [] x = refl
length_push (y ∷ xs) x = ap suc (length_push xs x)

-- a line begins
pub region_begun : (r : ℕ) (base : Base) (lines : List Line) (queue : Numbers) (merged : Content) (waiting : List Content) (x : Line) (new : Content) → IsRegion r base lines queue merged waiting
    → x.number ≡ last_in base lines + 1 → last_in base lines + 1 < 2 ^ 48 → x.outcome ≡ Pending → 1 ≤ length x.batch.cells → IsNextCall x.caller lines → new ≡ cells_alone x
    → IsRegion r base (lines ++ x ∷ []) (begun queue) merged (waiting ++ new ∷ [])
region_begun r base lines queue merged waiting x new is number limit outcome given next alone =
    let le = waiting_le lines waiting is.layers.waits in
    let l = length_push lines x in
    let w = length_push waiting new in
    let t = taken lines waiting in
    let same : taken (lines ++ x ∷ []) (waiting ++ new ∷ []) ≡ t = omega arith in
    let short : t ≤ length lines = omega arith in
    let front : take (taken (lines ++ x ∷ []) (waiting ++ new ∷ [])) (lines ++ x ∷ []) ≡ take t lines = ap (λ (k : ℕ). take k (lines ++ x ∷ [])) same ∙ take_push lines t x short in
    record {
      journal = journal_begun r base lines x is.journal number given next;
      limit = omega arith;
      numbers = ap begun is.numbers ∙ ap (λ (d : List Bool). record { last = base.last; done = d }) (sym (map_append is_completed_line lines (x ∷ []) ∙ ap (λ (o : Outcome). marks lines ++ is_completed o ∷ []) outcome));
      layers = record {
        waits = (λ i. is.layers.waits i ++ alone i ∷ []) ∙ sym (ap (λ (k : ℕ). map cells_alone (drop k (lines ++ x ∷ []))) same ∙ ap (map cells_alone) (drop_push lines t x short) ∙ map_append cells_alone (drop t lines) (x ∷ []));
        holds = is.layers.holds ∙ ap (λ (l : List Line). put_lines base.content (done_in l)) (sym front);
      };
      completed = subst (AllPass is_completed_line) (sym front) is.completed;
    }

take_set : (xs : List Line) (k t : ℕ) (y : Line) → t ≤ k → take t (set xs k y) ≡ take t xs
take_set [] k zero y le = refl
take_set [] k (suc t) y le = refl
take_set (x ∷ xs) k zero y le = take_none (set (x ∷ xs) k y)
  where
    take_none : (l : List Line) → take 0 l ≡ []
    take_none [] = refl
    take_none (z ∷ zs) = refl
take_set (x ∷ xs) zero (suc t) y le = absurd (omega arith)
take_set (x ∷ xs) (suc k) (suc t) y le = (λ i. x ∷ take_set xs k t y (omega arith) i)

drop_map : {A B : Type 0} (f : A → B) (t : ℕ) (xs : List A) → map f (drop t xs) ≡ drop t (map f xs)
drop_map f zero [] = refl
drop_map f zero (x ∷ xs) = refl
drop_map f (suc t) [] = refl
drop_map f (suc t) (x ∷ xs) = drop_map f t xs

-- the line at the place of n ends, and it is the one numbered n
pub lines_ended : (r last n : ℕ) (o : Outcome) (lines lines' : List Line) (y : Line) → Follows last (edits_in r lines) → (at : IsAt last lines n) → lines' ≡ set lines (n - last - 1) y → y ≡ record at.line { outcome = o }
    → lines' ≡ with_outcome n o lines
lines_ended r last n o lines lines' y f at now ends =
    let after : last < n = at.after in
    now ∙ set_outcome r last (n - last - 1) n o lines at.line y f (omega arith) at.within at.there ends

-- a line ends
pub region_ended : (r : ℕ) (base : Base) (lines lines' : List Line) (queue : Numbers) (merged : Content) (waiting : List Content) (n : ℕ) (o : Outcome) (y : Line) → IsRegion r base lines queue merged waiting
    → (at : IsAt base.last lines n) → is_completed o ≡ true → lines' ≡ set lines (n - base.last - 1) y → y ≡ record at.line { outcome = o }
    → IsRegion r base lines' (with_completed queue n) merged waiting
region_ended r base lines lines' queue merged waiting n o y is at done now ends =
    let k = n - base.last - 1 in
    let by_number = lines_ended r base.last n o lines lines' y is.journal.numbers at now ends in
    let long : length lines' ≡ length lines = ap length by_number ∙ length-with_outcome n o lines in
    let t = taken lines waiting in
    let le = waiting_le lines waiting is.layers.waits in
    let behind = behind_front base.last n t lines at is.completed (omega arith) in
    let same : taken lines' waiting ≡ t = omega arith in
    let front : take (taken lines' waiting) lines' ≡ take t lines = (λ i. take (same i) (now i)) ∙ take_set lines k t y behind in
    let mark : is_completed_line y ≡ true = ap is_completed_line ends ∙ done in
    let cells : cells_alone y ≡ cells_alone (get_or lines k y) = ap cells_alone ends ∙ sym (ap cells_alone (at.there y)) in
    record {
      journal = subst (λ (l : List Line). IsJournal r base (edits_in r l)) (sym by_number) (journal_ended r base lines n o is.journal);
      limit = let was : last_in base lines < 2 ^ 48 = is.limit in omega arith;
      numbers = ap (λ (q : Numbers). with_completed q n) is.numbers ∙ ap (λ (d : List Bool). record { last = base.last; done = d }) (sym (ap marks now ∙ map-set is_completed_line lines k y ∙ ap (set (marks lines) k) mark));
      layers = record {
        waits = is.layers.waits ∙ drop_map cells_alone t lines ∙ sym (drop_map cells_alone (taken lines' waiting) lines' ∙ (λ i. drop (same i) (map cells_alone (now i))) ∙ ap (drop t) (map-set_same cells_alone lines k y y cells));
        holds = is.layers.holds ∙ ap (λ (l : List Line). put_lines base.content (done_in l)) (sym front);
      };
      completed = subst (AllPass is_completed_line) (sym front) is.completed;
    }

pub end_completed : (e : Ended) → is_completed (outcome_at_end e) ≡ true
end_completed end.Done = refl
end_completed end.Failed = refl

length_marks : (xs : List Line) → length (marks xs) ≡ length xs
length_marks [] = refl
length_marks (x ∷ xs) = ap suc (length_marks xs)

-- the queue ends where the journal does
pub queue_end : (r : ℕ) (base : Base) (lines : List Line) (queue : Numbers) (merged : Content) (waiting : List Content) → IsRegion r base lines queue merged waiting → queue.last + length queue.done ≡ last_in base lines
queue_end r base lines queue merged waiting is = ap (λ (q : Numbers). q.last + length q.done) is.numbers ∙ ap (λ (n : ℕ). base.last + n) (length_marks lines)

-- the queue's point is the journal's
pub read_point_is : (r : ℕ) (base : Base) (lines : List Line) (queue : Numbers) (merged : Content) (waiting : List Content) (p : ℕ) → IsRegion r base lines queue merged waiting
    → IsPoint queue.last (completed queue) p → IsPoint base.last (completed_in lines) p
read_point_is r base lines queue merged waiting p is point =
    subst (λ (cs : List ℕ). IsPoint base.last cs p) (same_completed r base.last lines is.journal.numbers) (subst (λ (q : Numbers). IsPoint q.last (completed q) p) is.numbers point)

-- a pending line's number is out of the queue
pub pending_out : (r : ℕ) (base : Base) (lines : List Line) (queue : Numbers) (merged : Content) (waiting : List Content) (n : ℕ) → IsRegion r base lines queue merged waiting → IsAt base.last lines n → IsOut queue n
pending_out r base lines queue merged waiting n is at = subst (λ (q : Numbers). IsOut q n) (sym is.numbers) (at.after, mark_out base.last n lines at)

-- the queue's point is that of the lines' marks
pub mark_point : (r : ℕ) (base : Base) (lines : List Line) (queue : Numbers) (merged : Content) (waiting : List Content) (p : ℕ) → IsRegion r base lines queue merged waiting
    → IsPoint queue.last (completed queue) p → IsPoint base.last (completed_behind base.last (marks lines)) p
mark_point r base lines queue merged waiting p is point = subst (λ (q : Numbers). IsPoint q.last (completed q) p) is.numbers point

-- lines up to the point are taken in
pub region_caught : (r : ℕ) (base : Base) (lines : List Line) (queue : Numbers) (merged merged' : Content) (waiting waiting' : List Content) (p : ℕ) → IsRegion r base lines queue merged waiting → IsPoint queue.last (completed queue) p
    → AreLayers base.content lines merged' waiting' → taken lines waiting' ≤ p - base.last → IsRegion r base lines queue merged' waiting'
region_caught r base lines queue merged merged' waiting waiting' p is point layers le = record {
  journal = is.journal;
  limit = is.limit;
  numbers = is.numbers;
  layers = layers;
  completed = all_completed base.last p lines (taken lines waiting') (mark_point r base lines queue merged waiting p is point) le;
}

follows_take : (r r' last k : ℕ) (xs : List Line) → Follows last (edits_in r xs) → Follows last (edits_in r' (take k xs))
follows_take r r' last zero [] f = tt
follows_take r r' last zero (x ∷ xs) f = tt
follows_take r r' last (suc k) [] f = tt
follows_take r r' last (suc k) (x ∷ xs) f = (f.0, follows_take r r' (last + 1) k xs f.1)

-- what is merged is what is shown at the point
pub shown_from : (r : ℕ) (base : Base) (lines : List Line) (queue : Numbers) (merged merged' : Content) (waiting waiting' : List Content) (p : ℕ) (parts : List Content) → IsRegion r base lines queue merged waiting → IsPoint queue.last (completed queue) p
    → AreLayers base.content lines merged' waiting' → taken lines waiting' ≡ p - base.last → joined parts ≡ merged' → IsShown parts (shown_at base p lines)
shown_from r base lines queue merged merged' waiting waiting' p parts is point layers whole holds =
    let at = mark_point r base lines queue merged waiting p is point in
    let least : base.last ≤ p = at.least in
    let long = length_take lines (p - base.last) (point_within base.last p lines at) in
    record {
      cells = holds ∙ layers.holds ∙ ap (λ (k : ℕ). put_lines base.content (done_in (take k lines))) whole;
      numbers = λ region. follows_take r region base.last (p - base.last) lines is.journal.numbers;
      completed = all_completed base.last p lines (p - base.last) at (omega arith);
      point = omega arith;
    }

take_all : (xs : List Line) (k : ℕ) → k ≡ length xs → take k xs ≡ xs
take_all [] zero e = refl
take_all [] (suc k) e = refl
take_all (x ∷ xs) zero e = absurd (omega arith)
take_all (x ∷ xs) (suc k) e = (λ i. x ∷ take_all xs k (omega arith) i)

-- its cells are what a reader sees at the point
pub shown_is_visible : (region : ℕ) (from to : List ℕ) (parts : List Content) (s : Shown) → IsShown parts s
    → filter (is_in_range from to) (cells_of (shown_content s)) ≡ visible s.base.content (edits_in region s.cut) s.point from to
shown_is_visible region from to parts s is =
    let point : s.point ≡ s.base.last + length s.cut = is.point in
    let law = visible_lines region s.base.content s.base.last s.point s.cut from to (is.numbers region) (omega arith) in
    sym (law ∙ ap (λ (xs : List Line). filter (is_in_range from to) (cells_of (put_lines s.base.content (done_in xs)))) (take_all s.cut (s.point - s.base.last) (omega arith)))
