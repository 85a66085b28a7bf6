-- A line is taken in, and what is merged holds its cells.
use Rattle.std.proofs.Common.{◌≡◌, ℕ, zero, suc, ◌-◌, ◌<◌, ◌≤◌, Bool, true, false, cond, if◌then◌else◌, List, [], ◌∷◌, ◌++◌, length, map, take, drop, get_or, Option, Some, None, is_some, IsTrue, option_to_list, refl, sym, ap, ◌∙◌, arith}
use Rattle.std.proofs.lemmas.List.Elements.{filter-append}
use Rattle.std.specs.FinMap.{len, get, empty_of_len, get-empty}
use Rattle.cell_model.specs.Order.{Content, version_cmp}
use Rattle.cell_model.specs.Join.{or_else, joined}
use Rattle.cell_model.proofs.JoinLaws.{same_content, get-joined_two, put_cells-joined, joined-append, joined-one}
use Rattle.region_model.specs.Lines.{Line, is_done_line, done_in, put_lines}
use Rattle.region_model.proofs.LineLaws.{put_lines-append}
use Rattle.region_state.specs.Layers.{Layered, TakesIn, all_of, cells_alone, taken, AreLayers}

pub length-map_cells : (xs : List Line) → length (map cells_alone xs) ≡ length xs
length-map_cells [] = refl
length-map_cells (x ∷ xs) = ap suc (length-map_cells xs)

length-drop_lines : (t : ℕ) (xs : List Line) → length (drop t xs) ≡ length xs - t
length-drop_lines zero [] = omega arith
length-drop_lines zero (x ∷ xs) = omega arith
length-drop_lines (suc t) [] = omega arith
length-drop_lines (suc t) (x ∷ xs) = let r = length-drop_lines t xs in omega arith

-- no more wait than there are lines
pub waiting_le : (lines : List Line) (waiting : List Content) → waiting ≡ map cells_alone (drop (taken lines waiting) lines) → length waiting ≤ length lines
waiting_le lines waiting w =
    let e : length waiting ≡ length lines - (length lines - length waiting) = ap length w ∙ length-map_cells (drop (taken lines waiting) lines) ∙ length-drop_lines (taken lines waiting) lines in
    omega arith

drop_next : (xs : List Line) (k : ℕ) (x : Line) → k < length xs → x ≡ get_or xs k x → drop k xs ≡ x ∷ drop (suc k) xs
drop_next [] k x lt e = absurd (omega arith)
drop_next (y ∷ ys) zero x lt e = (λ i. sym e i ∷ ys)
drop_next (y ∷ ys) (suc k) x lt e = drop_next ys k x (omega arith) e

take_next : (xs : List Line) (k : ℕ) (x : Line) → k < length xs → x ≡ get_or xs k x → take (suc k) xs ≡ take k xs ++ x ∷ []
take_next [] k x lt e = absurd (omega arith)
take_next (y ∷ ys) zero x lt e = (λ i. sym e i ∷ [])
take_next (y ∷ ys) (suc k) x lt e = (λ i. y ∷ take_next ys k x (omega arith) e i)

-- one line more is put
pub put_next : (base : Content) (lines : List Line) (t : ℕ) (x : Line) → t < length lines → x ≡ get_or lines t x
    → put_lines base (done_in (take (suc t) lines)) ≡ (if is_done_line x then joined (put_lines base (done_in (take t lines)) ∷ cells_alone x ∷ []) else put_lines base (done_in (take t lines)))
put_next base lines t x lt e =
    ap (λ (l : List Line). put_lines base (done_in l)) (take_next lines t x lt e)
    ∙ ap (put_lines base) (filter-append is_done_line (take t lines) (x ∷ []))
    ∙ put_lines-append base (done_in (take t lines)) (cond (is_done_line x) (x ∷ []) [])
    ∙ one (is_done_line x)
  where
    one : (b : Bool) → put_lines (put_lines base (done_in (take t lines))) (cond b (x ∷ []) []) ≡ (if b then joined (put_lines base (done_in (take t lines)) ∷ cells_alone x ∷ []) else put_lines base (done_in (take t lines)))
    one true = put_cells-joined (put_lines base (done_in (take t lines))) x.number x.batch.cells
    one false = refl

first_same : (a b : Content) (ms ns : List Content) → a ∷ ms ≡ b ∷ ns → a ≡ b
first_same a b ms ns e = cc e

rest_same : (a b : Content) (ms ns : List Content) → a ∷ ms ≡ b ∷ ns → ms ≡ ns
rest_same a b ms ns e = cc e

-- the next line is taken in
pub taken_in : (base : Content) (lines : List Line) (x : Line) (old new : Layered) → taken lines old.waiting < length lines → x ≡ get_or lines (taken lines old.waiting) x
    → TakesIn (is_done_line x) old new → AreLayers base lines old.merged old.waiting → AreLayers base lines new.merged new.waiting
taken_in base lines x old new lt at takes layers =
    let t = taken lines old.waiting in
    let le = waiting_le lines old.waiting layers.waits in
    let long : length old.waiting ≡ suc (length new.waiting) = ap length takes.waiting in
    let t' : taken lines new.waiting ≡ suc t = omega arith in
    let all : takes.first ∷ new.waiting ≡ cells_alone x ∷ map cells_alone (drop (suc t) lines) = sym takes.waiting ∙ layers.waits ∙ ap (map cells_alone) (drop_next lines t x lt at) in
    let first = first_same takes.first (cells_alone x) new.waiting (map cells_alone (drop (suc t) lines)) all in
    let both : (if is_done_line x then joined (old.merged ∷ takes.first ∷ []) else old.merged) ≡ (if is_done_line x then joined (put_lines base (done_in (take t lines)) ∷ cells_alone x ∷ []) else put_lines base (done_in (take t lines)))
    = (λ i. if is_done_line x then joined (layers.holds i ∷ first i ∷ []) else layers.holds i) in
    record {
      waits = rest_same takes.first (cells_alone x) new.waiting (map cells_alone (drop (suc t) lines)) all ∙ ap (λ (k : ℕ). map cells_alone (drop k lines)) (sym t');
      holds = takes.merged ∙ both ∙ sym (put_next base lines t x lt at) ∙ ap (λ (k : ℕ). put_lines base (done_in (take k lines))) (sym t');
    }

-- ---- what waits, and what is merged

pub joined_more : (ms : List Content) (m : Content) → joined (ms ++ m ∷ []) ≡ joined (joined ms ∷ m ∷ [])
joined_more ms m = joined-append ms (m ∷ []) ∙ ap (λ (n : Content). joined (joined ms ∷ n ∷ [])) (joined-one m)

module _ {A : Type 0} (value : A → Content) where
  pub some_first : (o : Option A) (rest : List Content) → is_some o ≡ true → (x : Content) × (all_of value o rest ≡ x ∷ rest)
  some_first (Some a) rest e = (value a, refl)
  some_first None rest e = absurd (cc e)

  pub none_first : (o : Option A) (items items' : List Content) (r : Option Content) → is_some o ≡ false → items ≡ option_to_list r ++ items' → 1 ≤ length (all_of value o items) → (1 ≤ length items → IsTrue (is_some r))
      → (x : Content) × (all_of value o items ≡ x ∷ all_of value o items')
  none_first (Some a) items items' r n e le found = absurd (cc n)
  none_first None items items' (Some x) n e le found = (x, e)
  none_first None items items' None n e le found = absurd (cc (found le))

pub takes_not : (done : Bool) (old new : Layered) (x : Content) → done ≡ false → old.waiting ≡ x ∷ new.waiting → new.merged ≡ old.merged → TakesIn done old new
takes_not true old new x off w m = absurd (cc off)
takes_not false old new x off w m = record { first = x; waiting = w; merged = m }

pub takes_done : (done : Bool) (old new : Layered) (x : Content) → done ≡ true → old.waiting ≡ x ∷ new.waiting → new.merged ≡ joined (old.merged ∷ x ∷ []) → TakesIn done old new
takes_done true old new x on w m = record { first = x; waiting = w; merged = m }
takes_done false old new x on w m = absurd (cc on)

-- a content that has no cell adds nothing
pub joined_empty : (m n : Content) → len n ≡ 0 → joined (m ∷ n ∷ []) ≡ m
joined_empty m n e = same_content (joined (m ∷ n ∷ [])) m (λ q. get-joined_two m n q ∙ ap (λ (c : Content). or_else (get c q) (get m q)) (empty_of_len n e) ∙ ap (λ o. or_else o (get m q)) (get-empty version_cmp q))

pub joined_first : (n : Content) → joined (joined [] ∷ n ∷ []) ≡ n
joined_first n = sym (joined_more [] n) ∙ joined-one n
