-- The ties of a region stand where a line is begun, and where it ends.
use Rattle.std.proofs.Common.{◌≡◌, ◌≢◌, ℕ, zero, suc, ◌+◌, ◌-◌, ◌<◌, ◌≤◌, ◌==◌, Bool, true, false, cond, List, [], ◌∷◌, ◌++◌, length, set, Contains, Some, None, Option, slice_get, refl, sym, ap, ◌∙◌, subst, ⊎_elim, arith, take, eq-eqb, ne_eqb, append-nil}
use Rattle.std.proofs.lemmas.Bool.Decides.{nat_tests}
use Rattle.std.proofs.lemmas.List.Elements.{filter-append, Contains-push_cases}
use Rattle.hand_register.specs.declared.known.Record.{Record}
use Rattle.hand_register.specs.Desks.{with_value, with_last}
use Rattle.append_ring.specs.Rules.{end_of, next_or}
use Rattle.log_model.specs.Entry.{Entry}
use Rattle.log_trucks.specs.Held.{Held, held_of}
use Rattle.region_model.specs.Journal.{Caller, Outcome, Follows}
use Rattle.region_model.specs.Lines.{Line, edit_in, edits_in, ended, with_outcome, handled_lines, IsNextCall, IsPending}
use Rattle.region_model.proofs.LineLaws.{others_stay}
use Rattle.log_service.specs.log_halves.declared.item.Item.{Item}
use Rattle.log_service.specs.log_halves.declared.item.Item.TheVariants as items
use Rattle.log_service.specs.Items.{appended, number_of}
use Rattle.server_model.proofs.JournalLaws.{filter_kept, filter_has}
use Rattle.region_lock.specs.Parts.{entries_in, AreOwn, AreOwned, AreTold, AreCalledBelow, EndsPending, mark_of, AreMarked, AreBelow}
use Rattle.region_lock.proofs.Lists.{get_set, nothing_after, but_last}

eqb_eq : (a b : ℕ) → (a == b) ≡ true → a ≡ b
eqb_eq a b e = grind (arith, nat_tests)

-- ---- what was pushed

pub appended-append : (xs ys : List Item) → appended (xs ++ ys) ≡ appended xs ++ appended ys
appended-append [] ys = refl
appended-append (items.Append truck ∷ xs) ys = ap (λ (l : List Held). held_of truck.value ∷ l) (appended-append xs ys)
appended-append (items.Sync region number ∷ xs) ys = appended-append xs ys

pub end_of-append : (k : ℕ) (xs : List Item) (x : Item) → end_of number_of k (xs ++ x ∷ []) ≡ next_or number_of (end_of number_of k xs) (number_of x)
end_of-append k [] x = refl
end_of-append k (y ∷ xs) x = end_of-append (next_or number_of k (number_of y)) xs x

pub entries_in-append : (r : ℕ) (xs ys : List Line) → entries_in r (xs ++ ys) ≡ entries_in r xs ++ entries_in r ys
entries_in-append r [] ys = refl
entries_in-append r (x ∷ xs) ys = ap (λ (l : List Entry). (edit_in r x).entry ∷ l) (entries_in-append r xs ys)

same_entry : (r : ℕ) (o : Outcome) (b : Bool) (x : Line) → (edit_in r (cond b (record x { outcome = o }) x)).entry ≡ (edit_in r x).entry
same_entry r o true x = refl
same_entry r o false x = refl

-- an entry doesn't tell how its edit ended
pub entries_in-ended : (r n : ℕ) (o : Outcome) (xs : List Line) → entries_in r (with_outcome n o xs) ≡ entries_in r xs
entries_in-ended r n o [] = refl
entries_in-ended r n o (x ∷ xs) = λ i. same_entry r o (x.number == n) x i ∷ entries_in-ended r n o xs i

-- ---- the lines of one handler

pub handled-append : (h : ℕ) (xs ys : List Line) → handled_lines h (xs ++ ys) ≡ handled_lines h xs ++ handled_lines h ys
handled-append h xs ys = filter-append (λ (x : Line). x.caller.handler == h) xs ys

pub handled_here : (h : ℕ) (x : Line) (xs : List Line) → x.caller.handler ≡ h → handled_lines h (x ∷ xs) ≡ x ∷ handled_lines h xs
handled_here h x xs e = ap (λ (b : Bool). cond b (x ∷ handled_lines h xs) (handled_lines h xs)) (eq-eqb x.caller.handler h e)

pub handled_else : (h : ℕ) (x : Line) (xs : List Line) → x.caller.handler ≢ h → handled_lines h (x ∷ xs) ≡ handled_lines h xs
handled_else h x xs e = ap (λ (b : Bool). cond b (x ∷ handled_lines h xs) (handled_lines h xs)) (ne_eqb x.caller.handler h e)

-- the list of the hand with this number is its handler's lines
pub own_of : (records : List (Record Line)) (xs : List Line) (h h' : ℕ) (r r' : Record Line) → AreOwn records xs → 1 ≤ h → slice_get records (h - 1) ≡ Some r → r' ≡ r → h' ≡ h → r'.list ≡ handled_lines h' xs
own_of records xs h h' r r' own given at same number =
    let k : h - 1 + 1 ≡ h' = omega (arith, given, number) in
    ap (λ (q : Record Line). q.list) same ∙ own (h - 1) r at ∙ ap (λ (i : ℕ). handled_lines i xs) k

-- what the hand with this number was told as spent is at most the last number
pub told_of : (records : List (Record ℕ)) (last k : ℕ) (r r' : Record ℕ) → AreTold records last → slice_get records k ≡ Some r → r' ≡ r → (n : ℕ) → Contains r'.list n → n ≤ last
told_of records last k r r' told at same n has = told k r n at (subst (λ (q : Record ℕ). Contains q.list n) same has)

-- a line is added
pub own_begun : (records : List (Record Line)) (xs : List Line) (k : ℕ) (r : Record Line) (x : Line) → AreOwn records xs → slice_get records k ≡ Some r → x.caller.handler ≡ k + 1
    → AreOwn (set records k (with_value r x)) (xs ++ x ∷ [])
own_begun records xs k r x tied at mine j u e = ⊎_elim
    (λ (t : (j ≡ k) × (with_value r x ≡ u)).
    let own : x.caller.handler ≡ j + 1 = mine ∙ ap (λ (i : ℕ). i + 1) (sym t.0) in
    let was : slice_get records j ≡ Some r = subst (λ (i : ℕ). slice_get records i ≡ Some r) (sym t.0) at in
    sym (ap (λ (q : Record Line). q.list) t.1) ∙ ap (λ (l : List Line). l ++ x ∷ []) (tied j r was)
    ∙ sym (handled-append (j + 1) xs (x ∷ []) ∙ ap (λ (l : List Line). handled_lines (j + 1) xs ++ l) (handled_here (j + 1) x [] own)))
    (λ (t : (j ≢ k) × (slice_get records j ≡ Some u)).
    let other : x.caller.handler ≢ j + 1 = λ q. t.0 (omega (arith, q, mine)) in
    tied j u t.1 ∙ sym (handled-append (j + 1) xs (x ∷ []) ∙ ap (λ (l : List Line). handled_lines (j + 1) xs ++ l) (handled_else (j + 1) x [] other) ∙ append-nil (handled_lines (j + 1) xs)))
    (get_set records k j (with_value r x) u e)

-- where x is the last line of h, nothing after it is h's
pub record Last (h : ℕ) (xs ys : List Line) (x : Line) : Type 0 where
  pub pre : List Line
  pub post : List Line
  pub whole : xs ≡ pre ++ x ∷ post
  pub before : handled_lines h pre ≡ ys
  pub after : handled_lines h post ≡ []
  pub mine : x.caller.handler ≡ h

pub last_of : (h : ℕ) (xs ys : List Line) (x : Line) → handled_lines h xs ≡ ys ++ x ∷ [] → Last h xs ys x
last_of h [] ys x e = absurd (nothing_after ys x e)
last_of h (y ∷ xs) ys x e = go (y.caller.handler == h) refl ys e (λ zs e'. last_of h xs zs x e')
  where
    go : (b : Bool) → (y.caller.handler == h) ≡ b → (zs : List Line) → cond b (y ∷ handled_lines h xs) (handled_lines h xs) ≡ zs ++ x ∷ [] → ((ws : List Line) → handled_lines h xs ≡ ws ++ x ∷ [] → Last h xs ws x) → Last h (y ∷ xs) zs x
    go true is [] e rec =
        let same : y ≡ x = cc e in
        record { pre = []; post = xs; whole = ap (λ (w : Line). w ∷ xs) same; before = refl; after = cc e; mine = ap (λ (w : Line). w.caller.handler) (sym same) ∙ eqb_eq y.caller.handler h is }
    go true is (z ∷ zs) e rec =
        let r = rec zs (cc e) in
        record { pre = y ∷ r.pre; post = r.post; whole = ap (λ (l : List Line). y ∷ l) r.whole; before = ap (λ (b : Bool). cond b (y ∷ handled_lines h r.pre) (handled_lines h r.pre)) is ∙ cc (e, r.before); after = r.after; mine = r.mine }
    go false is zs e rec =
        let r = rec zs e in
        record { pre = y ∷ r.pre; post = r.post; whole = ap (λ (l : List Line). y ∷ l) r.whole; before = ap (λ (b : Bool). cond b (y ∷ handled_lines h r.pre) (handled_lines h r.pre)) is ∙ r.before; after = r.after; mine = r.mine }

-- the number of a line by its place
pub number_at : (r last : ℕ) (pre post : List Line) (x : Line) → Follows last (edits_in r (pre ++ x ∷ post)) → x.number ≡ last + length pre + 1
number_at r last [] post x f = f.0 ∙ omega arith
number_at r last (y ∷ pre) post x f = number_at r (last + 1) pre post x f.1 ∙ omega arith

-- one line ends, where it stands
pub ended_middle : (r last : ℕ) (o : Outcome) (pre post : List Line) (x : Line) → Follows last (edits_in r (pre ++ x ∷ post))
    → with_outcome x.number o (pre ++ x ∷ post) ≡ pre ++ (record x { outcome = o }) ∷ post
ended_middle r last o [] post x f =
    let number : x.number ≡ last + 1 = f.0 in
    let here : ended x.number o x ≡ record x { outcome = o } = ap (λ (b : Bool). cond b (record x { outcome = o }) x) (eq-eqb x.number x.number refl) in
    (λ i. here i ∷ others_stay r (last + 1) x.number o post f.1 (omega arith) i)
ended_middle r last o (y ∷ pre) post x f =
    let first : y.number ≡ last + 1 = f.0 in
    let number : x.number ≡ last + 1 + length pre + 1 = number_at r (last + 1) pre post x f.1 in
    let other : y.number ≢ x.number = λ e. absurd (omega (arith, e)) in
    let same : ended x.number o y ≡ y = ap (λ (b : Bool). cond b (record y { outcome = o }) y) (ne_eqb y.number x.number other) in
    (λ i. same i ∷ ended_middle r (last + 1) o pre post x f.1 i)

-- a handler's last line ends
pub own_ended : (reg last : ℕ) (o : Outcome) (records : List (Record Line)) (xs : List Line) (k : ℕ) (r : Record Line) (ys : List Line) (x : Line) → Follows last (edits_in reg xs) → AreOwn records xs → slice_get records k ≡ Some r
    → r.list ≡ ys ++ x ∷ [] → AreOwn (set records k (with_last r (record x { outcome = o }))) (with_outcome x.number o xs)
own_ended reg last o records xs k r ys x f tied at own j u e =
    let x' : Line = record x { outcome = o } in
    let l = last_of (k + 1) xs ys x (sym (tied k r at) ∙ own) in
    let now : with_outcome x.number o xs ≡ l.pre ++ x' ∷ l.post = ap (with_outcome x.number o) l.whole ∙ ended_middle reg last o l.pre l.post x (subst (λ (zs : List Line). Follows last (edits_in reg zs)) l.whole f) in
    ⊎_elim
    (λ (t : (j ≡ k) × (with_last r x' ≡ u)).
    let mine : x'.caller.handler ≡ j + 1 = l.mine ∙ ap (λ (i : ℕ). i + 1) (sym t.0) in
    let pre : handled_lines (j + 1) l.pre ≡ ys = ap (λ (i : ℕ). handled_lines (i + 1) l.pre) t.0 ∙ l.before in
    let post : handled_lines (j + 1) l.post ≡ [] = ap (λ (i : ℕ). handled_lines (i + 1) l.post) t.0 ∙ l.after in
    sym (ap (λ (q : Record Line). q.list) t.1)
    ∙ ap (λ (z : List Line). z ++ x' ∷ []) (ap (λ (z : List Line). take (length z - 1) z) own ∙ but_last ys x)
    ∙ sym (ap (handled_lines (j + 1)) now ∙ handled-append (j + 1) l.pre (x' ∷ l.post) ∙ ap (λ (z : List Line). handled_lines (j + 1) l.pre ++ z) (handled_here (j + 1) x' l.post mine ∙ ap (λ (z : List Line). x' ∷ z) post) ∙ ap (λ (z : List Line). z ++ x' ∷ []) pre))
    (λ (t : (j ≢ k) × (slice_get records j ≡ Some u)).
    let mine : x.caller.handler ≡ k + 1 = l.mine in
    let other : x.caller.handler ≢ j + 1 = λ q. t.0 (omega (arith, q, mine)) in
    tied j u t.1 ∙ ap (handled_lines (j + 1)) l.whole ∙ handled-append (j + 1) l.pre (x ∷ l.post) ∙ ap (λ (z : List Line). handled_lines (j + 1) l.pre ++ z) (handled_else (j + 1) x l.post other ∙ sym (handled_else (j + 1) x' l.post other))
    ∙ sym (ap (handled_lines (j + 1)) now ∙ handled-append (j + 1) l.pre (x' ∷ l.post)))
    (get_set records k j (with_last r x') u e)

-- ---- whose lines they are

pub owned_begun : (n : ℕ) (xs : List Line) (x : Line) → AreOwned n xs → 1 ≤ x.caller.handler → x.caller.handler ≤ n → AreOwned n (xs ++ x ∷ [])
owned_begun n [] x o a b = ((a, b), tt)
owned_begun n (y ∷ xs) x o a b = (o.0, owned_begun n xs x o.1 a b)

owned_one : (n : ℕ) (o : Outcome) (b : Bool) (x : Line) → (1 ≤ x.caller.handler) × (x.caller.handler ≤ n) → (1 ≤ (cond b (record x { outcome = o }) x).caller.handler) × ((cond b (record x { outcome = o }) x).caller.handler ≤ n)
owned_one n o true x h = h
owned_one n o false x h = h

pub owned_ended : (n m : ℕ) (o : Outcome) (xs : List Line) → AreOwned n xs → AreOwned n (with_outcome m o xs)
owned_ended n m o [] h = tt
owned_ended n m o (x ∷ xs) h = (owned_one n o (x.number == m) x h.0, owned_ended n m o xs h.1)

-- the handler's next call is above that of each of its lines
pub next_call : (records : List (Record Line)) (xs : List Line) (k call : ℕ) (r : Record Line) → AreOwn records xs → slice_get records k ≡ Some r → AreCalledBelow call r.list
    → IsNextCall (record { handler = k + 1; call = call }) xs
next_call records xs k call r tied at below x is same =
    below x (subst (λ (l : List Line). Contains l x) (sym (tied k r at)) (filter_has (λ (y : Line). y.caller.handler == k + 1) xs x is (eq-eqb x.caller.handler (k + 1) same)))

-- the line that a handler's list ends with is pending in the journal
pub pending_in : (records : List (Record Line)) (xs : List Line) (k n : ℕ) (r : Record Line) → AreOwn records xs → slice_get records k ≡ Some r → EndsPending r.list n → IsPending xs n
pending_in records xs k n r tied at e =
    let l = last_of (k + 1) xs e.front e.last (sym (tied k r at) ∙ e.is) in
    (e.last, subst (λ (zs : List Line). Contains zs e.last) (sym l.whole) (here l.pre l.post e.last), e.number, e.outcome)
  where
    here : (pre post : List Line) (x : Line) → Contains (pre ++ x ∷ post) x
    here [] post x = (0, omega arith, refl)
    here (y ∷ pre) post x = let c = here pre post x in let lt = c.1 in (suc c.0, omega arith, c.2)

-- ---- marks

-- a record is changed, and its mark is not
pub marks_same : (records : List (Record Line)) (mark : Option Caller) (k : ℕ) (r q : Record Line) → AreMarked records mark → slice_get records k ≡ Some r → q.mark ≡ r.mark → AreMarked (set records k q) mark
marks_same records mark k r q marked at same j u e = ⊎_elim
    (λ (t : (j ≡ k) × (q ≡ u)). sym (ap (λ (w : Record Line). w.mark) t.1) ∙ same ∙ marked k r at ∙ ap (λ (i : ℕ). mark_of mark (i + 1)) (sym t.0))
    (λ (t : (j ≢ k) × (slice_get records j ≡ Some u)). marked j u t.1)
    (get_set records k j q u e)

none_elsewhere : (records : List (Record Line)) (mark : Option Caller) (k : ℕ) (r : Record Line) → AreMarked records mark → slice_get records k ≡ Some r → 1 ≤ r.mark → (j : ℕ) → j ≢ k → mark_of mark (j + 1) ≡ 0
none_elsewhere records None k r marked at least j ne = refl
none_elsewhere records (Some c) k r marked at least j ne = go (c.handler == k + 1) refl
  where
    go : (b : Bool) → (c.handler == k + 1) ≡ b → mark_of (Some c) (j + 1) ≡ 0
    go true is =
        let mine : c.handler ≡ k + 1 = eqb_eq c.handler (k + 1) is in
        ap (λ (b : Bool). cond b c.call 0) (ne_eqb c.handler (j + 1) (λ e. ne (omega (arith, e, mine))))
    go false is =
        let call : r.mark ≡ 0 = marked k r at ∙ ap (λ (b : Bool). cond b c.call 0) is in
        absurd (omega (arith, call, least))

-- the flush under way is the handler's own, and it ends
pub marks_clear : (records : List (Record Line)) (mark : Option Caller) (k : ℕ) (r q : Record Line) → AreMarked records mark → slice_get records k ≡ Some r → 1 ≤ r.mark → q.mark ≡ 0 → AreMarked (set records k q) None
marks_clear records mark k r q marked at least clear j u e = ⊎_elim
    (λ (t : (j ≡ k) × (q ≡ u)). sym (ap (λ (w : Record Line). w.mark) t.1) ∙ clear)
    (λ (t : (j ≢ k) × (slice_get records j ≡ Some u)). marked j u t.1 ∙ none_elsewhere records mark k r marked at least j t.0)
    (get_set records k j q u e)

-- ---- numbers told as spent

pub told_more : (records : List (Record ℕ)) (a b : ℕ) → a ≤ b → AreTold records a → AreTold records b
told_more records a b le told k r n at is = let was : n ≤ a = told k r n at is in omega arith

pub told_one : (records : List (Record ℕ)) (last k : ℕ) (r : Record ℕ) → AreTold records last → slice_get records k ≡ Some r → AreTold (set records k (with_value r last)) last
told_one records last k r told at j u n e is = ⊎_elim
    (λ (t : (j ≡ k) × (with_value r last ≡ u)). ⊎_elim
    (λ (was : Contains r.list n). told k r n at was)
    (λ (new : last ≡ n). omega (arith, new))
    (Contains-push_cases r.list last n (subst (λ (w : Record ℕ). Contains w.list n) (sym t.1) is)))
    (λ (t : (j ≢ k) × (slice_get records j ≡ Some u)). told j u n t.1 is)
    (get_set records k j (with_value r last) u e)

-- ---- numbers

-- lines that follow a number are above it
pub above_last : (r last : ℕ) (xs : List Line) (y : Line) → Follows last (edits_in r xs) → Contains xs y → last < y.number
above_last r last [] y f c = let lt = c.1 in absurd (omega arith)
above_last r last (x ∷ xs) y f (zero, lt, e) = let first : x.number ≡ last + 1 = f.0 in let same : x.number ≡ y.number = ap (λ (z : Line). z.number) e in omega arith
above_last r last (x ∷ xs) y f (suc k, lt, e) = let rest : last + 1 < y.number = above_last r (last + 1) xs y f.1 (k, omega (arith, lt), e) in omega arith

-- no line is numbered above the last one
pub upto_last : (r last : ℕ) (xs : List Line) (x : Line) → Follows last (edits_in r xs) → Contains xs x → x.number ≤ last + length xs
upto_last r last [] x f c = let lt = c.1 in absurd (omega arith)
upto_last r last (y ∷ xs) x f (zero, lt, e) = let first : y.number ≡ last + 1 = f.0 in let same : y.number ≡ x.number = ap (λ (z : Line). z.number) e in omega arith
upto_last r last (y ∷ xs) x f (suc k, lt, e) = let rest : x.number ≤ last + 1 + length xs = upto_last r (last + 1) xs x f.1 (k, omega (arith, lt), e) in omega arith

-- so none of a handler's own is
pub own_upto : (reg last k : ℕ) (records : List (Record Line)) (xs : List Line) (r : Record Line) → Follows last (edits_in reg xs) → AreOwn records xs → slice_get records k ≡ Some r → AreBelow (last + length xs + 1) r.list
own_upto reg last k records xs r f tied at x is =
    let le = upto_last reg last xs x f (filter_kept (λ (y : Line). y.caller.handler == k + 1) xs x (subst (λ (l : List Line). Contains l x) (tied k r at) is)) in
    omega arith

pub follows_front : (r last : ℕ) (xs ys : List Line) → Follows last (edits_in r (xs ++ ys)) → Follows last (edits_in r xs)
follows_front r last [] ys f = tt
follows_front r last (x ∷ xs) ys f = (f.0, follows_front r (last + 1) xs ys f.1)
