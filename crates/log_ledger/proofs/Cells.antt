-- The cells of trucks, and what they put.
use Rattle.std.proofs.Common.{◌≡◌, ◌≢◌, inl, inr, ℕ, ◌+◌, ◌<◌, ◌≤◌, Bool, true, ◌&&◌, List, [], ◌∷◌, ◌++◌, map, get_or, Contains, Some, refl, sym, ap, ◌∙◌, subst, arith, append-nil}
use Rattle.std.specs.Prelude.{Result, Ok, Err, IfOk}
use Rattle.std.specs.List.{AllByRecursion, AllByRecursion-prop, flat_map}
use Rattle.std.specs.FinMap.{get, empty}
use Rattle.std.specs.Coded.{le_prop}
use Rattle.std.specs.Cmp.Lexicographic.{bytes_decides}
use Rattle.std.proofs.Math.Bool.{Bool-set}
use Rattle.std.proofs.Math.Logic.{∥∥₁_elim}
use Rattle.std.proofs.lemmas.Result.{IfOk-weaker}
use Rattle.cell_model.specs.Cell.{Cell}
use Rattle.cell_model.specs.Order.{VersionKey, Payload, Content, NumberedCell, put_cells}
use Rattle.cell_model.specs.Merge.{put_numbered, at_number}
use Rattle.cell_model.proofs.MergeLaws.{put_numbered-append, put_cells-numbered}
use Rattle.log_model.specs.Entry.{Entry}
use Rattle.log_model.specs.Recovered.{Puts, IsFor, put_entries}
use Rattle.recovery_laws.proofs.Contents.{cut_has, puts_family}
use Rattle.recovery_laws.proofs.Lists.{for_decides}
use Rattle.seq_accounting.specs.Marks.{is_same}
use Rattle.seq_accounting.specs.Accounts.{Accounts, is_for, flushed_at}
use Rattle.log_trucks.specs.Held.{Held, AreHeld}
use Rattle.log_trucks.specs.Unflushed.{is_unflushed, unflushed_cells}
use Rattle.log_ledger.specs.History.{History}
use Rattle.log_ledger.specs.Numbers.{Numbers, IsServed, AreInOrder}
use Rattle.log_ledger.specs.Counted.{IsCounted, PutsCut}
use Rattle.log_ledger.proofs.Chains.{at_first, at_later}
use Rattle.log_ledger.proofs.Filters.{in_filter}
use Rattle.log_ledger.proofs.Families.{and_both, both_and, cell_above, family_above, above_of, of_above}
use Rattle.log_ledger.proofs.Flushed.{unflushed_bound}
use Rattle.log_ledger.proofs.Narrowed.{narrow, narrow_puts, puts_narrow, in_narrow, narrow_in, apart_narrow}

-- whether a family of an entry is flushed by such a flush
abbrev pub is_due : Accounts → ℕ → List ℕ → Entry → List ℕ → Bool
is_due a r family e f = is_for family f && family_above a r e.number f

-- the cells of entries that are due, each with its entry's sequence id
abbrev pub due_of_all : Accounts → ℕ → List ℕ → List Entry → List NumberedCell
due_of_all a r family es = flat_map (λ (e : Entry). at_number e.number (unflushed_cells a r family e)) es

put_all : (a : Accounts) (r : ℕ) (family : List ℕ) (es : List Entry) (m : Content) → put_numbered m (due_of_all a r family es) ≡ put_entries m (map (narrow (is_due a r family)) es)
put_all a r family [] m = refl
put_all a r family (e ∷ es) m =
    put_numbered-append m (at_number e.number (unflushed_cells a r family e)) (due_of_all a r family es)
    ∙ ap (λ (c : Content). put_numbered c (due_of_all a r family es)) (sym (put_cells-numbered m e.number (unflushed_cells a r family e)))
    ∙ put_all a r family es (put_cells m e.number (unflushed_cells a r family e))

both_lists : (P : NumberedCell → Type 0) (xs ys : List NumberedCell) → AllByRecursion P xs → AllByRecursion P ys → AllByRecursion P (xs ++ ys)
both_lists P [] ys one two = two
both_lists P (x ∷ xs) ys one two = (one.0, both_lists P xs ys one.1 two)

-- each cell of an entry, with its number
one_entry : (P : NumberedCell → Type 0) (n : ℕ) (cs : List Cell) → ((c : Cell) → Contains cs c → P (n, c)) → AllByRecursion P (at_number n cs)
one_entry P n [] each = tt
one_entry P n (c ∷ cs) each = (each c (at_first c cs), one_entry P n cs (λ d has. each d (at_later c cs d has)))

all_entries : (P : NumberedCell → Type 0) (a : Accounts) (r : ℕ) (family : List ℕ) (chain : List Held) (es : List Entry) → AreHeld chain es
    → ((h : Held) (e : Entry) (c : Cell) → Contains chain h → h.number ≡ e.number → Contains (unflushed_cells a r family e) c → P (e.number, c)) → AllByRecursion P (due_of_all a r family es)
all_entries P a r family [] [] held each = tt
all_entries P a r family [] (e ∷ es) held each = absurd held
all_entries P a r family (x ∷ xs) [] held each = absurd held
all_entries P a r family (x ∷ xs) (e ∷ es) held each =
    both_lists P (at_number e.number (unflushed_cells a r family e)) (due_of_all a r family es)
    (one_entry P e.number (unflushed_cells a r family e) (λ c has. each x e c (at_first x xs) held.0.number has))
    (all_entries P a r family xs es held.1 (λ y d c has. each y d c (at_later x xs y has)))

-- a bound on sequence ids
abbrev pub IsBetween : ℕ → ℕ → NumberedCell → Type 0
IsBetween flushed drawn x = (flushed + 1 ≤ x.0) × (x.0 ≤ drawn)

if_ok_prop : {A E : Type 0} (r : Result A E) (P : A → Type 0) → ((x : A) → IsProp (P x)) → IsProp (IfOk r P)
if_ok_prop (Ok x) P each = each x
if_ok_prop (Err e) P each = λ a b. refl

pub cells_between : {E : Type 0} (res : Result (List NumberedCell) E) (b : Numbers) (r : ℕ) (family : List ℕ) → AreInOrder b
    → ((es : List Entry) → AreHeld (get_or b.chains r []) es → IfOk res (λ cells. cells ≡ due_of_all b.accounts r family es))
    → IfOk res (AllByRecursion (IsBetween (flushed_at b.accounts r family) (get_or b.drawn r 0)))
cells_between res b r family order told =
    ∥∥₁_elim (order.regions r).chain.entries (if_ok_prop res (AllByRecursion (IsBetween (flushed_at b.accounts r family) (get_or b.drawn r 0))) (AllByRecursion-prop (IsBetween (flushed_at b.accounts r family) (get_or b.drawn r 0)) (λ x. hlevel (le_prop))))
    (λ is. IfOk-weaker res (λ cells. cells ≡ due_of_all b.accounts r family is.entries) (AllByRecursion (IsBetween (flushed_at b.accounts r family) (get_or b.drawn r 0)))
    (λ cells same. subst (AllByRecursion (IsBetween (flushed_at b.accounts r family) (get_or b.drawn r 0))) (sym same)
    (all_entries (IsBetween (flushed_at b.accounts r family) (get_or b.drawn r 0)) b.accounts r family (get_or b.chains r []) is.entries is.held each)) (told is.entries is.held))
  where
    each : (h : Held) (e : Entry) (c : Cell) → Contains (get_or b.chains r []) h → h.number ≡ e.number → Contains (unflushed_cells b.accounts r family e) c → IsBetween (flushed_at b.accounts r family) (get_or b.drawn r 0) (e.number, c)
    each h e c has number of =
        let both = and_both (is_for family c.family) (is_unflushed b.accounts r e.number c) (in_filter (λ (d : Cell). is_for family d.family && is_unflushed b.accounts r e.number d) e.batch.cells c of).1 in
        let above = cell_above b.accounts r e.number c both.1 in
        let below : flushed_at b.accounts r family ≤ flushed_at b.accounts r c.family = elim ((for_decides family c.family).0 both.0) as (λ _. flushed_at b.accounts r family ≤ flushed_at b.accounts r c.family) [
          | inl all ↦ omega (arith, (order.regions r).whole c.family, ap (flushed_at b.accounts r) all)
          | inr one ↦ omega (arith, ap (flushed_at b.accounts r) one)
        ] in
        (omega (arith, above, below), omega (arith, ((order.regions r).chain.numbers h has).1, number))

-- the cell is of the family, where one is given
abbrev pub IsOf : List ℕ → NumberedCell → Type 0
IsOf family x = family ≢ [] → is_same x.1.family family ≡ true

of_prop : (family : List ℕ) (x : NumberedCell) → IsProp (IsOf family x)
of_prop family x = λ f g i some. Bool-set (is_same x.1.family family) true (f some) (g some) i

all_of : (family : List ℕ) (xs : List NumberedCell) → AllByRecursion (IsOf family) xs → AllByRecursion (λ (x : NumberedCell). family ≢ [] → x.1.family ≡ family) xs
all_of family [] all = tt
all_of family (x ∷ xs) all = ((λ some. (bytes_decides x.1.family family).0 (all.0 some)), all_of family xs all.1)

pub cells_of : {E : Type 0} (res : Result (List NumberedCell) E) (b : Numbers) (r : ℕ) (family : List ℕ) → AreInOrder b
    → ((es : List Entry) → AreHeld (get_or b.chains r []) es → IfOk res (λ cells. cells ≡ due_of_all b.accounts r family es))
    → IfOk res (AllByRecursion (λ (x : NumberedCell). family ≢ [] → x.1.family ≡ family))
cells_of res b r family order told = IfOk-weaker res (AllByRecursion (IsOf family)) (AllByRecursion (λ (x : NumberedCell). family ≢ [] → x.1.family ≡ family)) (all_of family) (
    ∥∥₁_elim (order.regions r).chain.entries (if_ok_prop res (AllByRecursion (IsOf family)) (AllByRecursion-prop (IsOf family) (of_prop family)))
    (λ is. IfOk-weaker res (λ cells. cells ≡ due_of_all b.accounts r family is.entries) (AllByRecursion (IsOf family))
    (λ cells same. subst (AllByRecursion (IsOf family)) (sym same) (all_entries (IsOf family) b.accounts r family (get_or b.chains r []) is.entries is.held each)) (told is.entries is.held)))
  where
    each : (h : Held) (e : Entry) (c : Cell) → Contains (get_or b.chains r []) h → h.number ≡ e.number → Contains (unflushed_cells b.accounts r family e) c → IsOf family (e.number, c)
    each h e c has number of some =
        let both = and_both (is_for family c.family) (is_unflushed b.accounts r e.number c) (in_filter (λ (d : Cell). is_for family d.family && is_unflushed b.accounts r e.number d) e.batch.cells c of).1 in
        elim ((for_decides family c.family).0 both.0) as (λ _. is_same c.family family ≡ true) [ inl all ↦ absurd (some all) | inr one ↦ (bytes_decides c.family family).1 (sym one) ]

pub cells_cut : {E : Type 0} (res : Result (List NumberedCell) E) (b : Numbers) (h : History) (r : ℕ) (family : List ℕ) → AreInOrder b → IsServed b r → IsCounted b h → h.kept.staged ≡ []
    → ((es : List Entry) → AreHeld (get_or b.chains r []) es → IfOk res (λ cells. cells ≡ due_of_all b.accounts r family es)) → IfOk res (PutsCut h.kept r family (get_or b.drawn r 0))
cells_cut res b h r family order served counted none told =
    IfOk-weaker res (λ cells. cells ≡ due_of_all b.accounts r family (counted.chains r served).entries) (PutsCut h.kept r family (get_or b.drawn r 0)) (λ cells same v p. (forth cells same v p, back cells same v p))
    (told (counted.chains r served).entries (counted.chains r served).held)
  where
    all : h.kept.durable ++ h.kept.staged ≡ h.kept.durable
    all = ap (λ (l : List Entry). h.kept.durable ++ l) none ∙ append-nil h.kept.durable

    content : (cells : List NumberedCell) → cells ≡ due_of_all b.accounts r family (counted.chains r served).entries → put_numbered empty cells ≡ put_entries empty (map (narrow (is_due b.accounts r family)) (counted.chains r served).entries)
    content cells same = ap (put_numbered empty) same ∙ put_all b.accounts r family (counted.chains r served).entries empty

    forth : (cells : List NumberedCell) → cells ≡ due_of_all b.accounts r family (counted.chains r served).entries → (v : VersionKey) (p : Payload) → get (put_numbered empty cells) v ≡ Some p
        → (e : Entry) × Contains h.kept.durable e × (e.region ≡ r) × (h.kept.flushed r v.key.family < e.number) × (e.number ≤ get_or b.drawn r 0) × IsFor family v.key.family × Puts e v p
    forth cells same v p has =
        let found = (cut_has (map (narrow (is_due b.accounts r family)) (counted.chains r served).entries) v p
        (apart_narrow (is_due b.accounts r family) (counted.chains r served).entries (counted.chains r served).apart)).0 (sym (ap (λ (m : Content). get m v) (content cells same)) ∙ has) in
        let whole = in_narrow (is_due b.accounts r family) (counted.chains r served).entries found.0 found.1 in
        let puts = narrow_puts (is_due b.accounts r family) whole.0 v p (subst (λ (x : Entry). Puts x v p) (sym whole.2) found.2) in
        let old = ((counted.chains r served).each whole.0).0 whole.1 in
        let both = and_both (is_for family v.key.family) (family_above b.accounts r whole.0.number v.key.family) puts.1 in (
          whole.0,
          subst (λ (l : List Entry). Contains l whole.0) all old.0,
          old.1,
          omega (arith, above_of b.accounts r whole.0.number v.key.family both.1, counted.flushed r v.key.family served),
          (unflushed_bound b h r order (counted.chains r served) whole.0 old.0 old.1 old.2).1,
          (for_decides family v.key.family).0 both.0,
          puts.0,
        )

    back : (cells : List NumberedCell) → cells ≡ due_of_all b.accounts r family (counted.chains r served).entries → (v : VersionKey) (p : Payload)
        → (e : Entry) × Contains h.kept.durable e × (e.region ≡ r) × (h.kept.flushed r v.key.family < e.number) × (e.number ≤ get_or b.drawn r 0) × IsFor family v.key.family × Puts e v p → get (put_numbered empty cells) v ≡ Some p
    back cells same v p is =
        let e : Entry = is.0 in
        let above : flushed_at b.accounts r v.key.family < e.number = omega (arith, is.3, counted.flushed r v.key.family served) in
        let due : is_due b.accounts r family e v.key.family ≡ true = both_and (is_for family v.key.family) (family_above b.accounts r e.number v.key.family) ((for_decides family v.key.family).1 is.5) (of_above b.accounts r e.number v.key.family above) in
        let there = ((counted.chains r served).each e).1 (
          subst (λ (l : List Entry). Contains l e) (sym all) is.1,
          is.2,
          (
            v.key.family,
            puts_family e v p is.6,
            subst (λ (q : ℕ). h.kept.flushed q v.key.family < e.number) (sym is.2) is.3,
          ),
        ) in
        ap (λ (m : Content). get m v) (content cells same)
        ∙ (cut_has (map (narrow (is_due b.accounts r family)) (counted.chains r served).entries) v p (apart_narrow (is_due b.accounts r family) (counted.chains r served).entries (counted.chains r served).apart)).1
        (narrow (is_due b.accounts r family) e, narrow_in (is_due b.accounts r family) (counted.chains r served).entries e there, puts_narrow (is_due b.accounts r family) e v p is.6 due)
