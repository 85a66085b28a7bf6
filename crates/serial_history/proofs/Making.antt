-- The history: after the base, and after each put, the scans that read there.
use Rattle.std.proofs.Common.{◌≡◌, ℕ, suc, ◌+◌, ◌<◌, ◌≤◌, ◌&&◌, ◌⊎◌, List, [], ◌∷◌, ◌++◌, length, Contains, Some, refl, sym, ap, ◌∙◌, subst, arith, inl, inr}
use Rattle.std.proofs.lemmas.Bool.{cases_eq}
use Rattle.std.proofs.lemmas.List.Elements.{Contains-append_left, Contains-append_right, Contains-append_cases}
use Rattle.region_model.specs.Journal.{Base, Edit, Follows, IsJournal}
use Rattle.region_model.specs.Calls.{Reply}
use Rattle.region_model.specs.Lawful.{IsOn, IsEditOf, IsLawful, InOrder, number_of}
use Rattle.serial_history.specs.History.{position_of}
use Rattle.serial_history.proofs.Lists.{Pairs, pairs_from, pairs_weaker, pairs_filtered, pairs_append, contains_cons, first_or_later, not_in_none}
use Rattle.serial_history.proofs.Positions.{numbered, scans_at, IsScanAt, is_scan_on, is_at, is_scan_in, is_reply, has_scan}
use Rattle.serial_history.proofs.Calls.{IsAt, AreApart, in_turn, turn_of, ahead, beside}

-- the puts that made these edits, in the edits' order
abbrev pub AreMade : List Reply → List Edit → List Reply → Type 0
AreMade replies [] [] = Unit {0}
AreMade replies [] (p ∷ ps) = ⊥
AreMade replies (e ∷ es) [] = ⊥
AreMade replies (e ∷ es) (p ∷ ps) = Contains replies p × IsEditOf p e × AreMade replies es ps

pub makers : (replies : List Reply) (es : List Edit) → ((e : Edit) → Contains es e → (reply : Reply) × Contains replies reply × IsEditOf reply e) → (ps : List Reply) × AreMade replies es ps
makers replies [] told = ([], tt)
makers replies (e ∷ es) told =
    let here = told e (0, omega arith, refl) in
    let rest = makers replies es (λ d is. told d (contains_cons e es d is)) in
    (here.0 ∷ rest.0, (here.1, here.2, rest.1))

-- the scans at this point, and then each put with the scans at its sequence id
abbrev pub history_from : ℕ → List Reply → ℕ → List Reply → List Reply
history_from r replies last [] = scans_at r last replies
history_from r replies last (p ∷ ps) = scans_at r last replies ++ p ∷ history_from r replies (last + 1) ps

-- ---- who is in it

-- a reply after a sequence id, or a scan at it
abbrev pub IsBehind : ℕ → List Reply → ℕ → Reply → Type 0
IsBehind r replies last x = ((n : ℕ) × (last < n) × IsAt r replies n x × (number_of x.answer ≡ Some n)) ⊎ ((n : ℕ) × (last ≤ n) × Contains replies x × IsScanAt r n x)

pub scan_at : (r : ℕ) (replies : List Reply) (n : ℕ) (x : Reply) → Contains replies x → IsScanAt r n x → IsAt r replies n x
scan_at r replies n x is scan = record { among = is; on = subst (IsOn r) (sym scan.call) refl; is = ap position_of scan.answer }

put_at : (r : ℕ) (replies : List Reply) (last : ℕ) (e : Edit) (p : Reply) → e.entry.region ≡ r → e.entry.number ≡ last + 1 → Contains replies p → IsEditOf p e
    → IsAt r replies (last + 1) p × (number_of p.answer ≡ Some (last + 1))
put_at r replies last e p region number is made =
    let drew : number_of p.answer ≡ Some (last + 1) = made.number ∙ ap Some number in
    (record { among = is; on = subst (IsOn r) (sym made.put) region; is = numbered p.answer (last + 1) drew }, drew)

further : (r : ℕ) (replies : List Reply) (last : ℕ) (x : Reply) → IsBehind r replies (last + 1) x → IsBehind r replies last x
further r replies last x (inl put) = inl (put.0, omega (arith, put.1), put.2, put.3)
further r replies last x (inr scan) = inr (scan.0, omega (arith, scan.1), scan.2, scan.3)

pub members : (r : ℕ) (replies : List Reply) (last : ℕ) (es : List Edit) (ps : List Reply) → ((e : Edit) → Contains es e → e.entry.region ≡ r) → Follows last es → AreMade replies es ps
    → (x : Reply) → Contains (history_from r replies last ps) x → IsBehind r replies last x
members r replies last [] [] on f made x is = inr (last, omega arith, is_reply r last replies x is, is_scan_in r last replies x is)
members r replies last [] (p ∷ ps) on f made x is = absurd made
members r replies last (e ∷ es) [] on f made x is = absurd made
members r replies last (e ∷ es) (p ∷ ps) on f made x is = elim (Contains-append_cases (scans_at r last replies) (p ∷ history_from r replies (last + 1) ps) x is) [
  | inl scan ↦ inr (last, omega arith, is_reply r last replies x scan, is_scan_in r last replies x scan)
  | inr later ↦ elim (first_or_later p (history_from r replies (last + 1) ps) x later) [
    | inl one ↦
        let at = put_at r replies last e p (on e (0, omega arith, refl)) f.0 made.0 made.1 in
        inl (last + 1, omega arith, subst (IsAt r replies (last + 1)) one at.0, subst (λ (y : Reply). number_of y.answer ≡ Some (last + 1)) one at.1)
    | inr rest ↦ further r replies last x (members r replies (last + 1) es ps (λ d there. on d (contains_cons e es d there)) f.1 made.2 x rest)
  ]
]

-- each scan that read at the base or at an edit
pub scan_is_in : (r : ℕ) (replies : List Reply) (last n : ℕ) (ps : List Reply) (x : Reply) → last ≤ n → n ≤ last + length ps → Contains replies x → IsScanAt r n x
    → Contains (history_from r replies last ps) x
scan_is_in r replies last n [] x low high is scan =
    let here : n ≡ last = omega (arith, low, high) in
    has_scan r last replies x is (subst (λ m. IsScanAt r m x) here scan)
scan_is_in r replies last n (p ∷ ps) x low high is scan = elim (cases_eq n last) [
  | inl here ↦ Contains-append_left (scans_at r last replies) (p ∷ history_from r replies (last + 1) ps) x (has_scan r last replies x is (subst (λ m. IsScanAt r m x) here scan))
  | inr other ↦
      Contains-append_right (scans_at r last replies) (p ∷ history_from r replies (last + 1) ps) x
      (contains_cons p (history_from r replies (last + 1) ps) x (scan_is_in r replies (last + 1) n ps x (omega (arith, low, other)) (omega (arith, high)) is scan))
]

-- the put of each edit
pub maker_is_in : (r : ℕ) (replies : List Reply) (last : ℕ) (es : List Edit) (ps : List Reply) → AreMade replies es ps → (e : Edit) → Contains es e
    → (p : Reply) × Contains (history_from r replies last ps) p × Contains replies p × IsEditOf p e
maker_is_in r replies last [] ps made e is = absurd (not_in_none e is)
maker_is_in r replies last (d ∷ es) [] made e is = absurd made
maker_is_in r replies last (d ∷ es) (p ∷ ps) made e is = elim (first_or_later d es e is) [
  | inl one ↦ (p, Contains-append_right (scans_at r last replies) (p ∷ history_from r replies (last + 1) ps) p (0, omega arith, refl), made.0, subst (IsEditOf p) one made.1)
  | inr later ↦
      let rest = maker_is_in r replies (last + 1) es ps made.2 e later in
      (rest.0, Contains-append_right (scans_at r last replies) (p ∷ history_from r replies (last + 1) ps) rest.0 (contains_cons p (history_from r replies (last + 1) ps) rest.0 rest.1), rest.2, rest.3)
]

pub length_made : (replies : List Reply) (es : List Edit) (ps : List Reply) → AreMade replies es ps → length ps ≡ length es
length_made replies [] [] made = refl
length_made replies [] (p ∷ ps) made = absurd made
length_made replies (e ∷ es) [] made = absurd made
length_made replies (e ∷ es) (p ∷ ps) made = ap suc (length_made replies es ps made.2)

-- ---- in which order

abbrev pub AreHandled : Reply → Reply → Type 0
AreHandled a b = a.handler ≡ b.handler → AreApart a b

module _ (r : ℕ) (base : Base) (edits : List Edit) (replies : List Reply) (journal : IsJournal r base edits) (law : IsLawful r base edits replies) where
  scans_apart : (n : ℕ) → Pairs AreHandled (scans_at r n replies)
  scans_apart n =
      pairs_filtered AreHandled (λ (x : Reply). is_scan_on r x.call && is_at n x.answer) replies
      (pairs_weaker InOrder AreHandled replies (λ a b order same. in_turn a b (turn_of a b order same)) (pairs_from InOrder replies law.order))

  -- a reply before a sequence id, or the put that drew it, and a reply after it
  before : (a b : Reply) (m last : ℕ) → IsAt r replies m a → m < last → IsBehind r replies last b → AreHandled a b
  before a b m last at_a lt (inl put) same = ahead r base edits replies journal law a b m put.0 at_a put.2 (omega (arith, lt, put.1)) same
  before a b m last at_a lt (inr scan) same = ahead r base edits replies journal law a b m scan.0 at_a (scan_at r replies scan.0 b scan.2 scan.3) (omega (arith, lt, scan.1)) same

  behind_put : (a b : Reply) (n : ℕ) → IsAt r replies n a → number_of a.answer ≡ Some n → IsBehind r replies n b → AreHandled a b
  behind_put a b n at_a num_a (inl put) same = ahead r base edits replies journal law a b n put.0 at_a put.2 put.1 same
  behind_put a b n at_a num_a (inr scan) same = elim (cases_eq n scan.0) [
    | inl here ↦ beside r base edits replies journal law a b n at_a num_a scan.2 (subst (λ m. IsScanAt r m b) (sym here) scan.3) same
    | inr other ↦ ahead r base edits replies journal law a b n scan.0 at_a (scan_at r replies scan.0 b scan.2 scan.3) (omega (arith, scan.1, other)) same
  ]

  pub all_apart : (last : ℕ) (es : List Edit) (ps : List Reply) → ((e : Edit) → Contains es e → e.entry.region ≡ r) → Follows last es → AreMade replies es ps → Pairs AreHandled (history_from r replies last ps)
  all_apart last [] [] on f made = scans_apart last
  all_apart last [] (p ∷ ps) on f made = absurd made
  all_apart last (e ∷ es) [] on f made = absurd made
  all_apart last (e ∷ es) (p ∷ ps) on f made =
      let at = put_at r replies last e p (on e (0, omega arith, refl)) f.0 made.0 made.1 in
      let on_rest : (d : Edit) → Contains es d → d.entry.region ≡ r = λ d there. on d (contains_cons e es d there) in
      let behind : (y : Reply) → Contains (history_from r replies (last + 1) ps) y → IsBehind r replies (last + 1) y = members r replies (last + 1) es ps on_rest f.1 made.2 in
      pairs_append AreHandled (scans_at r last replies) (p ∷ history_from r replies (last + 1) ps) (scans_apart last)
      ((λ y is. behind_put p y (last + 1) at.0 at.1 (behind y is)), all_apart (last + 1) es ps on_rest f.1 made.2)
      (λ x y is it.
      let at_x = scan_at r replies last x (is_reply r last replies x is) (is_scan_in r last replies x is) in
      elim (first_or_later p (history_from r replies (last + 1) ps) y it) [
        | inl one ↦ subst (λ z. AreHandled x z) one (λ same. ahead r base edits replies journal law x p last (last + 1) at_x at.0 (omega arith) same)
        | inr rest ↦ before x y last (last + 1) at_x (omega arith) (behind y rest)
      ])
