-- Entries that are shipped one after the other.
use Rattle.std.proofs.Common.{◌≡◌, ◌⊎◌, ℕ, ◌+◌, ◌<◌, List, [], ◌∷◌, ◌++◌, Option, Some, None, refl, sym, ap, ◌∙◌, subst, inl, inr, arith, append_assoc, append-nil}
use Rattle.std.proofs.lemmas.Bool.{cases_lt}
use Rattle.cell_model.specs.Lists.{IsPrefix}
use Rattle.chronicle_model.specs.Chronicle.{Placed, Position}
use Rattle.ship_queue.specs.Messages.{Message, Entry_of, Record_of, shipped_in, recorded_from, recorded_in, position_behind, MayHaveCome, MayBeRecorded}
use Rattle.ship_queue.specs.Sent.{AreMarks, AreSent, IsCut, IsNext, RecordsEach, HasSent, HasStopped, HasTorn}
use Rattle.ship_queue.proofs.Told.{shipped_append, recorded_append}
use Rattle.ship_queue.proofs.Each.{each_append}

-- ---- marks

from_none : (l : Option Position) (ms : List Message) → AreMarks None ms → AreMarks l ms
from_none l [] m = tt
from_none l (Entry_of x ∷ ms) m = m
from_none l (Record_of q ∷ ms) m = absurd (cc m.0)

marks_append : (l : Option Position) (ms ns : List Message) → AreMarks l ms → AreMarks None ns → AreMarks l (ms ++ ns)
marks_append l [] ns m n = from_none l ns n
marks_append l (Entry_of x ∷ ms) ns m n = marks_append (Some (position_behind x)) ms ns m n
marks_append l (Record_of q ∷ ms) ns m n = (m.0, marks_append l ms ns m.1 n)

-- the last one of these, if there is one
abbrev pub IsLastOf : List Placed → Option Position → Type 0
IsLastOf done l = (l ≡ None) ⊎ ((front : List Placed) × (x : Placed) × (done ≡ front ++ x ∷ []) × (l ≡ Some (position_behind x)))

-- a position after one of these
abbrev pub IsMark : List Placed → Option Position → Type 0
IsMark xs r = (done : List Placed) × (x : Placed) × IsPrefix (done ++ x ∷ []) xs × (r ≡ Some (position_behind x))

-- what is recorded last is a mark, or was recorded before
pub last_mark : (r : Option Position) (done : List Placed) (l : Option Position) (ms : List Message) → IsLastOf done l → AreMarks l ms
    → (recorded_from r ms ≡ r) ⊎ IsMark (done ++ shipped_in ms) (recorded_from r ms)
last_mark r done l [] last m = inl refl
last_mark r done l (Entry_of x ∷ ms) last m =
    subst (λ (xs : List Placed). (recorded_from r ms ≡ r) ⊎ IsMark xs (recorded_from r ms)) (append_assoc done (x ∷ []) (shipped_in ms))
    (last_mark r (done ++ x ∷ []) (Some (position_behind x)) ms (inr (done, x, refl, refl)) m)
last_mark r done l (Record_of q ∷ ms) last m =
    elim (last_mark (Some q) done l ms last m.1) as (λ _. (recorded_from (Some q) ms ≡ r) ⊎ IsMark (done ++ shipped_in ms) (recorded_from (Some q) ms)) [
      | inl same ↦ elim last as (λ _. (recorded_from (Some q) ms ≡ r) ⊎ IsMark (done ++ shipped_in ms) (recorded_from (Some q) ms)) [
        | inl none ↦ absurd (cc (none, m.0))
        | inr its ↦ inr (its.0, its.1, (shipped_in ms, ap (λ (xs : List Placed). xs ++ shipped_in ms) its.2), same ∙ sym m.0 ∙ its.3)
      ]
      | inr mark ↦ inr mark
    ]

pub longer_mark : (xs ys : List Placed) (r : Option Position) → IsMark xs r → IsMark (xs ++ ys) r
longer_mark xs ys r m = (m.0, m.1, (m.2.0 ++ ys, ap (λ (l : List Placed). l ++ ys) m.2.1 ∙ append_assoc (m.0 ++ m.1 ∷ []) m.2.0 ys), m.3)

pub later_mark : (xs ys : List Placed) (r : Option Position) → IsMark ys r → IsMark (xs ++ ys) r
later_mark xs ys r m =
    (xs ++ m.0, m.1, (m.2.0, ap (λ (l : List Placed). xs ++ l) m.2.1 ∙ sym (append_assoc xs (m.0 ++ m.1 ∷ []) m.2.0) ∙ ap (λ (l : List Placed). l ++ m.2.0) (sym (append_assoc xs m.0 (m.1 ∷ [])))), m.3)

pub sent_append : (ms ns : List Message) (xs ys : List Placed) → AreSent ms xs → AreSent ns ys → AreSent (ms ++ ns) (xs ++ ys)
sent_append ms ns xs ys a b = record {
  shipped = shipped_append ms ns ∙ ap (λ (l : List Placed). l ++ shipped_in ns) a.shipped ∙ ap (λ (l : List Placed). xs ++ l) b.shipped;
  marks = marks_append None ms ns a.marks b.marks;
}

-- ---- one entry

pub one_sent : (x : Placed) → AreSent (Entry_of x ∷ []) (x ∷ [])
one_sent x = record { shipped = refl; marks = tt }

pub one_recorded : (x : Placed) → AreSent (Entry_of x ∷ Record_of (position_behind x) ∷ []) (x ∷ [])
one_recorded x = record { shipped = refl; marks = (refl, tt) }

pub one_cut : (ms ns : List Message) (x : Placed) → MayHaveCome ms ns x → IsCut ms ns (x ∷ [])
one_cut ms ns x (inl not, same) = record {
  more = [];
  shipped = not ∙ sym (append-nil (shipped_in ms));
  begins = (x ∷ [], refl);
  recorded = inl same;
}
one_cut ms ns x (inr come, same) = record {
  more = x ∷ [];
  shipped = come;
  begins = ([], refl);
  recorded = inl same;
}

-- the entry came, and its record may have come
pub record_cut : (ms ns : List Message) (x : Placed) → MayBeRecorded (ms ++ Entry_of x ∷ []) ns (position_behind x) → IsCut ms ns (x ∷ [])
record_cut ms ns x (came, either) = record {
  more = x ∷ [];
  shipped = came ∙ shipped_append ms (Entry_of x ∷ []);
  begins = ([], refl);
  recorded = elim either as (λ _. (recorded_in ns ≡ recorded_in ms) ⊎ IsMark (x ∷ []) (recorded_in ns)) [
    | inl same ↦ inl (same ∙ recorded_append None ms (Entry_of x ∷ []))
    | inr its ↦ inr ([], x, ([], refl), its)
  ];
}

-- its peer failed at the entry
pub entry_next : (n : ℕ) (x : Placed) → n < 64 → IsNext n (x ∷ []) [] (Entry_of x)
entry_next n x lt = elim (cases_lt (n + 1) 64) as (λ _. IsNext n (x ∷ []) [] (Entry_of x)) [
  | inl few ↦ record {
    rest = [];
    sent = x ∷ [];
    are = one_sent x;
    begins = ([], refl);
    since = n + 1;
    each = refl;
    within = few;
  }
  | inr le ↦ record {
    rest = Record_of (position_behind x) ∷ [];
    sent = x ∷ [];
    are = one_recorded x;
    begins = ([], refl);
    since = 0;
    each = (omega (arith, lt, le), refl);
    within = omega arith;
  }
]

-- and at its record
pub record_next : (n : ℕ) (x : Placed) → n + 1 ≡ 64 → IsNext n (x ∷ []) (Entry_of x ∷ []) (Record_of (position_behind x))
record_next n x at = record {
  rest = [];
  sent = x ∷ [];
  are = one_recorded x;
  begins = ([], refl);
  since = 0;
  each = (at, refl);
  within = omega arith;
}

-- ---- one after the other

module _ {P : Type 0} (has : P → List Message → Type 0) where
  pub none_sent : (p : P) (n : ℕ) → HasSent has p p n n []
  none_sent p n ms h = ([], subst (has p) (sym (append-nil ms)) h, record { shipped = refl; marks = tt }, refl)

  pub sent_joined : (p q r : P) (n m k : ℕ) (xs ys : List Placed) → HasSent has p q n m xs → HasSent has q r m k ys → HasSent has p r n k (xs ++ ys)
  sent_joined p q r n m k xs ys first second ms h =
      let a = first ms h in
      let b = second (ms ++ a.0) a.1 in
      (a.0 ++ b.0, subst (has r) (append_assoc ms a.0 b.0) b.1, sent_append a.0 b.0 xs ys a.2 b.2, each_append n m k a.0 b.0 a.3 b.3)

  pub stopped_longer : (p q : P) (xs ys : List Placed) → HasStopped has p q xs → HasStopped has p q (xs ++ ys)
  stopped_longer p q xs ys stopped ms ns h k =
      let s = stopped ms ns h k in
      record {
        more = s.more;
        shipped = s.shipped;
        begins = (s.begins.0 ++ ys, ap (λ (l : List Placed). l ++ ys) s.begins.1 ∙ append_assoc s.more s.begins.0 ys);
        recorded = s.recorded;
      }

  cut_behind : (ms ns a : List Message) (xs ys : List Placed) → AreSent a xs → IsCut (ms ++ a) ns ys → IsCut ms ns (xs ++ ys)
  cut_behind ms ns a xs ys sent s = record {
    more = xs ++ s.more;
    shipped =
        s.shipped ∙ ap (λ (l : List Placed). l ++ s.more) (shipped_append ms a ∙ ap (λ (l : List Placed). shipped_in ms ++ l) sent.shipped)
        ∙ append_assoc (shipped_in ms) xs s.more;
    begins = (s.begins.0, ap (λ (l : List Placed). xs ++ l) s.begins.1 ∙ sym (append_assoc xs s.more s.begins.0));
    recorded = elim s.recorded as (λ _. (recorded_in ns ≡ recorded_in ms) ⊎ IsMark (xs ++ s.more) (recorded_in ns)) [
      | inl same ↦
          let is : recorded_in ns ≡ recorded_from (recorded_in ms) a = same ∙ recorded_append None ms a in
          elim (last_mark (recorded_in ms) [] None a (inl refl) sent.marks) as (λ _. (recorded_in ns ≡ recorded_in ms) ⊎ IsMark (xs ++ s.more) (recorded_in ns)) [
            | inl none ↦ inl (is ∙ none)
            | inr mark ↦ inr (longer_mark xs s.more (recorded_in ns) (subst (λ (l : List Placed). IsMark l (recorded_in ns)) sent.shipped (subst (IsMark (shipped_in a)) (sym is) mark)))
          ]
      | inr mark ↦ inr (later_mark xs s.more (recorded_in ns) mark)
    ];
  }

  pub stopped_behind : (p q r : P) (n m : ℕ) (xs ys : List Placed) → HasSent has p q n m xs → HasStopped has q r ys → HasStopped has p r (xs ++ ys)
  stopped_behind p q r n m xs ys sent stopped ms ns h k =
      let a = sent ms h in
      cut_behind ms ns a.0 xs ys a.2 (stopped (ms ++ a.0) ns a.1 k)

  module _ (torn : P → List Message → Message → Type 0) where
    pub torn_longer : (p q : P) (n : ℕ) (xs ys : List Placed) → HasTorn has torn p q n xs → HasTorn has torn p q n (xs ++ ys)
    torn_longer p q n xs ys cut ms h =
        let b = cut ms h in
        let t = b.3 in (
          b.0,
          b.1,
          b.2,
          record {
            rest = t.rest;
            sent = t.sent;
            are = t.are;
            begins = (t.begins.0 ++ ys, ap (λ (l : List Placed). l ++ ys) t.begins.1 ∙ append_assoc t.sent t.begins.0 ys);
            since = t.since;
            each = t.each;
            within = t.within;
          },
        )

    pub torn_behind : (p q r : P) (n k : ℕ) (xs ys : List Placed) → HasSent has p q n k xs → HasTorn has torn q r k ys → HasTorn has torn p r n (xs ++ ys)
    torn_behind p q r n k xs ys sent cut ms h =
        let a = sent ms h in
        let b = cut (ms ++ a.0) a.1 in
        let t = b.3 in
        let all : (a.0 ++ b.0) ++ b.1 ∷ t.rest ≡ a.0 ++ (b.0 ++ b.1 ∷ t.rest) = append_assoc a.0 b.0 (b.1 ∷ t.rest) in (
          a.0 ++ b.0,
          b.1,
          subst (λ (l : List Message). torn r l b.1) (append_assoc ms a.0 b.0) b.2,
          record {
            rest = t.rest;
            sent = xs ++ t.sent;
            are = subst (λ (l : List Message). AreSent l (xs ++ t.sent)) (sym all) (sent_append a.0 (b.0 ++ b.1 ∷ t.rest) xs t.sent a.2 t.are);
            begins = (t.begins.0, ap (λ (l : List Placed). xs ++ l) t.begins.1 ∙ sym (append_assoc xs t.sent t.begins.0));
            since = t.since;
            each = subst (λ (l : List Message). RecordsEach n l t.since) (sym all) (each_append n k t.since a.0 (b.0 ++ b.1 ∷ t.rest) a.3 t.each);
            within = t.within;
          },
        )
