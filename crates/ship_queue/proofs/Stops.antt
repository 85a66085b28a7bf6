-- Positions that are recorded are such at which a reader stops.
use Rattle.std.proofs.Common.{◌≡◌, ◌⊎◌, inl, inr, ℕ, ◌<◌, ◌≤◌, ◌+◌, true, List, [], ◌∷◌, ◌++◌, is_some, Contains, filter, Option, Some, None, refl, sym, ap, ◌∙◌, subst, arith, append_assoc}
use Rattle.std.proofs.lemmas.Bool.{cases_order}
use Rattle.std.proofs.lemmas.List.Elements.{Contains-append_left, Contains-append_right, All-contains, All-contains_itself, All-filter}
use Rattle.std.proofs.lemmas.Option.{slice_get_within}
use Rattle.log_model.specs.Entry.{Entry}
use Rattle.log_model.specs.Files.{Files}
use Rattle.chronicle_model.specs.Chronicle.{bytes_of, Placed, StandsIn, Position, IsChronicle, is_behind, behind}
use Rattle.chronicle_model.specs.Growth.{IsGoingOn, IsReached}
use Rattle.chronicle_model.proofs.Grown.{not_there}
use Rattle.chronicle_model.proofs.Order.{here}
use Rattle.log_tail.specs.Reads.{HasHigher, HasNoLog, IsRead}
use Rattle.ship_queue.specs.Course.{LeadOver, LeadsTo, HasReadOn}
use Rattle.ship_queue.specs.Messages.{Message, Record_of, shipped_in, recorded_from, recorded_in, position_behind, MayBeRecorded}
use Rattle.ship_queue.specs.Sent.{AreSent, IsCut, HasSent, HasStopped}
use Rattle.ship_queue.specs.Shipping.{IsOnward, IsStop, IsShipStep}
use Rattle.ship_queue.proofs.Behind.{passes, stands, StandsBehind}
use Rattle.ship_queue.proofs.Going.{part_so_far, part_at_end}
use Rattle.ship_queue.proofs.Records.{some_is, sent_is_ship, end_is_ship}
use Rattle.ship_queue.proofs.Sends.{IsMark, last_mark}
use Rattle.ship_queue.proofs.Steps.{part_of}
use Rattle.ship_queue.proofs.Told.{recorded_append, recorded_record}

-- ---- further on

onward_none : (p q : Position) → q ≡ p → IsOnward p q
onward_none p q same = inr (ap (λ (x : Position). x.file) (sym same), omega (arith, ap (λ (x : Position). x.entries) same))

onward_both : (p q r : Position) → IsOnward p q → IsOnward q r → IsOnward p r
onward_both p q r (inl a) (inl b) = inl (omega (arith, a, b))
onward_both p q r (inl a) (inr b) = inl (omega (arith, a, b.0))
onward_both p q r (inr a) (inl b) = inl (omega (arith, a.0, b))
onward_both p q r (inr a) (inr b) = inr (a.0 ∙ b.0, omega (arith, a.1, b.1))

onward_of : (p : Position) (x : Placed) → StandsBehind p x → IsOnward p (position_behind x)
onward_of p x (inl lt) = inl lt
onward_of p x (inr both) = inr (both.0, omega (arith, both.1))

-- ---- after an entry

module _ (files : Files) (c : List Placed) (p : Position) (is : IsChronicle files c) where
  stop_behind : (x : Placed) → is_behind p x ≡ true → StandsIn files x → IsStop files p (position_behind x)
  stop_behind x later s = record {
    onward = onward_of p x (stands p x later);
    reached = inr (inr (s.entries, s.ended, s.log, omega (arith, s.place, slice_get_within s.entries s.at x.entry s.is)));
  }

  its_stop : (x : Placed) → Contains (behind c p) x → IsStop files p (position_behind x)
  its_stop x has =
      stop_behind x (passes (is_behind p) c x has)
      ((is.exact x).0 (All-contains (Contains c) (filter (is_behind p) c) x (All-filter (is_behind p) (Contains c) c (All-contains_itself c)) has))

  mark_stop : (xs rest : List Placed) (r : Option Position) (q : Position) → behind c p ≡ xs ++ rest → IsMark xs r → r ≡ Some q → IsStop files p q
  mark_stop xs rest r q split m recorded =
      let x : Placed = m.1 in
      let among : Contains xs x = subst (λ (l : List Placed). Contains l x) (sym m.2.1) (Contains-append_left (m.0 ++ x ∷ []) m.2.0 x (Contains-append_right m.0 (x ∷ []) x (here x []))) in
      let has : Contains (behind c p) x = subst (λ (l : List Placed). Contains l x) (sym split) (Contains-append_left xs rest x among) in
      subst (IsStop files p) (some_is (position_behind x) q (sym m.3 ∙ recorded)) (its_stop x has)

  -- what was sent records such a position, or none
  sent_stop : (ms a : List Message) (xs rest : List Placed) (q : Position) → behind c p ≡ xs ++ rest → AreSent a xs → recorded_in (ms ++ a) ≡ Some q → (recorded_in ms ≡ Some q) ⊎ IsStop files p q
  sent_stop ms a xs rest q split s recorded =
      let all : recorded_in (ms ++ a) ≡ recorded_from (recorded_in ms) a = recorded_append None ms a in
      elim (last_mark (recorded_in ms) [] None a (inl refl) s.marks) as (λ _. (recorded_in ms ≡ Some q) ⊎ IsStop files p q) [
        | inl none ↦ inl (sym none ∙ sym all ∙ recorded)
        | inr mark ↦ inr (mark_stop (shipped_in a) rest (recorded_from (recorded_in ms) a) q (split ∙ ap (λ (l : List Placed). l ++ rest) (sym s.shipped)) mark (sym all ∙ recorded))
      ]

  cut_stop : (ms ns : List Message) (xs rest : List Placed) (q : Position) → behind c p ≡ xs ++ rest → IsCut ms ns xs → recorded_in ns ≡ Some q → (recorded_in ms ≡ Some q) ⊎ IsStop files p q
  cut_stop ms ns xs rest q split s recorded = elim s.recorded as (λ _. (recorded_in ms ≡ Some q) ⊎ IsStop files p q) [
    | inl same ↦ inl (sym same ∙ recorded)
    | inr mark ↦ inr (mark_stop s.more (s.begins.0 ++ rest) (recorded_in ns) q (split ∙ ap (λ (l : List Placed). l ++ rest) s.begins.1 ∙ append_assoc s.more s.begins.0 rest) mark recorded)
  ]

-- ---- where readings stop

module _ (files : Files) where
  read_onward : (p q : Position) (given : List Entry) → IsRead files p given q → IsOnward p q
  read_onward p q given (inl r) = elim r.stops as (λ _. IsOnward p q) [
    | inl over ↦ inl (omega (arith, ap (λ (x : Position). x.file) over.1))
    | inr stays ↦ inr (sym (ap (λ (x : Position). x.file) stays.1), omega (arith, r.within, ap (λ (x : Position). x.entries) stays.1))
  ]
  read_onward p q given (inr r) = onward_none p q r.stays

  lead_onward : (p q : Position) (qs : List Position) → LeadOver files p qs q → IsOnward p q
  lead_onward p q [] same = onward_none p q (sym same)
  lead_onward p q (s ∷ ss) (first, rest) = onward_both p s q (read_onward p s first.0 first.1) (lead_onward s q ss rest)

  no_bytes : (n : ℕ) → ((bytes : List ℕ) → bytes_of files n ≡ Some bytes → ⊥) → (o : Option (List ℕ)) → bytes_of files n ≡ o → o ≡ None
  no_bytes n none None is = refl
  no_bytes n none (Some bytes) is = absurd (none bytes is)

  -- from a log that isn't there, and above which none is, none is read
  none_from : (n h : ℕ) → HasNoLog files n → (HasHigher files n → ⊥) → n ≤ h → bytes_of files h ≡ None
  none_from n h absent highest le = elim (cases_order n h) as (λ _. bytes_of files h ≡ None) [
    | inl same ↦ subst (λ (k : ℕ). bytes_of files k ≡ None) same absent
    | inr (inl low) ↦ no_bytes h (λ bytes there. highest (h, low, (bytes, there))) (bytes_of files h) refl
    | inr (inr high) ↦ absurd (omega (arith, le, high))
  ]

  -- a reader doesn't come to a log that isn't there, as the highest one has no end
  module _ (going : IsGoingOn files) (r : Position) (absent : HasNoLog files r.file) (highest : HasHigher files r.file → ⊥) where
    not_from : (p q : Position) (given : List Entry) → IsRead files p given q → q ≡ r → p ≡ r
    not_from p q given (inl a) same = elim a.stops as (λ _. p ≡ r) [
      | inl over ↦
          let next : r.file ≡ p.file + 1 = ap (λ (x : Position). x.file) (sym same ∙ over.1) in
          let none : (h : ℕ) → p.file < h → bytes_of files h ≡ None = λ h lt. none_from r.file h absent highest (omega (arith, next, lt)) in
          elim over.0 as (λ _. p ≡ r) [
            | inl higher ↦ absurd (not_there (bytes_of files higher.0) higher.2.0 (none higher.0 higher.1) higher.2.1)
            | inr ended ↦ (let no : is_some {T = ℕ} None ≡ true = subst (λ (o : Option ℕ). is_some o ≡ true) (going p.file a.entries a.ended a.log none) ended.1 in absurd (cc no))
          ]
      | inr stays ↦
          let its : r.file ≡ p.file = ap (λ (x : Position). x.file) (sym same ∙ stays.1) in
          absurd (not_there (bytes_of files p.file) a.log.0 (subst (λ (k : ℕ). bytes_of files k ≡ None) its absent) a.log.1)
    ]
    not_from p q given (inr a) same = sym a.stays ∙ same

    was_there : (p : Position) (qs : List Position) → LeadOver files p qs r → p ≡ r
    was_there p [] same = same
    was_there p (s ∷ ss) (first, rest) = not_from p s first.0 first.1 (was_there s ss rest)

  -- the position at the end
  pub end_stop : IsGoingOn files → (p q : Position) → LeadsTo files p q → IsRead files q [] q → IsStop files p q
  end_stop going p q leads (inl r) = record {
    onward = lead_onward p q leads.0 leads.1;
    reached = elim r.stops as (λ _. (q ≡ p) ⊎ IsReached files q) [
      | inl over ↦ absurd (omega (arith, ap (λ (x : Position). x.file) over.1))
      | inr stays ↦ inr (inr (r.entries, r.ended, r.log, omega (arith, ap (λ (x : Position). x.entries) stays.1)))
    ];
  }
  end_stop going p q leads (inr r) = record {
    onward = lead_onward p q leads.0 leads.1;
    reached = inl (sym (was_there going q r.absent r.highest p leads.0 leads.1));
  }

-- ---- a call

module _ {P : Type 0} (has : P → List Message → Type 0) (files : Files) (p q : Position) (first now : P) (xs : List Placed) (a : HasReadOn files p q xs) (ms : List Message) (h : has first ms) (c : List Placed) (is : IsChronicle files c) where
  pub step_cut : (m : ℕ) (lt : m < 64) (ns : List Message) → HasStopped has first now xs → has now ns → IsShipStep files c p ms ns
  step_cut m lt ns stopped k = record {
    part = part_so_far has files p q first now xs a ms h m lt c is ns stopped k;
    stop = λ r recorded. cut_stop files c p is ms ns xs (behind c q) r (a.read c is) (stopped ms ns h k) recorded;
  }

  module _ (m : ℕ) (lt : m < 64) (sent : HasSent has first now 0 m xs) where
    pub step_so_far : (ns : List Message) × has now ns × IsShipStep files c p ms ns
    step_so_far =
        let s = sent ms h in (
          ms ++ s.0,
          s.1,
          record {
            part = part_of c p ms s.0 (sent_is_ship c p is.order s.0 xs (behind c q) (a.read c is) s.2 m s.3 lt);
            stop = λ r recorded. sent_stop files c p is ms s.0 xs (behind c q) r (a.read c is) s.2 recorded;
          },
        )

    module _ (last : P) (end : IsStop files p q) where
      pub step_all : ((ls : List Message) → has now ls → has last (ls ++ Record_of q ∷ [])) → (ns : List Message) × has last ns × IsShipStep files c p ms ns
      step_all recorded =
          let s = sent ms h in
          let ns : List Message = ms ++ (s.0 ++ Record_of q ∷ []) in
          let both : (ms ++ s.0) ++ Record_of q ∷ [] ≡ ns = append_assoc ms s.0 (Record_of q ∷ []) in (
            ns,
            subst (has last) both (recorded (ms ++ s.0) s.1),
            record {
              part = part_of c p ms (s.0 ++ Record_of q ∷ []) (end_is_ship c p is.order s.0 xs q (a.read c is) s.2 m s.3 lt);
              stop = λ r its.
                  let same : Some q ≡ Some r = sym (recorded_record (ms ++ s.0) q) ∙ ap recorded_in both ∙ its in
                  inr (subst (IsStop files p) (some_is q r same) end);
            },
          )

      pub step_at_end : (ns : List Message) → has last ns → ((ls : List Message) → has now ls → MayBeRecorded ls ns q) → IsShipStep files c p ms ns
      step_at_end ns k may =
          let s = sent ms h in
          record {
            part = part_at_end has files p q first now xs a ms h m lt last sent c is ns may;
            stop = λ r recorded. elim (may (ms ++ s.0) s.1).1 as (λ _. (recorded_in ms ≡ Some r) ⊎ IsStop files p r) [
              | inl same ↦ sent_stop files c p is ms s.0 xs (behind c q) r (a.read c is) s.2 (sym same ∙ recorded)
              | inr its ↦ inr (subst (IsStop files p) (some_is q r (sym its ∙ recorded)) end)
            ];
          }
