-- The seats of the threads that help, as they are taken and given back.
use Rattle.std.proofs.Common.{◌≡◌, ◌≢◌, ℕ, zero, suc, ◌+◌, ◌<◌, ◌≤◌, ◌==◌, true, false, cond, List, [], ◌∷◌, ◌++◌, length, map, Option, Some, None, IfSome, refl, sym, ap, subst, ◌∙◌, arith, inl, inr}
use Rattle.std.proofs.lemmas.Bool.{eq-eqb, ne_eqb, cases_eq}
use Rattle.std.proofs.lemmas.List.{map-append}
use Rattle.std.proofs.Math.ListN.{take, drop}
use Rattle.std.proofs.Math.Seq.{take-append_seam}
use Rattle.std.specs.List.{slice_index_or}
use Rattle.group_calls.specs.log_service.declared.seats.LogSeat.{LogSeat}
use Rattle.group_calls.specs.log_service.Places.{ServiceId}
use Rattle.group_calls.specs.handler_threads.Working.{HaveHelped}
use Rattle.group_calls.specs.group_servers.Helping.{AreSeatsAt, seats_at}
use Rattle.group_calls.specs.declared.groups.GroupHelper.{GroupHelper}
use Rattle.groups_run.specs.declared.helpers.GroupHelpers.{GroupHelpers}
use Rattle.group_calls.specs.Helpers.{IsHelperOf}
use Rattle.groups_run.specs.Helpers.{held, AreHelpersOf, AreTwoEach}
use Rattle.group_calls.specs.Servers.{Servers}
use Rattle.groups_run.specs.Seating.{AllHelp, groups_of, seats_of, times}

pub help_each : (s : Servers) (hs : List GroupHelper) → AllHelp s hs → (i : ℕ) (d : GroupHelper) → i < length hs → IsHelperOf s (slice_index_or hs i d)
help_each s [] all i d lt = absurd (omega (arith, lt))
help_each s (h ∷ hs) all zero d lt = all.0
help_each s (h ∷ hs) all (suc i) d lt = help_each s hs all.1 i d (omega (arith, lt))

-- after the run
pub all_helped : {J : Type 0} (is_seat : J → GroupHelper → Type 0) (job : J) (s : Servers) → ((h : GroupHelper) → is_seat job h → IsHelperOf s h) → (olds news : List GroupHelper)
    → HaveHelped is_seat (λ (h : GroupHelper). h.group) job olds news → AllHelp s news × (groups_of news ≡ groups_of olds)
all_helped is_seat job s is [] [] h = (tt, refl)
all_helped is_seat job s is [] (x ∷ xs) h = absurd (omega (arith, h.len))
all_helped is_seat job s is (o ∷ os) [] h = absurd (omega (arith, h.len))
all_helped is_seat job s is (o ∷ os) (x ∷ xs) h =
    let first = h.each 0 o (omega arith) in
    let rest = all_helped is_seat job s is os xs record { len = omega (arith, h.len); each = λ i d lt. h.each (suc i) d (omega (arith, lt)) } in
    ((is x first.seat, rest.0), λ i. first.log i ∷ rest.1 i)

-- the seats of a list, once those of its slice have helped
pub slice_helped : {J : Type 0} (is_seat : J → GroupHelper → Type 0) (job : J) (s : Servers) → ((h : GroupHelper) → is_seat job h → IsHelperOf s h)
    → (n : ℕ) (list slice news : List GroupHelper) → slice ≡ list → length slice ≡ n → HaveHelped is_seat (λ (h : GroupHelper). h.group) job slice news
    → AllHelp s (take n (news ++ drop (length news) list)) × (groups_of (take n (news ++ drop (length news) list)) ≡ groups_of list)
slice_helped is_seat job s is n list slice news same len helped =
    let all = all_helped is_seat job s is slice news helped in
    let back : take n (news ++ drop (length news) list) ≡ news =
    subst (λ (m : ℕ). take m (news ++ drop (length news) list) ≡ news) (helped.len ∙ len) (take-append_seam news (drop (length news) list)) in
    (subst (AllHelp s) (sym back) all.0, ap groups_of back ∙ all.1 ∙ ap groups_of same)

-- one more of these servers
pub help_push : (s : Servers) (hs : List GroupHelper) (h : GroupHelper) → AllHelp s hs → IsHelperOf s h → AllHelp s (hs ++ h ∷ [])
help_push s [] h all is = (is, tt)
help_push s (g ∷ hs) h all is = (all.0, help_push s hs h all.1 is)

times_push : (k : ℕ) (ns : List ℕ) (n : ℕ) → times k (ns ++ n ∷ []) ≡ times k ns + cond (n == k) 1 0
times_push k [] n = omega arith
times_push k (m ∷ ns) n = let rest = times_push k ns n in omega (arith, rest)

-- one was taken
one_less : (old new : ℕ → ℕ) (n : ℕ) (ns : List ℕ) → old n ≡ new n + 1 → ((k : ℕ) → k ≢ n → new k ≡ old k) → (k : ℕ) → new k + times k (ns ++ n ∷ []) ≡ old k + times k ns
one_less old new n ns here others k =
    let pushed = times_push k ns n in
    elim (cases_eq n k) [
      | inl same ↦ (let one : ◌≡◌ {A = ℕ} (cond (n == k) 1 0) 1 = ap (λ b. cond b 1 0) (eq-eqb n k same) in
          let at : old k ≡ new k + 1 = subst (λ (m : ℕ). old m ≡ new m + 1) same here in
          omega (arith, pushed, one, at))
      | inr other ↦ (let none : ◌≡◌ {A = ℕ} (cond (n == k) 1 0) 0 = ap (λ b. cond b 1 0) (ne_eqb n k other) in
          let at = others k (λ e. other (sym e)) in
          omega (arith, pushed, none, at))
    ]

pub taken_more : (old new : GroupHelpers) (hs : List GroupHelper) (h : GroupHelper) → held old h.group ≡ held new h.group + 1 → ((k : ℕ) → k ≢ h.group → held new k ≡ held old k)
    → (k : ℕ) → held new k + seats_of k (hs ++ h ∷ []) ≡ held old k + seats_of k hs
taken_more old new hs h here others k =
    ap (λ ns. held new k + times k ns) (map-append (λ (g : GroupHelper). g.group) hs (h ∷ [])) ∙ one_less (held old) (held new) h.group (groups_of hs) here others k

-- one was given back
one_more : (old new : ℕ → ℕ) (n : ℕ) (ns : List ℕ) → new n ≡ old n + 1 → ((k : ℕ) → k ≢ n → new k ≡ old k) → (k : ℕ) → new k + times k ns ≡ old k + times k (n ∷ ns)
one_more old new n ns here others k =
    elim (cases_eq n k) [
      | inl same ↦ (let one : ◌≡◌ {A = ℕ} (cond (n == k) 1 0) 1 = ap (λ b. cond b 1 0) (eq-eqb n k same) in
          let at : new k ≡ old k + 1 = subst (λ (m : ℕ). new m ≡ old m + 1) same here in
          omega (arith, one, at))
      | inr other ↦ (let none : ◌≡◌ {A = ℕ} (cond (n == k) 1 0) 0 = ap (λ b. cond b 1 0) (ne_eqb n k other) in
          let at = others k (λ e. other (sym e)) in
          omega (arith, none, at))
    ]

pub given_more : (old new : GroupHelpers) (h : GroupHelper) (hs : List GroupHelper) → held new h.group ≡ held old h.group + 1 → ((k : ℕ) → k ≢ h.group → held new k ≡ held old k)
    → (k : ℕ) → held new k + seats_of k hs ≡ held old k + seats_of k (h ∷ hs)
given_more old new h hs here others k = one_more (held old) (held new) h.group (groups_of hs) here others k

-- there is room for one that is to be given back
pub room_for : (n : ℕ) (h : GroupHelper) (hs : List GroupHelper) → n + seats_of h.group (h ∷ hs) ≤ 2 → n < 2
room_for n h hs few =
    let one : ◌≡◌ {A = ℕ} (cond (h.group == h.group) 1 0) 1 = ap (λ b. cond b 1 0) (eq-eqb h.group h.group refl) in
    omega (arith, one, few)

two_at : (place : Option ServiceId) (old new : Option (List LogSeat)) → AreSeatsAt place old → AreSeatsAt place new → seats_at new ≡ seats_at old → IfSome old (λ ss. length ss ≡ 2) → IfSome new (λ ss. length ss ≡ 2)
two_at place old None was are same two = tt
two_at None old (Some ss) was are same two = absurd are
two_at (Some place) None (Some ss) was are same two = absurd was
two_at (Some place) (Some ts) (Some ss) was are same two = same ∙ two

-- all are back
pub two_each : (s : Servers) (old new : GroupHelpers) → AreHelpersOf s old → AreHelpersOf s new → ((k : ℕ) → held new k ≡ held old k) → AreTwoEach old → AreTwoEach new
two_each s old new was are same two = record {
  first = same 1 ∙ two.first;
  second = two_at s.second old.second new.second was.second are.second (same 2) two.second;
  third = two_at s.third old.third new.third was.third are.third (same 3) two.third;
  fourth = two_at s.fourth old.fourth new.fourth was.fourth are.fourth (same 4) two.fourth;
}

at_most : (o : Option (List LogSeat)) → IfSome o (λ ss. length ss ≡ 2) → seats_at o ≤ 2
at_most None two = omega arith
at_most (Some ss) two = omega (arith, two)

-- at most two of each
pub at_most_two : (hs : GroupHelpers) → AreTwoEach hs → (k : ℕ) → held hs k ≤ 2
at_most_two hs two zero = omega arith
at_most_two hs two (suc zero) = omega (arith, two.first)
at_most_two hs two (suc (suc zero)) = at_most hs.second two.second
at_most_two hs two (suc (suc (suc zero))) = at_most hs.third two.third
at_most_two hs two (suc (suc (suc (suc zero)))) = at_most hs.fourth two.fourth
at_most_two hs two (suc (suc (suc (suc (suc k))))) = omega arith
