-- The first put that was answered spent, found from the front of the replies.
use Rattle.std.proofs.Common.{Option, ◌++◌, ◌≡◌, ℕ, List, [], ◌∷◌, Contains, Some, None, refl, sym, ap, ◌∙◌, arith, subst}
use Rattle.region_model.specs.Calls.{Call, Put, Answer, PutSpent, Reply}
use Rattle.server_model.proofs.JournalLaws.{contains_cons}
use Rattle.run_model.proofs.Choices.{with_first}
use Rattle.run_model.specs.declared.spent.Spent.{Spent}
use Rattle.run_model.specs.Spent.{IsSpent, IsFirstSpent, region_of, told_spent, first_of, first_spent, OnlyPuts, FirstSpentIsFirst}

-- an answer tells it, or tells nothing
told_cases : (P : Answer → Type 0) → ((last : ℕ) → P (PutSpent last)) → ((answer : Answer) → (IsSpent answer → ⊥) → ((call : Call) → told_spent call answer ≡ None) → P answer) → (answer : Answer) → P answer
told_cases P spent other (PutSpent last) = spent last
told_cases P spent other answer = other answer (λ s. s) (λ call. refl)

fewer : (x : Reply) (xs : List Reply) → OnlyPuts (x ∷ xs) → OnlyPuts xs
fewer x xs only y is = only y (contains_cons x xs y is)

here : (x : Reply) (xs : List Reply) (s : Spent) (last : ℕ) → OnlyPuts (x ∷ xs) → x.answer ≡ PutSpent last → record { region = region_of x.call; last = last } ≡ s → IsFirstSpent s (x ∷ xs)
here x xs s last only answer same =
    let put = only x (0, omega arith, refl) (subst IsSpent (sym answer) tt) in
    record {
      before = [];
      reply = x;
      after = xs;
      split = refl;
      none_before = λ y is. absurd (omega (arith, is.1));
      sync = put.1;
      batch = put.2;
      put = put.3 ∙ ap (λ r. Put r put.1 put.2) (sym (ap region_of put.3) ∙ ap (λ (t : Spent). t.region) same);
      answer = answer ∙ ap PutSpent (ap (λ (t : Spent). t.last) same);
    }

behind : (x : Reply) (xs : List Reply) (s : Spent) → (IsSpent x.answer → ⊥) → IsFirstSpent s xs → IsFirstSpent s (x ∷ xs)
behind x xs s other r = record {
  before = x ∷ r.before;
  reply = r.reply;
  after = r.after;
  split = ap (λ (l : List Reply). x ∷ l) r.split;
  none_before = with_first (λ (y : Reply). IsSpent y.answer → ⊥) x r.before other r.none_before;
  sync = r.sync;
  batch = r.batch;
  put = r.put;
  answer = r.answer;
}

pub found : (replies : List Reply) → OnlyPuts replies → (s : Spent) → first_spent replies ≡ Some s → IsFirstSpent s replies
found [] only s is = absurd cc
found (x ∷ xs) only s is =
    told_cases (λ answer. x.answer ≡ answer → first_of (told_spent x.call answer) (first_spent xs) ≡ Some s → IsFirstSpent s (x ∷ xs))
    (λ last answer found_here. let same : record { region = region_of x.call; last = last } ≡ s = cc in here x xs s last only answer same)
    (λ answer other nothing at found_later.
    behind x xs s (λ spent. other (subst IsSpent at spent)) (found xs (fewer x xs only) s (sym (ap (λ o. first_of o (first_spent xs)) (nothing x.call)) ∙ found_later)))
    x.answer refl is

pub none_found : (replies : List Reply) → first_spent replies ≡ None → (x : Reply) → Contains replies x → IsSpent x.answer → ⊥
none_found [] is = λ y at spent. absurd (omega (arith, at.1))
none_found (x ∷ xs) is =
    told_cases (λ answer. x.answer ≡ answer → first_of (told_spent x.call answer) (first_spent xs) ≡ None → (y : Reply) → Contains (x ∷ xs) y → IsSpent y.answer → ⊥)
    (λ last answer found_here. absurd cc)
    (λ answer other nothing at none_later. with_first (λ (y : Reply). IsSpent y.answer → ⊥) x xs (λ spent. other (subst IsSpent at spent))
    (none_found xs (sym (ap (λ o. first_of o (first_spent xs)) (nothing x.call)) ∙ none_later)))
    x.answer refl is

pub first_is_first : FirstSpentIsFirst
first_is_first replies only = (found replies only, none_found replies)

-- ---- parts of the replies

first_none : (o : Option Spent) → first_of o None ≡ o
first_none None = refl
first_none (Some s) = refl

pub first_assoc : (a b c : Option Spent) → first_of (first_of a b) c ≡ first_of a (first_of b c)
first_assoc None b c = refl
first_assoc (Some s) b c = refl

pub first_append : (xs ys : List Reply) → first_spent (xs ++ ys) ≡ first_of (first_spent xs) (first_spent ys)
first_append [] ys = refl
first_append (x ∷ xs) ys = ap (first_of (told_spent x.call x.answer)) (first_append xs ys) ∙ sym (first_assoc (told_spent x.call x.answer) (first_spent xs) (first_spent ys))

-- one reply more
pub first_push : (xs : List Reply) (x : Reply) → first_spent (xs ++ x ∷ []) ≡ first_of (first_spent xs) (told_spent x.call x.answer)
first_push xs x = first_append xs (x ∷ []) ∙ ap (first_of (first_spent xs)) (first_none (told_spent x.call x.answer))
