-- An accounting before anything is noted.
use Rattle.std.proofs.Common.{◌≡◌, ℕ, ◌<◌, ◌≤◌, max, List, [], length, get_or, replicate, Contains, refl, sym, ap, subst, ◌∙◌, arith}
use Rattle.seq_accounting.specs.Marks.{FamilyMark, first_given, number_of}
use Rattle.seq_accounting.specs.Accounts.{ClosedFile, Accounts, IsBefore, flushed_at, since_at, oldest_at}
use Rattle.seq_accounting.specs.Noted.{HasNoted}
use Rattle.seq_accounting.specs.Order.{IsInOrder}
use Rattle.seq_accounting.proofs.OrderLaws.{nothing, unmarked, cleared}
use Rattle.seq_accounting.proofs.NotedLaws.{noted_nothing}

pub record IsNew (a : Accounts) : Type 0 where
  pub wide : length a.whole ≡ 65
  pub noted : a.noted ≡ a.whole
  pub flushing : a.flushing ≡ replicate 65 0
  pub flushed : a.flushed ≡ replicate 65 []
  pub oldest : a.oldest ≡ replicate 65 []
  pub since : a.since ≡ replicate 65 []
  pub current : a.current ≡ []
  pub closed : a.closed ≡ []

unnumbered : (xs : List (List FamilyMark)) → xs ≡ replicate 65 [] → (r : ℕ) (f : List ℕ) → number_of (get_or xs r []) r f ≡ 0
unnumbered xs is r f = ap (λ l. number_of (get_or l r []) r f) is ∙ ap (λ ms. number_of ms r f) (unmarked 65 r)

idle : (a : Accounts) → IsNew a → (r : ℕ) → get_or a.flushing r 0 ≡ 0
idle a is r = ap (λ l. get_or l r 0) is.flushing ∙ nothing 65 r

pub order_new : (a : Accounts) → IsNew a → IsInOrder a
order_new a is = record {
  wide = record {
    whole = is.wide;
    noted = ap length is.noted ∙ is.wide;
    flushing = ap length is.flushing;
    flushed = ap length is.flushed;
    oldest = ap length is.oldest;
    since = ap length is.since;
  };
  regions = λ r. let z = idle a is r in record {
    flushed_noted = λ f. let none = unnumbered a.flushed is.flushed r f in let same = ap (λ l. get_or l r 0) is.noted in omega arith;
    current_noted = λ f. cleared a.current a.noted is.current r f;
    flushing_noted = omega arith;
    flushing_above = λ given. absurd (omega arith);
    since_none = λ _ f. unnumbered a.since is.since r f;
  };
  rising = rw is.closed (λ i j d below within. absurd (omega arith));
  files = rw is.closed (λ c there. let none = there.1 in absurd (omega arith));
}

pub history_new : (a : Accounts) → IsNew a → HasNoted a []
history_new a is = noted_nothing a
    (λ r f. ap (λ k. first_given k (since_at a r f)) (unnumbered a.oldest is.oldest r f) ∙ unnumbered a.since is.since r f)
    (idle a is)
