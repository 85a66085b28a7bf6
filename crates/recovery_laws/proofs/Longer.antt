-- What recovers with some of a list's first entries, where the list grows at its end, or at its front with what the old files have already.
use Rattle.std.proofs.Common.{◌≡◌, inl, inr, ℕ, zero, suc, ◌≤◌, ◌+◌, List, [], ◌∷◌, ◌++◌, length, take, refl, sym, ap, ◌∙◌, subst, arith}
use Rattle.std.proofs.lemmas.Bool.{cases_lt}
use Rattle.std.proofs.lemmas.List.{take_all}
use Rattle.log_model.specs.Entry.{Entry}
use Rattle.log_model.specs.Files.{Files}
use Rattle.log_model.specs.Recovered.{IsLast}
use Rattle.recovery_laws.specs.Change.{RecoversWith, LastsWith, RecoversSome, last_of}
use Rattle.recovery_laws.specs.Kept.{Kept, IsLike, IsOrderly}
use Rattle.recovery_laws.proofs.Likes.{with_both, like_recovers}
use Rattle.recovery_laws.proofs.Lasts.{like_lasts}
use Rattle.recovery_laws.proofs.Rising.{last_of-append}

take_front : (xs ys : List Entry) (c : ℕ) → c ≤ length xs → take c (xs ++ ys) ≡ take c xs
take_front [] ys c le = let zero_taken : c ≡ 0 = omega (arith, le) in ap (λ (k : ℕ). take k ys) zero_taken ∙ sym (ap (λ (k : ℕ). take k []) zero_taken)
take_front (x ∷ xs) ys zero le = refl
take_front (x ∷ xs) ys (suc c) le = ap (λ (l : List Entry). x ∷ l) (take_front xs ys c (omega arith))

take_behind : (xs ys : List Entry) (c : ℕ) → take (length xs + c) (xs ++ ys) ≡ xs ++ take c ys
take_behind [] ys c = let same : 0 + c ≡ c = omega arith in ap (λ (k : ℕ). take k ys) same
take_behind (x ∷ xs) ys c = let same : suc (length xs) + c ≡ suc (length xs + c) = omega arith in ap (λ (k : ℕ). take k (x ∷ (xs ++ ys))) same ∙ ap (λ (l : List Entry). x ∷ l) (take_behind xs ys c)

-- the same entries stand in front of a longer list
first_taken : (es more : List Entry) (c : ℕ) → (d : ℕ) × (take c es ≡ take d (es ++ more))
first_taken es more c = elim (cases_lt (length es) c) as (λ _. (d : ℕ) × (take c es ≡ take d (es ++ more))) [
  | inl past ↦ (length es, take_all c es (omega (arith, past)) ∙ sym (take_front es more (length es) (omega arith) ∙ take_all (length es) es (omega arith)))
  | inr within ↦ (c, sym (take_front es more c within))
]

-- the list may grow at its end
pub longer : (old : Files) (es more : List Entry) (J : Files) → RecoversSome old es J → RecoversSome old (es ++ more) J
longer old es more J h =
    let d = first_taken es more h.count in
    record { fit = h.fit; count = d.0; recovered = subst (λ (l : List Entry). RecoversWith old l J) d.1 h.recovered; last = subst (λ (l : List Entry). LastsWith old l J) d.1 h.last }

-- what some files have of it already stands in front
pub from_base : (base F : Files) (first more : List Entry) (J : Files) → RecoversWith base first F → LastsWith base first F → RecoversSome F more J → RecoversSome base (first ++ more) J
from_base base F first more J had went h =
    let all : first ++ take h.count more ≡ take (length first + h.count) (first ++ more) = sym (take_behind first more h.count) in
    record {
      fit = h.fit;
      count = length first + h.count;
      recovered = subst (λ (l : List Entry). RecoversWith base l J) all (with_both base F J first (take h.count more) had h.recovered);
      last = subst (λ (l : List Entry). LastsWith base l J) all (λ r n is. subst (λ (m : ℕ). IsLast J r m) (sym (last_of-append r n first (take h.count more))) (h.last r (last_of r n first) (went r n is)));
    }

-- of what is kept
pub kept_from_base : (k : Kept) (F : Files) → IsLike k F → IsOrderly k → (J : Files) → RecoversSome F k.staged J → RecoversSome k.base (k.durable ++ k.staged) J
kept_from_base k F like orderly J h = from_base k.base F k.durable k.staged J (like_recovers k F like) (like_lasts k F like orderly) h
