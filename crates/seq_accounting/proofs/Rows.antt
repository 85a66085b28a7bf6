-- Accounts of two families: a put with cells of both, a put of one, a flush of that one, and a flush of all.
use Rattle.std.proofs.Common.{◌≡◌, ℕ, ◌≤◌, Bool, true, false, cond, ◌&&◌, List, [], ◌∷◌, get_or, refl, sym, ap, ◌∙◌, arith}
use Rattle.seq_accounting.specs.Marks.{first_given, number_of, has_family}
use Rattle.seq_accounting.specs.Accounts.{Accounts, flushed_at, oldest_at, since_at, AreLower}
use Rattle.seq_accounting.specs.Steps.{IsNoted, IsStarted, IsCompleted}
use Rattle.seq_accounting.proofs.StepLaws.{by_region}

abbrev f : List ℕ
f = 102 ∷ []

abbrev g : List ℕ
g = 103 ∷ []

-- before it nothing is flushed or noted
pub record IsBegun (a : Accounts) : Type 0 where
  pub flushed : (r : ℕ) (h : List ℕ) → flushed_at a r h ≡ 0
  pub oldest : (r : ℕ) (h : List ℕ) → oldest_at a r h ≡ 0
  pub since : (r : ℕ) (h : List ℕ) → since_at a r h ≡ 0
  pub current : (r : ℕ) (h : List ℕ) → number_of a.current r h ≡ 0

pub record Row (a1 a2 a3 a4 a5 a6 : Accounts) : Type 0 where
  pub begun : Accounts
  pub is_begun : IsBegun begun
  pub both : IsNoted begun a1 1 1 (f ∷ g ∷ [])
  pub one : IsNoted a1 a2 1 2 (f ∷ [])
  pub starts : IsStarted a2 a3 1 2
  pub completed : IsCompleted a3 a4 (record { region = 1; family = f; number = 2 })
  pub starts_all : IsStarted a4 a5 1 2
  pub completed_all : IsCompleted a5 a6 (record { region = 1; family = []; number = 2 })

module _ (a1 a2 a3 a4 a5 a6 : Accounts) (row : Row a1 a2 a3 a4 a5 a6) where
  -- the flush of f: 2 is flushed of it, and nothing of g
  pub of_f : flushed_at a4 1 f ≡ 2
  of_f = row.completed.flushed 1 f

  pub of_g : flushed_at a4 1 g ≡ 0
  of_g = row.completed.flushed 1 g ∙ rw (row.starts.flushed.whole, row.starts.flushed.flushed, row.one.flushed.whole, row.one.flushed.flushed, row.both.flushed.whole, row.both.flushed.flushed) (row.is_begun.flushed 1 g)

  pub oldest_of_g : oldest_at a4 1 g ≡ 1
  oldest_of_g = row.completed.oldest 1 g ∙ rw (row.starts.oldest.oldest, row.starts.oldest.since) (row.one.oldest 1 g ∙ row.both.oldest 1 g ∙ ap (λ k. first_given k 1) (row.is_begun.oldest 1 g))

  -- so the file stays
  pub stays : AreLower a4 a4.current → ⊥
  stays lower =
      let low = lower 1 g in
      let at : number_of a4.current 1 g ≡ 1 = rw (row.completed.current, row.starts.current) (row.one.current 1 g ∙ row.both.current 1 g) in
      let of = of_g in omega arith

  -- and goes after the flush of all
  pub of_all : (h : List ℕ) → flushed_at a6 1 h ≡ 2
  of_all h = row.completed_all.flushed 1 h

  pub goes : AreLower a6 a6.current
  goes r h = rw (row.completed_all.current, row.starts_all.current, row.completed.current, row.starts.current, row.one.current r h, row.both.current r h, row.is_begun.current r h)
      (by_region 1 r (λ y. cond (y && has_family (f ∷ []) h) 2 (cond (y && has_family (f ∷ g ∷ []) h) 1 0) ≤ flushed_at a6 r h)
      (λ e. let two = sym (ap (λ k. flushed_at a6 k h) e) ∙ of_all h in at_most (has_family (f ∷ []) h) (has_family (f ∷ g ∷ []) h) (flushed_at a6 r h) (omega arith))
      (omega arith))
    where
      at_most : (x y : Bool) (k : ℕ) → 2 ≤ k → cond x 2 (cond y 1 0) ≤ k
      at_most true y k le = omega arith
      at_most false true k le = omega arith
      at_most false false k le = omega arith
