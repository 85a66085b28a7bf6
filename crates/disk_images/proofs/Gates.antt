-- What the writes of the gate protocol may leave.
use Rattle.std.proofs.Common.{◌≡◌, ◌≢◌, ◌⊎◌, inl, inr, ℕ, ◌+◌, ◌≤◌, List, [], ◌∷◌, ◌++◌, length, Some, refl, ◌∙◌, ap, subst, arith, length-append, append_assoc}
use Rattle.std.proofs.lemmas.Bool.{cases_eq}
use Rattle.log_model.specs.declared.name.Name.{Name}
use Rattle.disk_images.specs.Crash.{DiskView, Torn, Throughout, OnlyAt, overwritten}
use Rattle.disk_images.specs.OneFile.{IsDurableFile, TornAt}
use Rattle.disk_images.specs.Gate.{IsShut, ClosedOrOpen}
use Rattle.disk_images.proofs.Moments.{weaker}
use Rattle.disk_images.proofs.Torn.{only_torn}
use Rattle.disk_images.proofs.Pieces.{torn_end, torn_byte, overwritten_end, overwritten_byte}

abbrev shut_gate : ℕ
shut_gate = 0

zero_shut : shut_gate ≢ 165
zero_shut is = absurd (omega (arith, is))

-- whatever the gate's byte is
at_gate : (front behind : List ℕ) (gate : ℕ) (text : List ℕ) → text ≡ front ++ gate ∷ behind → IsShut front text ⊎ (text ≡ front ++ 165 ∷ behind)
at_gate front behind gate text is = elim (cases_eq gate 165) as (λ _. IsShut front text ⊎ (text ≡ front ++ 165 ∷ behind)) [
  | inl open_gate ↦ inr (is ∙ ap (λ (h : ℕ). front ++ h ∷ behind) open_gate)
  | inr shut ↦ inl (record { gate = gate; rest = behind; shut = shut; is = is })
]

module _ (name : Name) (front behind : List ℕ) (gate : ℕ) (is : gate ≡ length front) (v w : DiskView) where
  torn_gate : (closed : ℕ) (d : List ℕ) → Torn gate 1 (front ++ closed ∷ behind) d → ClosedOrOpen front behind (Some d)
  torn_gate closed d torn = let byte = torn_byte front behind closed gate d is torn in (d, refl, at_gate front behind byte.0 d byte.1)

  pub opening : (closed : ℕ) → IsDurableFile v name (front ++ closed ∷ behind) → Throughout (TornAt name gate 1 v) 2 v w → Throughout (OnlyAt name (ClosedOrOpen front behind) v) 2 v w
  opening closed file over = weaker _ (OnlyAt name (ClosedOrOpen front behind) v) 2 v w (λ J torn. only_torn name gate 1 _ _ v J file.durable (torn_gate closed) torn) over

  pub opened : (closed : ℕ) → IsDurableFile w name (overwritten (front ++ closed ∷ behind) gate (165 ∷ [])) → IsDurableFile w name (front ++ 165 ∷ behind)
  opened closed = subst (λ (text : List ℕ). IsDurableFile w name text) (overwritten_byte front behind closed 165 gate is)

  size : gate + 1 ≡ length (front ++ 0 ∷ [])
  size = omega (arith, is, length-append front (0 ∷ []))

  torn_behind : (n : ℕ) (d : List ℕ) → Torn (gate + 1) n (front ++ 0 ∷ []) d → ClosedOrOpen front behind (Some d)
  torn_behind n d torn =
      (d, refl, inl (record { gate = 0; rest = _; shut = zero_shut; is = torn_end (front ++ 0 ∷ []) (gate + 1) n d size torn ∙ append_assoc front (0 ∷ []) _ }))

  pub behind_written : (n : ℕ) → IsDurableFile v name (front ++ 0 ∷ []) → Throughout (TornAt name (gate + 1) n v) 2 v w → Throughout (OnlyAt name (ClosedOrOpen front behind) v) 2 v w
  behind_written n file over = weaker _ (OnlyAt name (ClosedOrOpen front behind) v) 2 v w (λ J torn. only_torn name (gate + 1) n _ _ v J file.durable (torn_behind n) torn) over

  pub written : IsDurableFile w name (overwritten (front ++ 0 ∷ []) (gate + 1) behind) → IsDurableFile w name (front ++ 0 ∷ behind)
  written = subst (λ (text : List ℕ). IsDurableFile w name text) (overwritten_end _ _ (gate + 1) size ∙ append_assoc front (0 ∷ []) behind)

  pub room : gate + 1 ≤ length (front ++ 0 ∷ [])
  room = omega (arith, size)

  pub reaches : (closed : ℕ) → gate ≤ length (front ++ closed ∷ behind)
  reaches closed = omega (arith, is, length-append front (closed ∷ behind))
