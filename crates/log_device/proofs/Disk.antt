-- What a step on one file leaves of the others.
use Rattle.std.proofs.Common.{◌≡◌, ◌≢◌, inl, inr, ℕ, ◌≤◌, List, Option, Some, None, refl, sym, ap, ◌∙◌, arith}
use Rattle.std.proofs.Math.Logic.{∥∥₁_elim}
use Rattle.log_model.specs.declared.name.Name.{Name}
use Rattle.log_model.specs.declared.name.NameKind.TheVariants as kinds
use Rattle.log_model.specs.Entry.{Entry}
use Rattle.log_model.specs.Files.{Files, SameBut, IsPresent}
use Rattle.disk_images.specs.Crash.{DiskView, Throughout, OnlyAt}
use Rattle.disk_images.specs.OneFile.{Touches, IsDurableFile}
use Rattle.disk_images.proofs.Moments.{at_end}
use Rattle.recovery_laws.proofs.Names.{name_cases}
use Rattle.log_device.specs.Keeps.{IsUpTo, IsClosedLog, log_name}

-- another file that is durable stays so
pub still_durable : (name m : Name) (Q : Option (List ℕ) → Type 0) (by : ℕ) (v w : DiskView) (bytes : List ℕ) → m ≢ name → Throughout (OnlyAt name Q v) by v w → Touches name v w
    → IsDurableFile v m bytes → IsDurableFile w m bytes
still_durable name m Q by v w bytes apart over touches file = record {
  reads = touches.others m apart ∙ file.reads;
  durable = λ J now. let only = at_end (OnlyAt name Q v) by v w over J now in only.elsewhere m apart ∙ file.durable only.base only.was;
  unmoved = λ n former. file.unmoved n (touches.formerly m n former);
}

pub still_closed : (name : Name) (Q : Option (List ℕ) → Type 0) (by : ℕ) (v w : DiskView) (number : ℕ) (es : List Entry) → log_name number ≢ name → Throughout (OnlyAt name Q v) by v w → Touches name v w
    → IsClosedLog v number es → IsClosedLog w number es
still_closed name Q by v w number es apart over touches closed = record { each = closed.each; file = still_durable name (log_name number) Q by v w _ apart over touches closed.file }

-- presence elsewhere
pub present_before : (name m : Name) (I J : Files) → SameBut name I J → m ≢ name → IsPresent J m → IsPresent I m
present_before name m I J same apart there none = there (same m apart ∙ none)

-- the numbers of logs stay below this one
pub up_to_but : (name : Name) (n : ℕ) (I J : Files) → SameBut name I J → (name.kind ≡ kinds.Log → (name.region ≡ 0) × (name.number ≤ n)) → IsUpTo n I → IsUpTo n J
up_to_but name n I J same here up m kind there = elim (name_cases m name) as (λ _. (m.region ≡ 0) × (m.number ≤ n)) [
  | inl is ↦
      let h = here (ap (λ (x : Name). x.kind) (sym is) ∙ kind) in
      let number : m.number ≡ name.number = ap (λ (x : Name). x.number) is in
      (ap (λ (x : Name). x.region) is ∙ h.0, omega (arith, number, h.1))
  | inr apart ↦ up m kind (present_before name m I J same apart there)
]

-- what isn't there by some witness isn't there
pub absent_by : {X : Type 0} (image : Option (List ℕ)) → ∥ X ∥₁ → (X → image ≡ None) → image ≡ None
absent_by None some then = refl
absent_by (Some bytes) some then = absurd (∥∥₁_elim some (λ a b. absurd a) (λ x. absurd (cc (then x))))
