-- A log was begun on a group's disk, or not.
use Rattle.std.proofs.Common.{◌≡◌, ◌≤◌, Option, Some, None, option_map, refl, sym, subst}
use Rattle.disk_images.specs.declared.disk.Disk.{Ghosts}
use Rattle.disk_images.specs.Calls.{Rose}
use Rattle.log_model.specs.declared.damage.Damage.{Damage}
use Rattle.handler_threads.specs.region_calls.declared.refusal.StartWhy.{StartWhy}
use Rattle.handler_threads.specs.region_calls.declared.refusal.StartWhy.TheVariants as starts
use Rattle.group_lists.specs.Lists.{AtBoth, OfBoth}
use Rattle.group_servers.specs.Refusals.{GoesOn, IsNotWrong, Tells}
use Rattle.group_servers.proofs.Disks.{rose_since}
use Rattle.group_servers.specs.declared.recovering.FoundStore.{FoundStore}
use Rattle.group_servers.specs.declared.beginning.Unbegun.{Unbegun}
use Rattle.group_servers.specs.Beginning.{why_start, IsUnbegunFrom}

module _ {D : Type 0} (g : Ghosts D) where
  tells_why : (why : StartWhy) (found left : D) → (why ≡ starts.DiskFault → Rose (g.faults found) (g.faults left))
      → ((damage : Damage) → why ≡ starts.Damaged damage → ⊥) → Tells g (why_start why) found left
  tells_why starts.Memory found left rose whole = tt
  tells_why starts.DiskFault found left rose whole = rose refl
  tells_why (starts.Damaged damage) found left rose whole = absurd (whole damage refl)

  -- counted from when the disk was found
  pub tells_start : (why : StartWhy) (found disk left : D) → ((damage : Damage) → why ≡ starts.Damaged damage → ⊥)
      → (why ≡ starts.DiskFault → Rose (g.faults disk) (g.faults left)) → g.faults found ≤ g.faults disk → Tells g (why_start why) found left
  tells_start why found disk left whole rose later = tells_why why found left (λ is. rose_since (g.faults found) (g.faults disk) (g.faults left) later (rose is)) whole

pub never_wrong : (why : StartWhy) → IsNotWrong (why_start why)
never_wrong starts.Memory region is = absurd (cc is)
never_wrong starts.DiskFault region is = absurd (cc is)
never_wrong (starts.Damaged damage) region is = absurd (cc is)

pub both_none : {A B C : Type 0} (P : A → B → Type 0) (Q : A → C → Type 0) (x : Option A) → AtBoth P x None → AtBoth Q x None
both_none P Q None both = tt
both_none P Q (Some x) both = absurd both

-- what holds of one that is there
pub at_some : {A B C : Type 0} (P : A → B → Type 0) (Q : A → C → Type 0) (x : Option A) (y : B) (z : C) → ((a : A) → P a y → Q a z) → OfBoth P x (Some y) → AtBoth Q x (Some z)
at_some P Q None y z then of = absurd of
at_some P Q (Some x) y z then of = then x of

pub of_mapped : {A B C : Type 0} (P : A → B → Type 0) (Q : A → C → Type 0) (f : B → C) → ((a : A) (b : B) → P a b → Q a (f b)) → (x : Option A) (y : Option B) → AtBoth P x y
    → AtBoth Q x (option_map f y)
of_mapped P Q f then None None both = tt
of_mapped P Q f then None (Some y) both = absurd both
of_mapped P Q f then (Some x) None both = absurd both
of_mapped P Q f then (Some x) (Some y) both = then x y both

pub of_weaker : {A B C : Type 0} (P : A → B → Type 0) (Q : A → C → Type 0) (x : Option A) (y : B) (z : C) → ((a : A) → P a y → Q a z) → OfBoth P x (Some y) → OfBoth Q x (Some z)
of_weaker P Q None y z then of = absurd of
of_weaker P Q (Some x) y z then of = then x of

module _ {D : Type 0} (g : Ghosts D) where
  pub of_right : (x : Option (FoundStore D)) (e : Unbegun D) → OfBoth (IsUnbegunFrom g) x (Some e) → IsNotWrong e.why
  of_right None e of = absurd of
  of_right (Some s) e of = of.right

  pub gone_to : (found d e : D) → e ≡ d → GoesOn g found d → GoesOn g found e
  gone_to found d e same on = subst (λ (x : D). GoesOn g found x) (sym same) on
