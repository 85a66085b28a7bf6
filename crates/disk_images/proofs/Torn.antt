-- What a torn write may leave of one file.
use Rattle.std.proofs.Common.{ℕ, ◌+◌, List, length, Option, Some, None, refl, sym, ◌∙◌, subst, arith}
use Rattle.log_model.specs.declared.name.Name.{Name}
use Rattle.log_model.specs.Files.{Files, content}
use Rattle.disk_images.specs.Crash.{DiskView, IsImageNow, IsDurable, OnlyAt, Torn, TornFile, Follows, Throughout}
use Rattle.disk_images.specs.Calls.{Writes, WrittenIn}
use Rattle.disk_images.specs.OneFile.{IsUnmoved, TornAt}
use Rattle.disk_images.proofs.Moments.{in_one_call, joined, weaker, at_end}

pub untorn : (at n : ℕ) (c : List ℕ) → Torn at n c c
untorn at n c = record { before = refl; after = refl; no_shorter = omega arith; no_longer = omega arith }

pub untorn_file : (at n : ℕ) (c : Option (List ℕ)) → TornFile at n c c
untorn_file at n None = refl
untorn_file at n (Some c) = (c, refl, untorn at n c)

pub unchanged : (name : Name) (at n : ℕ) (v : DiskView) (J : Files) → IsImageNow v J → TornAt name at n v J
unchanged name at n v J now = record { base = J; was = now; elsewhere = λ m other. refl; here = untorn_file at n (content J name) }

-- an image after a write to a file that has not moved
pub written_image : (name : Name) (at n : ℕ) (v w : DiskView) → IsUnmoved v name → Follows (WrittenIn name (v.formerly name) at n) v w → (J : Files) → IsImageNow w J → TornAt name at n v J
written_image name at n v w unmoved follows J now =
    let from = follows J now in
    record { base = from.0; was = from.1; elsewhere = λ m other. from.2.elsewhere m other (unmoved m); here = from.2.here }

pub writing : {T E : Type 0} {result : Rattle.std.specs.Prelude.Result T E} (name : Name) (at : ℕ) (bytes : List ℕ) (v w : DiskView) → IsUnmoved v name → Writes name at bytes result v w → Throughout (TornAt name at (length bytes) v) 1 v w
writing name at bytes v w unmoved writes =
    in_one_call (TornAt name at (length bytes) v) v w (unchanged name at (length bytes) v) writes.time (written_image name at (length bytes) v w unmoved writes.crash)

-- what a torn write leaves of a durable file
pub only_torn : (name : Name) (at n : ℕ) (c : List ℕ) (Q : Option (List ℕ) → Type 0) (v : DiskView) (J : Files)
    → IsDurable v name c → ((d : List ℕ) → Torn at n c d → Q (Some d)) → TornAt name at n v J → OnlyAt name Q v J
only_torn name at n c Q v J durable leaves torn =
    let from = subst (λ (b : Option (List ℕ)). TornFile at n b (content J name)) (durable torn.base torn.was) torn.here in
    record { base = torn.base; was = torn.was; elsewhere = torn.elsewhere; here = subst Q (sym from.1) (leaves from.0 from.2) }

-- a change to one file after changes to it alone is a change to it alone
pub only_later : (name : Name) (Q R : Option (List ℕ) → Type 0) (u v : DiskView) (J : Files)
    → ((I : Files) → IsImageNow v I → OnlyAt name R u I) → OnlyAt name Q v J → OnlyAt name Q u J
only_later name Q R u v J earlier later =
    let first = earlier later.base later.was in
    record { base = first.base; was = first.was; elsewhere = λ m other. later.elsewhere m other ∙ first.elsewhere m other; here = later.here }

pub then_only : (name : Name) (Q : Option (List ℕ) → Type 0) (m n : ℕ) (u v w : DiskView)
    → Throughout (OnlyAt name Q u) m u v → Throughout (OnlyAt name Q v) n v w → Throughout (OnlyAt name Q u) (m + n) u w
then_only name Q m n u v w first second =
    joined (OnlyAt name Q u) m n u v w first (weaker (OnlyAt name Q v) (OnlyAt name Q u) n v w (λ J later. only_later name Q Q u v J (at_end (OnlyAt name Q u) m u v first) later) second)

pub only_unchanged : (name : Name) (Q : Option (List ℕ) → Type 0) (v : DiskView) (J : Files) → ((I : Files) → IsImageNow v I → Q (content I name)) → IsImageNow v J → OnlyAt name Q v J
only_unchanged name Q v J has now = record { base = J; was = now; elsewhere = λ m other. refl; here = has J now }

pub only_weaker : (name : Name) (Q R : Option (List ℕ) → Type 0) (m : ℕ) (v w : DiskView) → ((image : Option (List ℕ)) → Q image → R image) → Throughout (OnlyAt name Q v) m v w → Throughout (OnlyAt name R v) m v w
only_weaker name Q R m v w then over =
    weaker (OnlyAt name Q v) (OnlyAt name R v) m v w (λ J only. record { base = only.base; was = only.was; elsewhere = only.elsewhere; here = then (content J name) only.here }) over
