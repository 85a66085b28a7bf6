-- What the gate of a store file shows.
use Rattle.std.proofs.Common.{◌≡◌, ◌≢◌, inl, inr, ℕ, List, [], ◌∷◌, length, take, get_or, Option, Some, refl, sym, ap, ◌∙◌, arith}
use Rattle.log_model.specs.declared.name.Name.{Name}
use Rattle.log_model.specs.Files.{content}
use Rattle.disk_images.specs.Crash.{DiskView, IsInNoImage, Throughout, OnlyAt}
use Rattle.disk_images.specs.OneFile.{IsShort, IsDurableFile}
use Rattle.disk_images.specs.Gate.{IsFronted, IsFilled, ClosedOrOpen}
use Rattle.disk_images.proofs.Moments.{at_once, more_time}
use Rattle.disk_images.proofs.Torn.{only_unchanged, only_weaker, then_only}
use Rattle.recovery_laws.specs.Kept.{IsNotThere}
use Rattle.store_file.specs.Whole.{IsWholeOrNot}

-- a file whose first byte isn't 165 isn't there
shut : (image : Option (List ℕ)) (text rest : List ℕ) (gate : ℕ) → gate ≢ 165 → image ≡ Some text → text ≡ gate ∷ rest → IsNotThere image
shut image text rest gate closed there is bytes reads gate_open =
    let same : Some text ≡ Some bytes = sym there ∙ reads in
    let one : text ≡ bytes = cc (same) in
    let first : gate ≡ 165 = ap (λ (l : List ℕ). get_or l 0 0) (ap (take 1) (sym is ∙ one) ∙ gate_open.1) in
    closed first

abbrev no_gate : ℕ
no_gate = 0

no_gate_shut : no_gate ≢ 165
no_gate_shut is = absurd (omega (arith, is))

pub fronted_not_there : (image : Option (List ℕ)) → IsFronted (0 ∷ []) image → IsNotThere image
fronted_not_there image has = shut image has.0 has.1 0 no_gate_shut has.2 has.3

pub short_not_there : (image : Option (List ℕ)) → IsShort 1 image → IsNotThere image
short_not_there image (inl none) bytes there gate = absurd (cc (none, there))
short_not_there image (inr some) bytes there gate =
    let same : Some some.0 ≡ Some bytes = sym some.1 ∙ there in
    let one : some.0 ≡ bytes = cc (same) in
    absurd (omega (arith, some.2, gate.0, ap length one))

gate_whole : (behind : List ℕ) (image : Option (List ℕ)) → ClosedOrOpen [] behind image → IsWholeOrNot (165 ∷ behind) image
gate_whole behind image has = elim has.2 as (λ _. IsWholeOrNot (165 ∷ behind) image) [
  | inl closed ↦ inl (shut image has.0 closed.rest closed.gate closed.shut has.1 closed.is)
  | inr is_open ↦ inr (has.1 ∙ ap (λ (l : List ℕ). Some l) is_open)
]

-- before the first call the file is in no image
pub not_begun : (name : Name) (m : ℕ) (v : DiskView) → IsInNoImage v name → Throughout (OnlyAt name IsNotThere v) m v v
not_begun name m v none =
    more_time (OnlyAt name IsNotThere v) 0 m v v (omega arith)
    (at_once (OnlyAt name IsNotThere v) v (λ J now. only_unchanged name IsNotThere v J (λ I there bytes has gate. absurd (cc (none I there, has))) now))

pub begun_filled : (name : Name) (w : DiskView) → IsDurableFile w name (0 ∷ []) → IsFilled w name (0 ∷ []) (0 ∷ [])
begun_filled name w file = record { reads = file.reads; fronted = λ J now. (0 ∷ [], [], file.durable J now, refl); unmoved = file.unmoved; behind = omega arith }

pub begin_moments : (name : Name) (v w : DiskView) → Throughout (OnlyAt name (IsShort 1) v) 3 v w → Throughout (OnlyAt name IsNotThere v) 3 v w
begin_moments name v w over = only_weaker name (IsShort 1) IsNotThere 3 v w short_not_there over

-- a closed gate that stays so
pub shut_moments : (name : Name) (m : ℕ) (v w : DiskView) → Throughout (OnlyAt name (IsFronted (0 ∷ [])) v) m v w → Throughout (OnlyAt name IsNotThere v) m v w
shut_moments name m v w over = only_weaker name (IsFronted (0 ∷ [])) IsNotThere m v w fronted_not_there over

pub shut_still : (name : Name) (text : List ℕ) (m : ℕ) (v : DiskView) → IsFilled v name (0 ∷ []) text → Throughout (OnlyAt name IsNotThere v) m v v
shut_still name text m v filled =
    more_time (OnlyAt name IsNotThere v) 0 m v v (omega arith)
    (at_once (OnlyAt name IsNotThere v) v (λ J now. only_unchanged name IsNotThere v J (λ I there. fronted_not_there (content I name) (filled.fronted I there)) now))

-- what isn't there is whole or not
pub or_whole : (name : Name) (text : List ℕ) (m : ℕ) (v w : DiskView) → Throughout (OnlyAt name IsNotThere v) m v w → Throughout (OnlyAt name (IsWholeOrNot text) v) m v w
or_whole name text m v w over = only_weaker name IsNotThere (IsWholeOrNot text) m v w (λ image has. inl has) over

pub commit_moments : (name : Name) (behind : List ℕ) (u v w : DiskView) → Throughout (OnlyAt name (IsFronted (0 ∷ [])) u) 1 u v → Throughout (OnlyAt name (ClosedOrOpen [] behind) v) 2 v w
    → Throughout (OnlyAt name (IsWholeOrNot (165 ∷ behind)) u) 3 u w
commit_moments name behind u v w first second =
    then_only name (IsWholeOrNot (165 ∷ behind)) 1 2 u v w (or_whole name (165 ∷ behind) 1 u v (shut_moments name 1 u v first))
    (only_weaker name (ClosedOrOpen [] behind) (IsWholeOrNot (165 ∷ behind)) 2 v w (gate_whole behind) second)
