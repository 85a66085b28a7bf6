-- What a reader sees of a scan's cells is the answer of a get.
use Rattle.std.proofs.Common.{◌≡◌, ℕ, List, refl, sym, ap, ◌∙◌}
use Rattle.cell_model.specs.Order.{NumberedCell}
use Rattle.mask_model.specs.Masked.{masked}
use Rattle.region_model.specs.Journal.{visible}
use Rattle.region_model.specs.Calls.{Raw, Newest, View, Answer, Scanned, ScanMemory}
use Rattle.server_model.specs.Pass.{Pass, Naming}
use Rattle.server_model.specs.Steps.{Scans}
use Rattle.server_model.proofs.PassLaws.{later_here}

-- out of memory before a scan
pub scans_nothing : (name : Naming) (view : View) (r : ℕ) (from to : List ℕ) (p : Pass) → Scans name view r from to ScanMemory p p
scans_nothing name view r from to p = record { answered = refl; later = later_here p; own = λ s. record { own = refl; spent = refl }; cells = λ q cells is. absurd cc; used = refl }

module _ (name : Naming) (r : ℕ) (from to : List ℕ) (old new : Pass) where
  -- out of memory after a scan
  pub got_nothing : (view : View) (answer : Answer) → Scans name Raw r from to answer old new → Scans name view r from to ScanMemory old new
  got_nothing view answer s = record { answered = refl; later = s.later; own = s.own; cells = λ q cells is. absurd cc; used = s.used }

  -- what is seen of the cells of a scan, at its point
  pub got_of : (versions p : ℕ) (cells : List NumberedCell) → Scans name Raw r from to (Scanned p cells) old new
      → Scans name (Newest versions) r from to (Scanned p (masked versions cells)) old new
  got_of versions p cells s = record {
    answered = refl;
    later = s.later;
    own = s.own;
    cells = λ q seen is.
        let at : p ≡ q = cc in
        let same : masked versions cells ≡ seen = cc in
        let was = s.cells p cells refl in
        (sym at ∙ was.0, sym same ∙ ap (masked versions) (was.1 ∙ ap (λ n. visible (name.bases r).content (new.known r).shown n from to) at));
    used = s.used;
  }
