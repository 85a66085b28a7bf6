-- A disk without files is a store that was opened.
use Rattle.std.proofs.Common.{◌≡◌, inr, ℕ, ◌+◌, ◌≤◌, ◌^◌, List, Some, Contains, refl, sym, ◌∙◌, arith}
use Rattle.log_model.specs.declared.name.Name.{Name}
use Rattle.log_model.specs.Files.{content, IsAbsent, IsFit}
use Rattle.log_model.specs.Recovered.{IsFlushed}
use Rattle.disk_images.specs.Crash.{DiskView, IsQuiet}
use Rattle.log_ledger.specs.declared.base.RegionBase.{RegionBase}
use Rattle.log_device.specs.Opened.{IsOpened}

module _ (v : DiskView) (regions : List RegionBase) (empty : (m : Name) → IsAbsent v.files m) (none_gone : (m : Name) → ¬ v.gone m) (quiet : IsQuiet v)
    (nothing : (m : RegionBase) → Contains regions m → 0 ≡ m.flushed) where
  no_file : (m : Name) (bytes : List ℕ) → content v.files m ≡ Some bytes → ⊥
  no_file m bytes there = absurd (cc (sym (empty m) ∙ there))

  fit : IsFit v.files
  fit = record {
    logs = λ name bytes kind there. absurd (no_file name bytes there);
    stores = λ name bytes kind there gate. absurd (no_file name bytes there);
    agree = λ d e is other same number. absurd (no_file is.name is.file.bytes is.file.there);
  }

  flushed : (r : ℕ) (f : List ℕ) → IsFlushed v.files r f 0
  flushed r f = record {
    reached = inr refl;
    bound = λ m is. absurd (no_file is.0 is.2.file.bytes is.2.file.there);
  }

  pub opened_empty : IsOpened v regions (λ r. 0)
  opened_empty = record {
    none_gone = none_gone;
    fit = fit;
    no_logs = λ m kind. empty m;
    no_logs_in = λ J is m kind. quiet J is m ∙ empty m;
    stores_in = λ J m is kind. quiet J is m;
    small = λ m there. absurd (there (empty m));
    flushed_of = flushed;
    marks = nothing;
    next = λ m n has kind region there. absurd (there (empty n));
  }

-- regions whose next stores have number 1
pub few_first : (regions : List RegionBase) (n : ℕ) → ((m : RegionBase) → Contains regions m → m.next_store ≡ 1) → (m : RegionBase) → Contains regions m → m.next_store ≤ n + 2 ^ 48 + 1
few_first regions n one m has = omega (arith, one m has)
