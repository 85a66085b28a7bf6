-- How the reading of the file that counts is refused, and that it changes nothing.
use Rattle.std.proofs.Common.{ℕ, ◌+◌, List, length, refl, subst, sym}
use Rattle.log_model.specs.declared.name.Name.{Name}
use Rattle.log_model.specs.LogText.{IsDamaged}
use Rattle.log_model.specs.Files.{Files, Reads, key_of}
use Rattle.disk_images.specs.Crash.{DiskView, IsImageNow}
use Rattle.disk_images.specs.Calls.{Looks}
use Rattle.disk_images.proofs.Moments.{at_once}
use Rattle.file_base.specs.declared.error.ReadRefusal.{ReadRefusal}
use Rattle.file_base.specs.declared.error.ReadRefusal.TheVariants as reads
use Rattle.file_base.specs.Looking.{OnlyLooks}
use Rattle.file_base.specs.Refusal.{IfDamaged}
use Rattle.file_base.proofs.Looking.{looks_on, looks_joined}
use Rattle.log_tail.specs.Reads.{OnlyReads}
use Rattle.log_tail.specs.Failures.{IsReadingRefusal, refusal_of}
use Rattle.std.specs.Prelude.{Err}

pub refused_so : (name : Name) (bytes : List ℕ) (e : ReadRefusal) → IfDamaged {T = Unit {0}} (Err e) (λ at. IsDamaged (key_of name) bytes at) → IsReadingRefusal name bytes (refusal_of e name)
refused_so name bytes reads.Memory damaged = tt
refused_so name bytes reads.DiskFault damaged = tt
refused_so name bytes (reads.Damaged at) damaged = (refl, damaged)

looks_none : (v : DiskView) → OnlyLooks 0 v v
looks_none v = record { files = refl; gone = λ m h. h; formerly = λ n m h. h; moments = at_once (IsImageNow v) v (λ J now. now) }

-- one call, and then the reading of a file
pub looked_and_read : (u v w : DiskView) (name : Name) (bytes : List ℕ) → Looks u v → Reads u.files name bytes → ((c : List ℕ) → Reads v.files name c → OnlyLooks (length c + 1) v w) → OnlyReads u w
looked_and_read u v w name bytes first reads second =
    let there : Reads v.files name bytes = subst (λ (f : Files). Reads f name bytes) (sym first.files) reads in
    (0 + 1 + (length bytes + 1), looks_joined (0 + 1) (length bytes + 1) u v w (looks_on 0 u u v (looks_none u) first) (second bytes there))

pub looked_once : (u v : DiskView) → Looks u v → OnlyReads u v
looked_once u v first = (0 + 1, looks_on 0 u u v (looks_none u) first)
