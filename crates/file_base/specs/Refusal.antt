-- Where a file that was read is damaged.
use Rattle.std.specs.Prelude.{ℕ, Result, Ok, Err}
use Rattle.entry_frame.specs.declared.phase.FeedRefusal.{FeedRefusal}
use Rattle.entry_frame.specs.declared.phase.FeedRefusal.TheVariants as feed_refusals
use Rattle.file_base.specs.declared.error.ReadRefusal.{ReadRefusal}
use Rattle.file_base.specs.declared.error.ReadRefusal.TheVariants as refusals

-- a feed's refusal, told of a file
abbrev pub read_refusal_of : FeedRefusal → ReadRefusal
read_refusal_of feed_refusals.Memory = refusals.Memory
read_refusal_of (feed_refusals.Damaged at) = refusals.Damaged at

-- where the answer is damage, P holds of its place
abbrev pub IfDamaged : {T : Type 0} → Result T ReadRefusal → (ℕ → Type 0) → Type 0
IfDamaged (Ok text) P = Unit {0}
IfDamaged (Err (refusals.Damaged at)) P = P at
IfDamaged (Err refusals.Memory) P = Unit {0}
IfDamaged (Err refusals.DiskFault) P = Unit {0}
