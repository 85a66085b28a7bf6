-- What is told of a refusal from below.
use Rattle.log_model.specs.declared.damage.Damage.TheVariants as damages
use Rattle.found_files.specs.declared.refusal.SplitRefusal.{SplitRefusal}
use Rattle.found_files.specs.declared.refusal.SplitRefusal.TheVariants as split_refusals
use Rattle.store_compact.specs.declared.refusal.CompactRefusal.{CompactRefusal}
use Rattle.store_compact.specs.declared.refusal.CompactRefusal.TheVariants as refusals

abbrev pub refusal_of : SplitRefusal → CompactRefusal
refusal_of split_refusals.Memory = refusals.Memory
refusal_of split_refusals.DiskFault = refusals.DiskFault
refusal_of (split_refusals.Damaged (damages.Bytes name at)) = refusals.Damaged name at
refusal_of (split_refusals.Damaged (damages.Two first second region number)) = refusals.Damaged first 0
