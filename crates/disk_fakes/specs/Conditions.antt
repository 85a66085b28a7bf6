-- That a history's calls met their conditions is known in one way.
use Rattle.std.proofs.Common.{ℕ, List, [], ◌∷◌, Option, Some, None}
use Rattle.std.proofs.Props.{props}
use Rattle.log_model.specs.Files.{content}
use Rattle.disk_images.specs.Crash.{DiskView}
use Rattle.disk_fakes.specs.declared.op.Op.{Op}
use Rattle.disk_fakes.specs.declared.op.Op.TheVariants.{Create, Write, Sync, Rename, Remove, Settle}
use Rattle.disk_fakes.specs.History.{step, Meets, MeetAll, Reaches}

pub reaches_prop : (at : ℕ) (o : Option (List ℕ)) → IsProp (Reaches at o)
reaches_prop at None = hlevel props
reaches_prop at (Some c) = hlevel props

meets_prop : (v : DiskView) (op : Op) → IsProp (Meets v op)
meets_prop v (Create name) = hlevel props
meets_prop v (Write name at bytes) = reaches_prop at (content v.files name)
meets_prop v (Sync name) = hlevel props
meets_prop v (Rename from to) = hlevel props
meets_prop v (Remove name) = hlevel props
meets_prop v Settle = hlevel props

pub meet_all_prop : (v : DiskView) (ops : List Op) → IsProp (MeetAll v ops)
meet_all_prop v [] = hlevel props
meet_all_prop v (op ∷ ops) = hlevel (props, meets_prop v op, meet_all_prop (step v op) ops)
