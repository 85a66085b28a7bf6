-- How the shipping is refused, and what was written then.
use Rattle.std.specs.Prelude.{◌≡◌, ℕ, List, ◌++◌, Result, Err, OnOk}
use Rattle.log_model.specs.declared.damage.Damage.TheVariants as damages
use Rattle.log_model.specs.Files.{Files}
use Rattle.chronicle_model.specs.Chronicle.{Position}
use Rattle.ship_queue.specs.declared.error.ShipRefusal.{ShipRefusal}
use Rattle.ship_queue.specs.declared.error.ShipRefusal.TheVariants as ships
use Rattle.ship_queue.specs.Course.{LeadsTo}
use Rattle.ship_queue.specs.Messages.{Message}
use Rattle.ship_queue.specs.Shipping.{ShipsBeginning, ShipsUpTo, ShipsAll, AreTexts}
use Rattle.command_base.specs.declared.status.Status.{Status}
use Rattle.command_base.specs.declared.status.Status.TheVariants as ends
use Rattle.ship_command.specs.Sinks.{IsCutIn}
use Rattle.ship_command.specs.Shipped.{messages_text, IsStopOf}

abbrev pub refused_as : ShipRefusal → Status
refused_as ships.Memory = ends.Memory
refused_as ships.DiskFault = ends.DiskFault
refused_as (ships.Damaged name at) = ends.Damaged (damages.Bytes name at)
refused_as (ships.NoPosition file has) = ends.NoPosition file has
refused_as ships.PeerFault = ends.SinkFault

-- After what it had, the sink took what stands between the position and one to which readings lead: all of it with Ok. Else
-- nothing is read there, where the refusal tells why.
pub record HasPrinted {T : Type 0} (files : Files) (p : Position) (before now : List ℕ) (result : Result T ShipRefusal) : Type 0 where
  pub messages : List Message
  pub is : now ≡ before ++ messages_text messages
  pub records : ShipsBeginning files p messages
  pub stop : Position
  pub leads : LeadsTo files p stop
  pub shipped : ShipsUpTo files p messages stop
  pub all : OnOk result (ShipsAll files p messages stop × AreTexts files p.file)
  pub why : (refusal : ShipRefusal) → result ≡ Err refusal → IsStopOf (refused_as refusal) files stop

-- The sink failed: after what it had, it has a beginning of entries and records.
pub record HasCut (files : Files) (p : Position) (before now : List ℕ) : Type 0 where
  pub messages : List Message
  pub records : ShipsBeginning files p messages
  pub cut : IsCutIn now before (messages_text messages)
