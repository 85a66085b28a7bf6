-- The command that ships what stands after a position in a store's logs.
use Rattle.std.specs.Prelude.{◌≡◌, ◌⊎◌, ℕ, List, ◌++◌, Some}
use Rattle.std.specs.List.{flat_map}
use Rattle.cell_model.specs.Lists.{IsPrefix}
use Rattle.log_model.specs.declared.damage.Damage.{Damage}
use Rattle.log_model.specs.declared.damage.Damage.TheVariants.{Bytes, Two}
use Rattle.log_model.specs.Files.{Files}
use Rattle.chronicle_model.specs.Chronicle.{Position}
use Rattle.script_model.specs.Outputs.{end_line}
use Rattle.log_tail.specs.Reads.{IsDamagedAt, IsNoPosition}
use Rattle.ship_queue.specs.Course.{LeadsTo}
use Rattle.ship_queue.specs.Messages.{Message}
use Rattle.ship_queue.specs.Shipping.{ShipsBeginning, ShipsUpTo, ShipsAll, AreTexts}
use Rattle.ship_command.specs.Sinks.{message_text}
use Rattle.command_base.specs.Invocation.{Invocation, IsRefused}
use Rattle.command_base.specs.Status.{refusal_line}
use Rattle.command_base.specs.declared.status.Status.{Status}
use Rattle.command_base.specs.declared.status.Status.TheVariants as ends

abbrev pub messages_text : List Message → List ℕ
messages_text ms = flat_map message_text ms

-- ---- where readings stop

-- Readings from the position lead to one whose log is damaged there.
abbrev pub IsShipDamage : Position → Files → Damage → Type 0
IsShipDamage p files (Bytes name at) = (stop : Position) × LeadsTo files p stop × IsDamagedAt files stop.file name at
IsShipDamage p files (Two first second region number) = ⊥

-- they lead to a position that is none, as its log has so many entries
abbrev pub LacksPosition : Position → Files → ℕ → ℕ → Type 0
LacksPosition p files file has = (stop : Position) × LeadsTo files p stop × IsNoPosition files stop file has

-- why nothing is read at a position, where the status tells that
abbrev pub IsStopOf : Status → Files → Position → Type 0
IsStopOf (ends.Damaged (Bytes name at)) files stop = IsDamagedAt files stop.file name at
IsStopOf (ends.Damaged (Two first second region number)) files stop = ⊥
IsStopOf (ends.NoPosition file has) files stop = IsNoPosition files stop file has
IsStopOf _ files stop = Unit {0}

-- ---- what is printed

-- All entries after the position, in order, with a record after each 64 of them and one after them all. After the position of
-- each record stands what is left. Readings lead to the last one, after which nothing stands, and the logs from the first
-- position's on are texts.
pub record PrintsAll (files : Files) (p : Position) (text : List ℕ) : Type 0 where
  pub messages : List Message
  pub is : text ≡ messages_text messages ++ end_line 0
  pub records : ShipsBeginning files p messages
  pub last : Position
  pub all : ShipsAll files p messages last
  pub leads : LeadsTo files p last
  pub texts : AreTexts files p.file

-- The entries that stand between the position and one to which readings lead, with such records, and after them the line that
-- refuses, or a beginning of that where the sink failed. Nothing is read at that position, where the status tells why.
pub record PrintsUpTo (files : Files) (p : Position) (status : Status) (line : List ℕ) (sank : Type 0) (text : List ℕ) : Type 0 where
  pub messages : List Message
  pub rest : List ℕ
  pub is : text ≡ messages_text messages ++ rest
  pub records : ShipsBeginning files p messages
  pub stop : Position
  pub leads : LeadsTo files p stop
  pub why : IsStopOf status files stop
  pub shipped : ShipsUpTo files p messages stop
  pub refused : IsRefused line sank rest

-- Entries after the position, in order, with such records: all of them, or a beginning.
pub record PrintsBeginning (files : Files) (p : Position) (text : List ℕ) : Type 0 where
  pub messages : List Message
  pub is : text ≡ messages_text messages
  pub records : ShipsBeginning files p messages

-- What the sink took begins those, or all that is printed with the last line.
abbrev pub PrintsCut : Files → Position → List ℕ → Type 0
PrintsCut files p taken = (text : List ℕ) × IsPrefix taken text × (PrintsBeginning files p text ⊎ PrintsAll files p text)

-- What stands with each status of the command. `sank` says that the sink's count of faults rose.
pub record EndsShip (p : Position) (status : Status) (o : Invocation) (sank : Type 0) : Type 0 where
  pub done : status ≡ ends.Done → PrintsAll o.before.files p o.taken
  pub refused : (line : List ℕ) → refusal_line status ≡ Some line → PrintsUpTo o.before.files p status line sank o.taken
  pub cut : status ≡ ends.SinkFault → PrintsCut o.before.files p o.taken

-- ---- which statuses there are

-- with which the command ends
abbrev pub IsShipEnd : Status → Type 0
IsShipEnd ends.Done = Unit {0}
IsShipEnd ends.Memory = Unit {0}
IsShipEnd ends.DiskFault = Unit {0}
IsShipEnd ends.SinkFault = Unit {0}
IsShipEnd (ends.Damaged damage) = Unit {0}
IsShipEnd (ends.NoPosition file has) = Unit {0}
IsShipEnd _ = ⊥

-- with which it ends where neither the disk nor the sink fails
abbrev pub IsShipComplete : Status → Type 0
IsShipComplete ends.Done = Unit {0}
IsShipComplete ends.Memory = Unit {0}
IsShipComplete (ends.Damaged damage) = Unit {0}
IsShipComplete (ends.NoPosition file has) = Unit {0}
IsShipComplete _ = ⊥
