-- How the top call ends for a load whose store isn't empty, and where no memory was found to read the words.
use Rattle.std.proofs.Common.{◌≡◌, ℕ, zero, suc, List, [], ◌∷◌, Contains, Option, Some, None, inl, inr, refl, sym, subst, arith}
use Rattle.log_model.specs.declared.name.Name.{Name}
use Rattle.log_model.specs.Files.{Files}
use Rattle.disk_images.specs.Crash.{DiskView, IsImageNow}
use Rattle.script_model.specs.Outputs.{refused_memory}
use Rattle.run_model.specs.Headline.{KeepsFound}
use Rattle.command_base.specs.Invocation.{invocation}
use Rattle.command_base.specs.Prints.{Prints}
use Rattle.command_base.specs.Status.{IsOrEarlier}
use Rattle.command_base.specs.declared.status.Status.{Status}
use Rattle.command_base.specs.declared.status.Status.TheVariants as ends
use Rattle.command_base.proofs.Endings.{refused_so, same_disk}
use Rattle.ship_queue.specs.declared.error.ShipRefusal.TheVariants.{Memory}
use Rattle.ship_command.proofs.Ships.{none_written, refused_ends as ship_refused}
use Rattle.load_run.specs.Words.{Word, To_log, To_show, To_dump, To_ship, To_recover, To_compact, To_run, To_load}
use Rattle.load_run.specs.Commands.{profile, profile_of}

-- the same, where a fault of the source is allowed for too
pub load_full : (status : Status) (name : Name) → IsOrEarlier status (ends.NotEmpty name) (ends.DiskFault ∷ []) → IsOrEarlier status (ends.NotEmpty name) (ends.SourceFault ∷ ends.DiskFault ∷ [])
load_full status name (inl is) = inl is
load_full status name (inr earlier) = inr (wider earlier)
  where
    wider : Contains (ends.Memory ∷ ends.DiskFault ∷ []) status → Contains (ends.Memory ∷ ends.SourceFault ∷ ends.DiskFault ∷ []) status
    wider (zero, low, is) = (0, omega arith, is)
    wider (suc zero, low, is) = (2, omega arith, is)
    wider (suc (suc i), low, is) = absurd (omega (arith, low))

-- ---- words that weren't read

one_line : (line : List ℕ) → Some refused_memory ≡ Some line → refused_memory ≡ line
one_line line told = cc

untouched : (v : DiskView) → KeepsFound v v
untouched v J image = ∣ inl image ∣₁

pub unread_ends : (word : Word) (status : Status) (script had has : List ℕ) (v : DiskView) (rose sank : Type 0) → status ≡ ends.Memory → Prints had has refused_memory sank
    → (profile word).ends status (invocation script v v had has) rose sank
unread_ends word status script had has v rose sank is printed = subst (λ (s : Status). (profile word).ends s (invocation script v v had has) rose sank) (sym is) (go word)
  where
    go : (w : Word) → (profile w).ends ends.Memory (invocation script v v had has) rose sank
    go To_log = (refused_so had has refused_memory sank printed, same_disk v)
    go To_show = (refused_so had has refused_memory sank printed, same_disk v)
    go (To_dump n) = (refused_so had has refused_memory sank printed, same_disk v)
    go (To_ship p) = ship_refused Memory p ends.Memory script had had has v v sank sank refl (λ other. none_written v.files p had) (λ s. s) (λ line told. subst (λ (l : List ℕ). Prints had has l sank) (one_line line told) printed) (λ never. absurd cc)
    go To_recover = (refused_so had has refused_memory sank printed, λ J image. inl image)
    go (To_compact kind r) = (refused_so had has refused_memory sank printed, λ J image. inl image)
    go To_run = inr (refused_so had has refused_memory sank printed, same_disk v)
    go (To_load options) = (refused_so had has refused_memory sank printed, untouched v)

memory_for : (words : Option Word) → (profile_of words).may_end ends.Memory
memory_for None = tt
memory_for (Some To_log) = tt
memory_for (Some To_show) = tt
memory_for (Some (To_dump n)) = tt
memory_for (Some (To_ship p)) = tt
memory_for (Some To_recover) = tt
memory_for (Some (To_compact kind r)) = tt
memory_for (Some To_run) = tt
memory_for (Some (To_load options)) = tt

pub unread_status : (words : Option Word) (status : Status) → status ≡ ends.Memory → (profile_of words).may_end status
unread_status words status is = subst (λ (s : Status). (profile_of words).may_end s) (sym is) (memory_for words)

pub unread_leaves : (words : Option Word) (script : List ℕ) (v : DiskView) (J : Files) → IsImageNow v J → (profile_of words).may_leave script v J
unread_leaves None script v J image = image
unread_leaves (Some To_log) script v J image = inl image
unread_leaves (Some To_show) script v J image = image
unread_leaves (Some (To_dump n)) script v J image = image
unread_leaves (Some (To_ship p)) script v J image = image
unread_leaves (Some To_recover) script v J image = inl image
unread_leaves (Some (To_compact kind r)) script v J image = inl (inl image)
unread_leaves (Some To_run) script v J image = ∣ inl image ∣₁
unread_leaves (Some (To_load options)) script v J image = ∣ inl image ∣₁
