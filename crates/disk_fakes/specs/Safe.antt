-- The files of a disk with fixed room: what its calls made of no files, with their bytes in its memory.
use Rattle.std.specs.Prelude.{◌≡◌, ◌≤◌, ◌<◌, ◌+◌, ◌^◌, ℕ, List, [], ◌∷◌, length, take, drop, max, slice_index, Option, Some, None}
use Rattle.std.specs.FinMap as map
use Rattle.log_model.specs.declared.name.Name.{Name}
use Rattle.log_model.specs.Files.{Files, content, IsAbsent, Reads, Same, IsName}
use Rattle.disk_images.specs.Crash.{DiskView, overwritten}
use Rattle.disk_fakes.specs.declared.safe_call.SafeCall.{SafeCall}
use Rattle.disk_fakes.specs.declared.safe_call.SafeCall.TheVariants.{Create, Write, Rename, Remove}
use Rattle.disk_fakes.specs.declared.safe_call.SizeStep.{SizeStep}
use Rattle.disk_fakes.specs.declared.safe_call.SizeStep.TheVariants as size_step
use Rattle.disk_fakes.specs.declared.safe_call.ByteStep.{ByteStep}
use Rattle.disk_fakes.specs.declared.safe_call.ByteStep.TheVariants as byte_step
use Rattle.disk_fakes.specs.History.{IsThere, Reaches}

abbrev pub no_files : Files
no_files = map.empty

-- so many bytes of the memory, from this place on
abbrev pub text_in : List ℕ → ℕ → ℕ → List ℕ
text_in arena start len = take len (drop start arena)

abbrev pub put_over : Files → Name → ℕ → List ℕ → Option (List ℕ) → Files
put_over files name at bytes None = files
put_over files name at bytes (Some c) = map.insert files name (overwritten c at bytes)

abbrev pub moved_to : Files → Name → Name → Option (List ℕ) → Files
moved_to files from to None = files
moved_to files from to (Some c) = map.insert (map.remove files from) to c

-- the files after a call
abbrev pub applied : List ℕ → Files → SafeCall → Files
applied arena files (Create name) = map.insert files name []
applied arena files (Write name at start len) = put_over files name at (text_in arena start len) (content files name)
applied arena files (Rename from to) = moved_to files from to (content files from)
applied arena files (Remove name) = map.remove files name

abbrev pub files_after : List ℕ → Files → List SafeCall → Files
files_after arena files [] = files
files_after arena files (call ∷ calls) = files_after arena (applied arena files call) calls

-- the call met its conditions, and its bytes are there
abbrev pub Met : List ℕ → Files → SafeCall → Type 0
Met arena files (Create name) = IsAbsent files name × IsName name
Met arena files (Write name at start len) = Reaches at (content files name) × (start + len ≤ length arena) × (at + len < 2 ^ 63)
Met arena files (Rename from to) = IsThere files from × IsAbsent files to × IsName to
Met arena files (Remove name) = IsThere files name

abbrev pub AreMet : List ℕ → Files → List SafeCall → Type 0
AreMet arena files [] = Unit {0}
AreMet arena files (call ∷ calls) = Met arena files call × AreMet arena (applied arena files call) calls

-- a disk on which each call is durable at once
abbrev pub view_in : List ℕ → List SafeCall → DiskView
view_in arena calls =
    record { files = files_after arena no_files calls; gone = λ m. ⊥; formerly = λ n m. ⊥; clock = length calls; image = λ t J. (t ≤ length calls) × Same (files_after arena no_files (take t calls)) J }

-- the size of a file that reaches at least so far
abbrev pub size_with : Option (List ℕ) → ℕ → Option ℕ
size_with None reach = None
size_with (Some c) reach = Some (max (length c) reach)

abbrev pub size_by : Files → SizeStep → Option ℕ
size_by files (size_step.Is size) = Some size
size_by files size_step.NotThere = None
size_by files (size_step.Before name reach) = size_with (content files name) reach

-- the byte of the text at this place is this one
abbrev pub IsByteStep : List ℕ → Files → List ℕ → ℕ → ByteStep → Type 0
IsByteStep arena files text place (byte_step.At start k) = (start + k < length arena) × (slice_index arena (start + k) ≡ slice_index text place)
IsByteStep arena files text place (byte_step.Before name) = (c : List ℕ) × Reads files name c × (place < length c) × (slice_index c place ≡ slice_index text place)
