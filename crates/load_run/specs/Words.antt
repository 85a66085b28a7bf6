-- The words of the commands.
use Rattle.std.specs.Prelude.{ℕ, ◌≤◌, Bool, false, if◌then◌else◌, List, [], ◌∷◌, Option, Some, None, codes}
use Rattle.std.specs.Option.{option_map}
use Rattle.std.specs.Str.Parse.{digits_value, without_leading_plus}
use Rattle.chronicle_model.specs.Chronicle.{Position}
use Rattle.clap.specs.Kinds.{Kinds}
use Rattle.clap.specs.Words.{fault_of}
use Rattle.script_model.specs.Text.{is_number, number_of}
use Rattle.script_model.specs.Fields.{is}
use Rattle.log_tail.specs.Position.{position_of}
use Rattle.ship_command.specs.Words.{position_word, number_within}
use Rattle.store_compact.specs.declared.kind.CompactKind.{CompactKind}
use Rattle.store_compact.specs.declared.kind.CompactKind.TheVariants as compacts
use Rattle.made_script.specs.Made.{AreOptions}
use Rattle.made_script.specs.declared.options.LoadOptions.{LoadOptions}
use Rattle.load_words.specs.App.{load_app, said}
use Rattle.load_run.specs.declared.words.Word.{Word as CodeWord}
use Rattle.load_run.specs.declared.words.Word.TheVariants as code

pub data Word : Type 0 where
  To_log : Word
  To_show : Word
  To_dump : ℕ → Word
  To_ship : Position → Word
  To_recover : Word
  To_compact : CompactKind → (region : ℕ) → Word
  To_run : Word
  To_load : LoadOptions → Word

abbrev pub meaning_of : CodeWord → Word
meaning_of code.Log = To_log
meaning_of code.Show = To_show
meaning_of (code.Dump number) = To_dump number
meaning_of (code.Ship from) = To_ship (position_of from)
meaning_of code.Recover = To_recover
meaning_of (code.Compact kind region) = To_compact kind region
meaning_of code.Run = To_run
meaning_of (code.Load options) = To_load options

abbrev pub IsRegion : ℕ → Type 0
IsRegion r = (1 ≤ r) × (r ≤ 64)

-- the options of a load are in their ranges, and so is the region of a compaction
abbrev pub IsRight : CodeWord → Type 0
IsRight (code.Load options) = AreOptions options
IsRight (code.Compact kind region) = IsRegion region
IsRight _ = Unit {0}

-- ---- the words of `load`

-- the number that an option's text spells
abbrev pub spelled : Option (List ℕ) → ℕ
spelled None = 0
spelled (Some text) = digits_value 10 (without_leading_plus text)

abbrev pub options_in : List (List ℕ) → LoadOptions
options_in words = record {
  start = spelled (said (codes "start") words);
  handlers = spelled (said (codes "handlers") words);
  regions = spelled (said (codes "regions") words);
  count = spelled (said (codes "count") words);
}

-- where nothing is wrong
abbrev pub unless_wrong : {A : Type 0} → Kinds → A → Option A
unless_wrong [] a = Some a
unless_wrong (kind ∷ kinds) a = None

-- the options, exactly where clap's own reading of the command takes the words
unfoldable pub load_of : List (List ℕ) → Option LoadOptions
load_of words = unless_wrong (fault_of load_app words) (options_in words)

abbrev pub load_word : List (List ℕ) → Option Word
load_word words = option_map To_load (load_of words)

-- the first word is that of `load`
abbrev pub names_load : List (List ℕ) → Bool
names_load [] = false
names_load (a ∷ words) = is a (codes "load")

-- ---- the words of `compact`

-- the kind that a word names
abbrev pub kind_word : List ℕ → Option CompactKind
kind_word a = if is a (codes "minor") then Some compacts.Minor else (if is a (codes "major") then Some compacts.Major else None)

-- a region from 1 to 64
abbrev pub region_word : List ℕ → Option ℕ
region_word a = number_within 1 64 a

abbrev pub compact_from : Option CompactKind → Option ℕ → Option Word
compact_from (Some kind) (Some region) = Some (To_compact kind region)
compact_from (Some kind) None = None
compact_from None region = None

abbrev pub compact_word : List ℕ → List ℕ → Option Word
compact_word a b = compact_from (kind_word a) (region_word b)

-- ---- all words

-- the command that words name which don't begin as those of `load`
abbrev pub plain_word : List (List ℕ) → Option Word
plain_word [] = None
plain_word (a ∷ []) = if is a (codes "log") then Some To_log else (if is a (codes "show") then Some To_show else (if is a (codes "recover") then Some To_recover else
    (if is a (codes "run") then Some To_run else None)))
plain_word (a ∷ b ∷ []) = if is a (codes "dump") then (if is_number b then Some (To_dump (number_of b)) else None) else None
plain_word (a ∷ b ∷ c ∷ []) = if is a (codes "ship") then option_map To_ship (position_word b c) else (if is a (codes "compact") then compact_word b c else None)
plain_word (a ∷ b ∷ c ∷ d ∷ words) = None

-- the command that words name
abbrev pub word_of : List (List ℕ) → Option Word
word_of words = if names_load words then load_word words else plain_word words
