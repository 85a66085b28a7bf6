-- The command that reads the words after `load`, and what it makes of them.
use Rattle.std.specs.Prelude.{◌≡◌, ℕ, ◌≤◌, List, [], ◌∷◌, true, false, Option, Some, None, codes, pos}
use Rattle.std.specs.Str.Parse.{digits_value, without_leading_plus}
use Rattle.clap.specs.Words.{App, Rule, Text, new_app, new_rule, with_rule, app_of, rule_of, fault_of, matches_of, one_of, one_text, found_of, IsPlain, IsPlainArg, IsParsedFrom}
use Rattle.clap.specs.Facts.{args_of, least_values}
use Rattle.clap.specs.declared.builder.arg.Arg.{Arg}
use Rattle.clap.specs.declared.builder.command.Command.{Command}
use Rattle.clap.specs.declared.builder.command.Command.TheViews.{out-Command as fields_of}
use Rattle.clap.specs.declared.builder.ArgAction.TheVariants.{Set}
use Rattle.clap.specs.declared.builder.value_parser.ValueParser.{ValueParser}
use Rattle.clap.specs.declared.builder.value_parser.ValueParser.TheVariants as vp
use Rattle.clap.specs.declared.parser.matches.ArgMatches.{ArgMatches}
use Rattle.made_script.specs.declared.options.LoadOptions.{LoadOptions}

-- a required option with this name, whose value is one that the parser takes
abbrev pub option : Text → ValueParser → Rule
option name parser = record (new_rule name) { long = Some name; required = true; action = Some Set; parser = Some parser }

-- any number below 2 ^ 64
abbrev pub any_number : ValueParser
any_number = vp.Unsigned 0 18446744073709551615

-- a number from 1 on
abbrev pub up_to : ℕ → ValueParser
up_to most = vp.Signed (pos 1) (pos most)

abbrev pub load_app : App
load_app = with_rule (with_rule (with_rule (with_rule (new_app (codes "load")) (option (codes "start") any_number))
    (option (codes "handlers") (up_to 16))) (option (codes "regions") (up_to 64))) (option (codes "count") (up_to 10000))

-- nothing is wrong with the words
abbrev pub IsTaken : List Text → Type 0
IsTaken words = fault_of load_app words ≡ []

-- the text behind the option's name
abbrev pub said : Text → List Text → Option Text
said name words = one_of name (matches_of load_app words)

abbrev pub IsNumberIn : Option Text → ℕ → Type 0
IsNumberIn text n = (t : Text) × (text ≡ Some t) × (n ≡ digits_value 10 (without_leading_plus t))

-- each option is the number that its text spells
pub record AreSaid (words : List Text) (o : LoadOptions) : Type 0 where
  pub start : IsNumberIn (said (codes "start") words) o.start
  pub handlers : IsNumberIn (said (codes "handlers") words) o.handlers
  pub regions : IsNumberIn (said (codes "regions") words) o.regions
  pub count : IsNumberIn (said (codes "count") words) o.count

-- ---- the command that is built

-- an option as it is made
pub record IsOption (name : Text) (parser : ValueParser) (a : Arg) : Type 0 where
  pub rule : rule_of a ≡ option name parser
  pub id : a.id.now ≡ name
  pub plain : IsPlainArg a
  pub global : a.global ≡ false
  pub required : a.required ≡ true
  pub set : a.action ≡ Some Set
  pub delimiter : a.val_delim ≡ None
  pub least : 1 ≤ least_values a
  pub parser_is : a.value_parser ≡ Some parser

-- an option as it stands in a command
pub record IsGiven (name : Text) (parser : ValueParser) (a : Arg) : Type 0 where
  pub id : a.id.now ≡ name
  pub required : a.required ≡ true
  pub set : a.action ≡ Some Set
  pub delimiter : a.val_delim ≡ None
  pub least : 1 ≤ least_values a
  pub parser_is : a.value_parser ≡ Some parser

-- the command has the four options, and nothing that excludes one of them
pub record HasOptions (c : Command) : Type 0 where
  pub app : app_of c ≡ load_app
  pub plain : IsPlain c
  pub globals : (fields_of c).has_globals ≡ false
  pub negates : (fields_of c).subcommand_negates_reqs ≡ false
  pub start : Arg
  pub handlers : Arg
  pub regions : Arg
  pub count : Arg
  pub args : args_of c ≡ start ∷ handlers ∷ regions ∷ count ∷ []
  pub is_start : IsGiven (codes "start") any_number start
  pub is_handlers : IsGiven (codes "handlers") (up_to 16) handlers
  pub is_regions : IsGiven (codes "regions") (up_to 64) regions
  pub is_count : IsGiven (codes "count") (up_to 10000) count

-- what the command's reading of some words gave
abbrev pub IsLoad : ArgMatches → Type 0
IsLoad m = (c : Command) × HasOptions c × IsParsedFrom c m

-- the number that an option's text spells
abbrev pub IsNumberOf : ArgMatches → Text → ℕ → Type 0
IsNumberOf m name n = IsNumberIn (one_text (found_of m) name) n
