-- What the command's reading of words tells of the words.
use Rattle.std.proofs.Common.{◌≡◌, ℕ, true, List, refl, sym, ap, ◌∙◌}
use Rattle.clap.specs.Words.{App, Text, found_of, is_simple, is_simple_and_free, matches_of, one_of, rows_of, HasMatchesOf}
use Rattle.clap.specs.declared.parser.matches.ArgMatches.{ArgMatches}
use Rattle.clap.proofs.OnLiterals.{clap_on_literals}
use Rattle.clap.proofs.WalkLemmas.{one_text-rows}
use Rattle.load_words.specs.App.{load_app, said, IsNumberIn, IsNumberOf}

pub simple : is_simple load_app ≡ true
unfolding clap_on_literals
simple = refl

pub simple_and_free : is_simple_and_free load_app ≡ true
unfolding clap_on_literals
simple_and_free = refl

-- the text that was got is the one that the words give
pub number_said : (app : App) (m : ArgMatches) (words : List Text) (name : Text) (n : ℕ) → app ≡ load_app → HasMatchesOf app words m → IsNumberOf m name n → IsNumberIn (said name words) n
number_said app m words name n is has number =
    let rows : rows_of (found_of m) ≡ matches_of load_app words = (has (ap is_simple is ∙ simple)).0 ∙ ap (λ a. matches_of a words) is in
    (number.0, sym (one_text-rows (found_of m) name ∙ ap (one_of name) rows) ∙ number.1, number.2)

-- where no kind of error is left, only out of memory fails
pub free : (app : App) → app ≡ load_app → is_simple_and_free app ≡ true
free app is = ap is_simple_and_free is ∙ simple_and_free
