-- Which command words name.
use Rattle.std.proofs.Common.{◌≡◌, ℕ, List, [], ◌∷◌, Option, Some, None, refl, sym, ap, ◌∙◌}
use Rattle.std.specs.Option.{option_map}
use Rattle.clap.specs.Kinds.{Kinds}
use Rattle.clap.specs.Words.{fault_of}
use Rattle.made_script.specs.declared.options.LoadOptions.{LoadOptions}
use Rattle.load_words.specs.App.{load_app, AreSaid, IsNumberIn, IsTaken}
use Rattle.load_run.specs.Words.{To_load, load_of, load_word, options_in, spelled, unless_wrong}

spells : (text : Option (List ℕ)) (n : ℕ) → IsNumberIn text n → n ≡ spelled text
spells text n said = said.2 ∙ sym (ap spelled said.1)

read_right : (words : List (List ℕ)) (options : LoadOptions) → AreSaid words options → options ≡ options_in words
read_right words options said =
    let start = spells _ options.start said.start in
    let handlers = spells _ options.handlers said.handlers in
    let regions = spells _ options.regions said.regions in
    let count = spells _ options.count said.count in
    λ i. record { start = start i; handlers = handlers i; regions = regions i; count = count i }

pub taken_words : (words : List (List ℕ)) (options : LoadOptions) → IsTaken words → AreSaid words options → Some (To_load options) ≡ load_word words
unfolding load_of
taken_words words options taken said =
    let found : load_of words ≡ Some (options_in words) = ap (λ (kinds : Kinds). unless_wrong kinds (options_in words)) taken in
    ap (λ (o : LoadOptions). Some (To_load o)) (read_right words options said) ∙ sym (ap (option_map To_load) found)

pub wrong_words : (words : List (List ℕ)) → (IsTaken words → ⊥) → None ≡ load_word words
unfolding load_of
wrong_words words wrong = go (fault_of load_app words) wrong
  where
    go : (kinds : Kinds) → (kinds ≡ [] → ⊥) → None ≡ option_map To_load (unless_wrong kinds (options_in words))
    go [] never = absurd (never refl)
    go (kind ∷ kinds) never = refl
