-- A command to which the four options are added has them, and nothing excludes one of them.
use Rattle.std.proofs.Common.{◌≡◌, ◌||◌, false, [], ◌∷◌, ◌++◌, All, sym, ap, ap₂, ◌∙◌, subst, codes}
use Rattle.std.proofs.lemmas.List.Elements.{All-nil}
use Rattle.clap.specs.Words.{App, Text, new_app, with_rule, app_of, IsPlain, IsPlainArg, SameRules}
use Rattle.clap.specs.Facts.{args_of, groups_of}
use Rattle.clap.specs.Built.{AddsArg}
use Rattle.clap.specs.declared.builder.arg.Arg.{Arg}
use Rattle.clap.specs.declared.builder.command.Command.{Command}
use Rattle.clap.specs.declared.builder.command.Command.TheViews.{out-Command}
use Rattle.clap.specs.declared.builder.ArgAction.TheVariants.{Set}
use Rattle.clap.specs.declared.builder.value_parser.ValueParser.{ValueParser}
use Rattle.clap.proofs.CallerLemmas.{added_plain}
use Rattle.load_words.specs.App.{option, any_number, up_to, IsOption, IsGiven, HasOptions}

-- an option keeps what it says of itself where it is added
given : (name : Text) (parser : ValueParser) (a x : Arg) → IsOption name parser a → SameRules a x → IsGiven name parser x
given name parser a x o s = record {
  id = ap (λ i. i.now) s.id ∙ o.id;
  required = s.required ∙ o.required;
  set = s.action Set o.set;
  delimiter = s.val_delim ∙ o.delimiter;
  least = s.least o.set o.least;
  parser_is = s.parser parser o.parser_is;
}

-- no argument is global
no_globals : (old new : Command) (a : Arg) → AddsArg old a new → (out-Command old).has_globals ≡ false → a.global ≡ false → (out-Command new).has_globals ≡ false
no_globals old new a added globals global = added.globals ∙ ap₂ (λ p q. p || q) globals global

one_more : (old new : Command) (name : Text) (parser : ValueParser) (a : Arg) (app : App) → AddsArg old a new → IsOption name parser a → app_of old ≡ app → app_of new ≡ with_rule app (option name parser)
one_more old new name parser a app added o is = added.shape o.global ∙ ap₂ with_rule is o.rule

pub options_added : (c0 c1 c2 c3 c4 : Command) (s h r n : Arg) → app_of c0 ≡ new_app (codes "load") → args_of c0 ≡ [] → groups_of c0 ≡ []
    → (out-Command c0).has_globals ≡ false → (out-Command c0).subcommand_negates_reqs ≡ false
    → AddsArg c0 s c1 → IsOption (codes "start") any_number s → AddsArg c1 h c2 → IsOption (codes "handlers") (up_to 16) h
    → AddsArg c2 r c3 → IsOption (codes "regions") (up_to 64) r → AddsArg c3 n c4 → IsOption (codes "count") (up_to 10000) n → HasOptions c4
options_added c0 c1 c2 c3 c4 s h r n app args groups globals negates s_added s_is h_added h_is r_added r_is n_added n_is =
    let plain0 : IsPlain c0 = (subst (All IsPlainArg) (sym args) (All-nil IsPlainArg), groups) in
    let plain1 = added_plain c0 c1 s s_added plain0 s_is.plain in
    let plain2 = added_plain c1 c2 h h_added plain1 h_is.plain in
    let plain3 = added_plain c2 c3 r r_added plain2 r_is.plain in
    let globals1 = no_globals c0 c1 s s_added globals s_is.global in
    let globals2 = no_globals c1 c2 h h_added globals1 h_is.global in
    let globals3 = no_globals c2 c3 r r_added globals2 r_is.global in
    let app1 = one_more c0 c1 (codes "start") any_number s (new_app (codes "load")) s_added s_is app in
    let app2 = one_more c1 c2 (codes "handlers") (up_to 16) h _ h_added h_is app1 in
    let app3 = one_more c2 c3 (codes "regions") (up_to 64) r _ r_added r_is app2 in
    let args1 : args_of c1 ≡ s_added.arg ∷ [] = s_added.args ∙ ap (λ l. l ++ s_added.arg ∷ []) args in
    let args2 : args_of c2 ≡ s_added.arg ∷ h_added.arg ∷ [] = h_added.args ∙ ap (λ l. l ++ h_added.arg ∷ []) args1 in
    let args3 : args_of c3 ≡ s_added.arg ∷ h_added.arg ∷ r_added.arg ∷ [] = r_added.args ∙ ap (λ l. l ++ r_added.arg ∷ []) args2 in
    record {
      app = one_more c3 c4 (codes "count") (up_to 10000) n _ n_added n_is app3;
      plain = added_plain c3 c4 n n_added plain3 n_is.plain;
      globals = no_globals c3 c4 n n_added globals3 n_is.global;
      negates = n_added.negates ∙ (r_added.negates ∙ (h_added.negates ∙ (s_added.negates ∙ negates)));
      start = s_added.arg;
      handlers = h_added.arg;
      regions = r_added.arg;
      count = n_added.arg;
      args = n_added.args ∙ ap (λ l. l ++ n_added.arg ∷ []) args3;
      is_start = given (codes "start") any_number s s_added.arg s_is s_added.rules;
      is_handlers = given (codes "handlers") (up_to 16) h h_added.arg h_is h_added.rules;
      is_regions = given (codes "regions") (up_to 64) r r_added.arg r_is r_added.rules;
      is_count = given (codes "count") (up_to 10000) n n_added.arg n_is n_added.rules;
    }
