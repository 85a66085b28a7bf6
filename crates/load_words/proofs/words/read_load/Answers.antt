use Rattle.std.proofs.Common.{◌≡◌, List, map, sym, ap, ◌∙◌, subst, inl, inr, codes}
use Rattle.clap.specs.Words.{Text, fault_of, kind_of}
use Rattle.clap.specs.Kinds.{IsAmong}
use Rattle.std.specs.Prelude.{Err, IsErrOf}
use Rattle.made_script.specs.declared.options.LoadOptions.{LoadOptions}
use Rattle.load_words.specs.declared.words.WordsRefusal.{WordsRefusal}
use Rattle.load_words.specs.declared.words.WordsRefusal.TheVariants.{Memory, Usage}
use Rattle.load_words.proofs.Taken.{number_said, free}
use Rattle.load_words.proofs.words.read_load.Goals as goal

not_usage : (r : WordsRefusal) → r ≡ Memory → IsErrOf {T = LoadOptions} (Err r) Usage → ⊥
not_usage r memory refused =
    let usage : r ≡ Usage = cc refused in
    let same : Memory ≡ Usage = sym memory ∙ usage in
    absurd cc

pub returns-in-Ok-clause-taken : goal.returns-in-Ok-clause-taken
returns-in-Ok-clause-taken c =
    let words : List Text = map (λ w. w.now) c.args.words.now in
    let app = c.in_ok-command.ensures.app in
    sym (ap (λ a. fault_of a words) app) ∙ c.in-Ok.ensures.kinds (free _ app)

pub returns-in-Ok-clause-said : goal.returns-in-Ok-clause-said
returns-in-Ok-clause-said c =
    let words : List Text = map (λ w. w.now) c.args.words.now in
    let app = c.in_ok-command.ensures.app in
    let has = c.in-Ok.ensures.matches in
    record {
      start = number_said _ c.in-Ok.matches words (codes "start") c.start_of.result app has c.start_of.ensures;
      handlers = number_said _ c.in-Ok.matches words (codes "handlers") c.handlers_of.result app has c.handlers_of.ensures.value;
      regions = number_said _ c.in-Ok.matches words (codes "regions") c.regions_of.result app has c.regions_of.ensures.value;
      count = number_said _ c.in-Ok.matches words (codes "count") c.count_of.result app has c.count_of.ensures.value;
    }

pub returns-in-Err-clause-usage : goal.returns-in-Err-clause-usage
returns-in-Err-clause-usage c refused taken =
    let words : List Text = map (λ w. w.now) c.args.words.now in
    let app = c.in_ok-command.ensures.app in
    elim (c.in-Err.ensures.kinds (free _ app)) [
      | inl memory ↦ not_usage c.refusal_of.result (c.refusal_of.ensures.0 memory) refused
      | inr among ↦ subst (IsAmong (kind_of c.in-Err.error)) (ap (λ a. fault_of a words) app ∙ taken) among
    ]
