use Rattle.std.proofs.Common.{◌∙◌, List, [], ◌∷◌, ◌++◌, take, get_or, sym, ap}
use Rattle.std.proofs.lemmas.List.{take_more, take_all}
use Rattle.std.proofs.lemmas.List.Elements.{filter-append}
use Rattle.log_model.specs.declared.name.Name.{Name}
use Rattle.log_model.specs.declared.name.NameKind.TheVariants as kinds
use Rattle.region_replay.specs.Alone.{edits_among}
use Rattle.region_replay.specs.Dealt.{is_edits}
use Rattle.region_replay.proofs.alone.edits_of.Goals as goal

abbrev some_name : Name
some_name = record { kind = kinds.Log; region = 0; number = 0 }

pub loop-name-init : goal.loop-name-init
loop-name-init c = c.new-edits.ensures.items

pub loop-name-preserved : goal.loop-name-preserved
loop-name-preserved c =
    let names = c.args.names.now in
    let i = c.loop-name.name-index in
    let this : Name = get_or names i some_name in
    c.in_ok-add_edits.ensures ∙ ap (λ (l : List Name). l ++ edits_among (this ∷ [])) c.loop-name.invariant ∙ sym (filter-append (λ (m : Name). is_edits m.kind) (take i names) (this ∷ []))
    ∙ ap edits_among (sym (take_more names i some_name c.loop-name-test.true))

pub returns : goal.returns
returns c = c.loop-name.invariant ∙ ap edits_among (take_all c.loop-name.name-index c.args.names.now c.loop-name-test.false)
