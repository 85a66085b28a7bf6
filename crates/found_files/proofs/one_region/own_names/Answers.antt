use Rattle.std.proofs.Common.{◌==◌, ◌&&◌, ◌∙◌, List, [], ◌∷◌, ◌++◌, take, get_or, sym, ap}
use Rattle.std.proofs.lemmas.List.{take_more, take_all}
use Rattle.std.proofs.lemmas.List.Elements.{filter-append}
use Rattle.log_model.specs.declared.name.Name.{Name}
use Rattle.log_model.specs.declared.name.NameKind.TheVariants as kinds
use Rattle.found_files.specs.OfRegion.{has_region, names_of}
use Rattle.found_files.proofs.one_region.own_names.Goals as goal

abbrev some_name : Name
some_name = record { kind = kinds.Log; region = 0; number = 0 }

pub loop-name-init : goal.loop-name-init
loop-name-init c = c.new-own.ensures.items

pub loop-name-preserved : goal.loop-name-preserved
loop-name-preserved c =
    let r = c.args.region in
    let before = take c.loop-name.name-index c.args.names.now in
    let this : Name = get_or c.args.names.now c.loop-name.name-index some_name in
    c.in_ok-add_own.ensures ∙ ap (λ (own : List Name). own ++ names_of r (this ∷ [])) c.loop-name.invariant
    ∙ sym (filter-append (λ (m : Name). has_region m.kind && (m.region == r)) before (this ∷ []))
    ∙ ap (names_of r) (sym (take_more c.args.names.now c.loop-name.name-index some_name c.loop-name-test.true))

pub returns : goal.returns
returns c = c.loop-name.invariant ∙ ap (names_of c.args.region) (take_all c.loop-name.name-index c.args.names.now c.loop-name-test.false)
