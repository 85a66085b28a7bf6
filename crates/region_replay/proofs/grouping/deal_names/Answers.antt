use Rattle.std.proofs.Common.{List, [], take, get_or, sym, subst, ◌≡◌, length, arith}
use Rattle.std.proofs.lemmas.List.{take_more, take_all}
use Rattle.std.proofs.lemmas.List.Elements.{Contains-get_or}
use Rattle.log_model.specs.declared.name.Name.{Name}
use Rattle.log_model.specs.declared.name.NameKind.TheVariants as kinds
use Rattle.region_replay.specs.Dealt.{AreDealt}
use Rattle.region_replay.proofs.Shares.{name_dealt, name_long}
use Rattle.region_replay.proofs.grouping.deal_names.Goals as goal

abbrev some_name : Name
some_name = record { kind = kinds.Log; region = 0; number = 0 }

pub deal_name-requires-clause-good : goal.deal_name-requires-clause-good
deal_name-requires-clause-good c =
    let names = c.args.names.now in
    let i = c.loop-name.name-index in
    c.requires.good (get_or names i some_name) (Contains-get_or names i some_name c.loop-name-test.true)

pub loop-name-preserved : goal.loop-name-preserved
loop-name-preserved c =
    let names = c.args.names.now in
    let i = c.loop-name.name-index in
    let this : Name = get_or names i some_name in
    let old = c.loop-name.regions.items in
    let new = c.deal_name.new.regions.items in
    let deals = c.in_ok-deal_name.ensures.dealt in
    record {
      long = (let was : length old ≡ 64 = omega (arith, c.loop-name.invariant.long) in let now : length new ≡ 64 = name_long this old new deals was in omega (arith, now));
      dealt = λ jobs flushed start. subst (λ (l : List Name). AreDealt jobs flushed l [] [] new) (sym (take_more names i some_name c.loop-name-test.true))
          (name_dealt jobs flushed (take i names) [] [] old new this (c.requires.good this (Contains-get_or names i some_name c.loop-name-test.true)) deals (c.loop-name.invariant.dealt jobs flushed start));
    }

pub returns : goal.returns
returns c jobs flushed start =
    let names = c.args.names.now in
    let over = c.loop-name-test.false in
    subst (λ (l : List Name). AreDealt jobs flushed l [] [] c.loop-name.regions.items) (take_all c.loop-name.name-index names (omega (arith, over))) (c.loop-name.invariant.dealt jobs flushed start)
