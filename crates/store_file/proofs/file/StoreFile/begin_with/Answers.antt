use Rattle.std.proofs.Common.{rules, refl, ◌∙◌, ap, ◌++◌, arith, length}
use Rattle.store_file.specs.Open.{OpenStore, fields_text}
use Rattle.store_file.proofs.Stores.{begin_moments}
use Rattle.store_file.proofs.Writing.{begun_filling}
use Rattle.store_file.proofs.file.StoreFile.begin_with.Goals as goal

pub returns-in_err-create_durably-clause-begins : goal.returns-in_err-create_durably-clause-begins
returns-in_err-create_durably-clause-begins g c told = record {
  filling = search rules;
  never_there = begin_moments c.args.name (g.D.Disk.view c.args.disk.now) (g.D.Disk.view c.create_durably.new.disk) (c.create_durably.ensures.any_moment told);
  no_other_file = c.create_durably.ensures.touches told;
}

pub invariant_of-result : goal.invariant_of-result
invariant_of-result g c = record {
  small = omega arith;
  waiting = omega (arith, c.add_fields.ensures.len, ap length c.requires.«empty», ap length c.as_slice.ensures, c.requires.short);
  counted = omega arith;
}

pub returns-clause-begins : goal.returns-clause-begins
returns-clause-begins g c told =
    let o : OpenStore = record { name = c.args.name; scope = c.args.scope; family = c.args.family; from = c.args.from; to = c.args.to; count = c.args.count; filled = 0; at = 1; bytes = c.add_fields.new.self } in
    record {
      filling = begun_filling o (g.D.Disk.view c.create_durably.new.disk) (c.in_ok-create_durably.ensures.durable told) refl
          (c.add_fields.ensures.bytes ∙ (λ i. c.requires.«empty» i ++ fields_text c.args.name.region c.args.scope (c.as_slice.ensures i) c.args.from c.args.to c.args.count)) refl;
      never_there = begin_moments c.args.name (g.D.Disk.view c.args.disk.now) (g.D.Disk.view c.create_durably.new.disk) (c.create_durably.ensures.any_moment told);
      no_other_file = c.create_durably.ensures.touches told;
    }
