use Rattle.std.proofs.Math.Logic.{∥∥₁_map}
use Rattle.std.proofs.Common.{◌+◌, ◌-◌, List, ℕ, ◌++◌, length, take, drop, sym, ◌∙◌, subst, arith, length-append}
use Rattle.std.proofs.lemmas.List.{take_all, length-take, length-drop}
use Rattle.log_model.specs.Files.{Files, Reads}
use Rattle.file_base.proofs.Looking.{looks_more, looks_on}
use Rattle.file_base.proofs.Pieces.{some_more}
use Rattle.store_file.proofs.Filling.{filled}
use Rattle.store_file.proofs.read.read_pieces.Goals as goal

pub read-requires : goal.read-requires
read-requires g c told =
    let so_far = c.loop-at.invariant.0 in
    ∥∥₁_map (c.requires.there told) (λ r. (r.0, subst (λ (f : Files). Reads f c.args.name r.0) (sym (so_far.looks told).files) r.1, omega (arith, c.requires.size told r.0 r.1, so_far.within, c.loop-at.auto.into)))

pub loop-at-preserved : goal.loop-at-preserved
loop-at-preserved g c =
    let so_far = c.loop-at.invariant.0 in
    let at = c.loop-at.at in
    let n = c.in_ok-n.n in
    let room : List ℕ = take (at + c.min-want.result - at) (drop at c.loop-at.into) in
    let rest : List ℕ = drop (at + c.min-want.result - at) (drop at c.loop-at.into) in (
      record {
        some = omega (arith, so_far.some);
        within = omega (arith, c.in_ok-n.ensures.within, c.read.auto.into, length-append (take at c.loop-at.into) (c.read.new.into ++ rest), length-append c.read.new.into rest, length-take at c.loop-at.into, so_far.within);
        part = λ told bytes reads.
            let now = subst (λ (f : Files). Reads f c.args.name bytes) (sym (so_far.looks told).files) reads in
            filled c.loop-at.into bytes c.read.new.into (drop n room) rest at n (length room) so_far.within (so_far.part told bytes reads)
            (c.in_ok-n.ensures.bytes told bytes now) (c.in_ok-n.ensures.count told bytes now);
        looks = λ told.
            looks_more (at - 1 + 1) (at + n - 1) (g.D.Disk.view c.args.disk.now) (g.D.Disk.view c.read.new.self) (omega (arith, so_far.some, some_more at n c.if-n-eq0.false))
            (looks_on (at - 1) (g.D.Disk.view c.args.disk.now) (g.D.Disk.view c.loop-at.disk) (g.D.Disk.view c.read.new.self) (so_far.looks told) (c.read.ensures.looks told));
      },
      omega (arith, c.loop-at.invariant.1, c.read.ensures.cause.later),
    )

pub returns-after-loop-at-clause-whole : goal.returns-after-loop-at-clause-whole
returns-after-loop-at-clause-whole g c told bytes reads =
    let so_far = c.loop-at.invariant.0 in
    so_far.part told bytes reads ∙ take_all c.loop-at.at bytes (omega (arith, c.requires.size told bytes reads, c.loop-at-test.false, c.loop-at.auto.into))

pub returns-then-n-eq0-clause-whole : goal.returns-then-n-eq0-clause-whole
returns-then-n-eq0-clause-whole g c told bytes reads =
    let so_far = c.loop-at.invariant.0 in
    let now = subst (λ (f : Files). Reads f c.args.name bytes) (sym (so_far.looks told).files) reads in
    let at = c.loop-at.at in
    let want = at + c.min-want.result - at in
    absurd (omega (arith, c.if-n-eq0.true, c.in_ok-n.ensures.count told bytes now, length-take want (drop at c.loop-at.into), length-drop at c.loop-at.into, c.min-want.ensures, c.loop-at-test.true, c.requires.size told bytes reads, c.loop-at.auto.into))
