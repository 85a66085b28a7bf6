use Rattle.std.proofs.Math.Logic.{∥∥₁_map}
use Rattle.std.proofs.Common.{◌≡◌, ◌++◌, ◌+◌, List, ℕ, length, take, drop, sym, ap, ◌∙◌, subst, arith, take-append-drop}
use Rattle.std.proofs.lemmas.List.{take_all, length-take}
use Rattle.log_model.specs.Files.{Files, Reads}
use Rattle.entry_frame.specs.Feed.{IsFed}
use Rattle.file_base.proofs.Looking.{looks_more, looks_joined}
use Rattle.file_base.proofs.Pieces.{some_more}
use Rattle.log_file.proofs.Pieces.{read_behind, more_read}
use Rattle.log_file.proofs.read.Reading.read_pieces.Goals as goal

pub read_piece-requires-clause-there : goal.read_piece-requires-clause-there
read_piece-requires-clause-there g c told =
    ∥∥₁_map (c.requires.there told) (λ r.
    (r.0, subst (λ (f : Files). Reads f c.args.name r.0) (sym (c.loop-at.invariant.0.looks told).files) r.1, omega (arith, c.loop-at-test.true, c.requires.size told r.0 r.1)))

pub loop-at-preserved : goal.loop-at-preserved
loop-at-preserved g c =
    let so_far = c.loop-at.invariant.0 in
    let at = c.loop-at.at in
    let n = c.in_ok-n.n in
    let wide = length-take c.min-want.result c.loop-at.buffer in
    let piece = take n c.read_piece.new.into in (
      record {
        given = so_far.given ++ piece;
        count = more_read so_far.given c.read_piece.new.into at n so_far.count (omega (arith, c.in_ok-n.ensures.within, c.read_piece.auto.into));
        fed = c.in_ok-n.ensures.fed so_far.given so_far.fed;
        key_is = c.in_ok-n.ensures.key ∙ so_far.key_is;
        part = λ told bytes reads.
            let now = subst (λ (f : Files). Reads f c.args.name bytes) (sym (so_far.looks told).files) reads in
            read_behind so_far.given piece bytes at n (so_far.part told bytes reads) (c.in_ok-n.ensures.bytes told bytes now);
        looks = λ told.
            looks_more (at + 1) (at + n) (g.D.Disk.view c.args.disk.now) (g.D.Disk.view c.read_piece.new.disk) (some_more at n c.if-n-eq0.false)
            (looks_joined at 1 (g.D.Disk.view c.args.disk.now) (g.D.Disk.view c.loop-at.disk) (g.D.Disk.view c.read_piece.new.disk) (so_far.looks told) (c.read_piece.ensures.looks told));
      },
      omega (arith, c.loop-at.invariant.1, c.read_piece.ensures.cause.later),
      omega (arith, c.in_ok-n.ensures.within, wide, c.min-want.ensures, c.loop-at-test.true),
    )

pub returns-after-loop-at-clause-fed : goal.returns-after-loop-at-clause-fed
returns-after-loop-at-clause-fed g c told bytes reads =
    let so_far = c.loop-at.invariant.0 in
    let whole : length bytes ≡ c.loop-at.at = omega (arith, c.requires.size told bytes reads, c.loop-at-test.false, c.loop-at.invariant.2) in
    subst (λ (b : List ℕ). IsFed c.loop-at.self.feed b c.loop-at.self.entries.items) (so_far.part told bytes reads ∙ take_all c.loop-at.at bytes (omega (arith, whole))) so_far.fed

pub returns-then-n-eq0-clause-fed : goal.returns-then-n-eq0-clause-fed
returns-then-n-eq0-clause-fed g c told bytes reads =
    let so_far = c.loop-at.invariant.0 in
    let now = subst (λ (f : Files). Reads f c.args.name bytes) (sym (so_far.looks told).files) reads in
    absurd (omega (arith, c.if-n-eq0.true, c.in_ok-n.ensures.count told bytes now, length-take c.min-want.result c.loop-at.buffer, c.min-want.ensures, c.loop-at-test.true, c.requires.size told bytes reads, c.loop-at.auto.buffer, c.requires.room))

pub returns-then-has_ended-clause-fed : goal.returns-then-has_ended-clause-fed
returns-then-has_ended-clause-fed g c told bytes reads =
    let so_far = c.loop-at.invariant.0 in
    let at = c.loop-at.at in
    let n = c.in_ok-n.n in
    let piece = take n c.read_piece.new.into in
    let now = subst (λ (f : Files). Reads f c.args.name bytes) (sym (so_far.looks told).files) reads in
    let front : so_far.given ++ piece ≡ take (at + n) bytes = read_behind so_far.given piece bytes at n (so_far.part told bytes reads) (c.in_ok-n.ensures.bytes told bytes now) in
    subst (λ (b : List ℕ). IsFed c.read_piece.new.self.feed b c.read_piece.new.self.entries.items) (ap (λ (l : List ℕ). l ++ drop (at + n) bytes) front ∙ take-append-drop (at + n) bytes)
    (c.has_ended.ensures.more c.if-has_ended.true (so_far.given ++ piece) (drop (at + n) bytes) c.read_piece.new.self.entries.items (c.in_ok-n.ensures.fed so_far.given so_far.fed))

pub returns-then-has_ended-clause-looks : goal.returns-then-has_ended-clause-looks
returns-then-has_ended-clause-looks g c told =
    let so_far = c.loop-at.invariant.0 in
    let at = c.loop-at.at in
    looks_more (at + 1) c.args.size (g.D.Disk.view c.args.disk.now) (g.D.Disk.view c.read_piece.new.disk) (omega (arith, c.loop-at-test.true))
    (looks_joined at 1 (g.D.Disk.view c.args.disk.now) (g.D.Disk.view c.loop-at.disk) (g.D.Disk.view c.read_piece.new.disk) (so_far.looks told) (c.read_piece.ensures.looks told))
