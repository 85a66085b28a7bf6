use Rattle.std.proofs.Common.{refl, arith}
use Rattle.std.proofs.lemmas.Grind.{common_steps}
use Rattle.folder_system.proofs.Copied.{grows_more, piece_text}
use Rattle.folder_system.proofs.opening.copy_piece.Goals as goal

pub returns-in-Ok-write-clause-grows : goal.returns-in-Ok-write-clause-grows
returns-in-Ok-write-clause-grows g c told =
    let u = g.S.System.view c.args.system.now in
    let k = g.S.System.inode c.args.from.now in
    grows_more k (g.S.System.inode c.args.to.now) c.args.at c.in-Ok.count _ c.write.result u (g.S.System.view c.read.new.self) (g.S.System.view c.write.new.self)
    (g.met.S.System.is_true c.args.system.now told) (g.met.S.System.is_true c.read.new.self told) (omega (arith, c.if-count-eq0.false)) (c.requires.certain told) (c.requires.end told)
    (c.read.ensures.looks told) (c.write.ensures.writes told) (c.in-Ok-write.ensures.writes told).certain (c.in-Ok-write.ensures.writes told).written
    (grind (arith, common_steps, c.in-Ok.ensures.within))
    (λ sure. piece_text (u.bytes k) c.args.piece.now c.read.new.into _ c.args.at c.in-Ok.count (c.in-Ok.ensures.count told sure) (c.in-Ok.ensures.bytes told sure) refl)
