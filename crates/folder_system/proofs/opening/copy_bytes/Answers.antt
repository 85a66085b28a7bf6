use Rattle.std.proofs.Common.{IsTrue, arith, ◌∙◌}
use Rattle.folder_system.proofs.Copied.{more_copied, copied_all}
use Rattle.folder_system.proofs.opening.copy_bytes.Goals as goal

pub copy-preserved : goal.copy-preserved
copy-preserved g c = (
  more_copied (IsTrue g.S.System.told) (g.S.System.inode c.args.from.now) (g.S.System.inode c.args.to.now) c.copy.at c.in-Ok.count (g.S.System.view c.args.system.now) (g.S.System.view c.copy.system)
      (g.S.System.view c.copy_piece.new.system) c.requires.apart c.copy.invariant.0 c.in-Ok.ensures.grows,
  c.in-Ok.ensures.fits,
  c.copy_piece.ensures.kept ∙ c.copy.invariant.2,
  omega (arith, c.copy.invariant.3, c.copy_piece.ensures.cause.later),
)

pub returns-then-count-eq0-clause-copies : goal.returns-then-count-eq0-clause-copies
returns-then-count-eq0-clause-copies g c told =
    copied_all (g.S.System.inode c.args.from.now) (g.S.System.inode c.args.to.now) c.copy.at c.in-Ok.count (g.S.System.view c.args.system.now) (g.S.System.view c.copy.system)
    (g.S.System.view c.copy_piece.new.system) (c.requires.apart told) (c.copy.invariant.0.copying told) (c.in-Ok.ensures.grows told) (omega (arith, c.if-count-eq0.true))
