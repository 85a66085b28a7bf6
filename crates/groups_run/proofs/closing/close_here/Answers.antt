use Rattle.groups_run.proofs.closing.close_here.Goals as goal

pub close_at-requires : goal.close_at-requires
close_at-requires g c = c.requires.back
