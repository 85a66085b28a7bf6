use Rattle.std.proofs.Common.{take, drop}
use Rattle.disk_fakes.specs.Table.{files_in}
use Rattle.disk_fakes.specs.History.{after, quiet}
use Rattle.disk_fakes.specs.Candidate.{IsCandidate}
use Rattle.disk_fakes.proofs.crash.played.Given as goal

abbrev pub invariant-loop-place : goal.invariant-loop-place
invariant-loop-place l = IsCandidate (after (quiet (files_in l.first)) (take l.place l.calls)) (drop l.place l.calls) (files_in l.image)
