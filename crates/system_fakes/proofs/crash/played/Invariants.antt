use Rattle.std.proofs.Common.{◌≡◌, take}
use Rattle.system_fakes.specs.Table.{held_in}
use Rattle.system_fakes.specs.History.{after, quiet}
use Rattle.system_fakes.specs.Image.{IsPlayed}
use Rattle.system_fakes.proofs.crash.played.Given as goal

abbrev pub invariant-loop-place : goal.invariant-loop-place
invariant-loop-place l =
    (held_in l.truth ≡ (after (quiet (held_in l.first)) (take l.place l.ops)).held) × IsPlayed (after (quiet (held_in l.first)) (take l.place l.ops)) (held_in l.image)
