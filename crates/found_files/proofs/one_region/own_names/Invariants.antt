use Rattle.std.proofs.Common.{◌≡◌, take}
use Rattle.found_files.specs.OfRegion.{names_of}
use Rattle.found_files.proofs.one_region.own_names.Given as goal

abbrev pub invariant-loop-name : goal.invariant-loop-name
invariant-loop-name l = l.own.items ≡ names_of l.region (take l.name-index l.names)
