use Rattle.service_trials.proofs.sharing.try_region.Given as goal

abbrev pub ghosts-run : goal.ghosts-run
ghosts-run g a = record { book = λ r. a.opened.seen.book; region_base = λ r. a.state.now.base }
