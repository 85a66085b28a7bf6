use Rattle.log_model.specs.Entry.{Entry}
use Rattle.log_file.proofs.Texts.{log_entry}
use Rattle.examples.proofs.log.stage_name.Goals as goal

-- the entry that was spelled may stand in a log
pub stage-requires : goal.stage-requires
stage-requires c =
    let entry : Entry = record { region = 1; number = c.args.number; time = 1000; batch = c.«in_ok-batch».batch } in
    ∣ (entry, c.«in_ok-bytes».ensures.spelled, log_entry c.args.log.now.name entry c.requires.region c.«in_ok-bytes».ensures.entry) ∣₁
