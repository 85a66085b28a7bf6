use Rattle.serial_history.proofs.History.{history_of}
use Rattle.serial_history.proofs.laws.lawful_replies_are_of_one_thread.Goals as goal

pub returns : goal.returns
returns c = history_of
