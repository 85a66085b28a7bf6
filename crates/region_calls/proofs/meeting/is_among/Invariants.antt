use Rattle.region_calls.proofs.meeting.is_among.Given as goal

abbrev pub invariant-seeking : goal.invariant-seeking
invariant-seeking g l = Unit {0}
