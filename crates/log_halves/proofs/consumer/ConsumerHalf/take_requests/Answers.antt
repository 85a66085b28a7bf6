use Rattle.log_halves.proofs.consumer.ConsumerHalf.take_requests.Goals as goal

pub invariant_of-self : goal.invariant_of-self
invariant_of-self g c =
    let s = c.args.self.now in
    record { ring = s.ring; to = s.to; rest = s.rest; tie = s.tie; spelled = s.spelled; alone = s.alone; came = s.came; follow = s.follow }
