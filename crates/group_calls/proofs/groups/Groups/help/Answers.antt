use Rattle.std.proofs.Common.{ℕ, sym, subst, arith}
use Rattle.group_servers.specs.log_service.Places.{IsSeatOf}
use Rattle.group_servers.specs.Helping.{IsSeatAt}
use Rattle.group_calls.specs.Servers.{Servers, server_at}
use Rattle.group_calls.proofs.Seats.{seat_within}
use Rattle.group_calls.proofs.groups.Groups.help.Goals as goal

pub help_with-requires : goal.help_with-requires
help_with-requires g c =
    let there = subst (λ (k : ℕ). IsSeatAt (server_at c.args.self.now k) c.args.helper.now.seat) c.in-1.is c.requires.helper in
    record { seat = subst (λ (s : Servers). IsSeatOf s.first c.args.helper.now.seat) (sym c.self.view_is) there }

pub returns-in-1-clause-helper : goal.returns-in-1-clause-helper
returns-in-1-clause-helper g c =
    subst (λ (k : ℕ). IsSeatAt (server_at c.args.self.now k) c.help_with.new.seat) (sym c.in-1.is) (subst (λ (s : Servers). IsSeatOf s.first c.help_with.new.seat) c.self.view_is c.help_with.ensures.seat)

pub help_at-requires : goal.help_at-requires
help_at-requires g c =
    let there = subst (λ (k : ℕ). IsSeatAt (server_at c.args.self.now k) c.args.helper.now.seat) c.in-2.is c.requires.helper in
    record { seat = subst (λ (s : Servers). IsSeatAt s.second c.args.helper.now.seat) (sym c.self.view_is) there }

pub returns-in-2-clause-helper : goal.returns-in-2-clause-helper
returns-in-2-clause-helper g c =
    subst (λ (k : ℕ). IsSeatAt (server_at c.args.self.now k) c.help_at.new.seat) (sym c.in-2.is) (subst (λ (s : Servers). IsSeatAt s.second c.help_at.new.seat) c.self.view_is c.help_at.ensures.seat)

pub help_at-requires-in-3 : goal.help_at-requires-in-3
help_at-requires-in-3 g c =
    let there = subst (λ (k : ℕ). IsSeatAt (server_at c.args.self.now k) c.args.helper.now.seat) c.in-3.is c.requires.helper in
    record { seat = subst (λ (s : Servers). IsSeatAt s.third c.args.helper.now.seat) (sym c.self.view_is) there }

pub returns-in-3-clause-helper : goal.returns-in-3-clause-helper
returns-in-3-clause-helper g c =
    subst (λ (k : ℕ). IsSeatAt (server_at c.args.self.now k) c.help_at-in-3.new.seat) (sym c.in-3.is) (subst (λ (s : Servers). IsSeatAt s.third c.help_at-in-3.new.seat) c.self.view_is c.help_at-in-3.ensures.seat)

pub help_at-requires-in-4 : goal.help_at-requires-in-4
help_at-requires-in-4 g c =
    let there = subst (λ (k : ℕ). IsSeatAt (server_at c.args.self.now k) c.args.helper.now.seat) c.in-4.is c.requires.helper in
    record { seat = subst (λ (s : Servers). IsSeatAt s.fourth c.args.helper.now.seat) (sym c.self.view_is) there }

pub returns-in-4-clause-helper : goal.returns-in-4-clause-helper
returns-in-4-clause-helper g c =
    subst (λ (k : ℕ). IsSeatAt (server_at c.args.self.now k) c.help_at-in-4.new.seat) (sym c.in-4.is) (subst (λ (s : Servers). IsSeatAt s.fourth c.help_at-in-4.new.seat) c.self.view_is c.help_at-in-4.ensures.seat)

pub unreachable-requires : goal.unreachable-requires
unreachable-requires g c =
    let within = seat_within c.args.self.now c.args.helper.now.group c.args.helper.now.seat c.requires.helper in
    omega (arith, within.0, within.1)
