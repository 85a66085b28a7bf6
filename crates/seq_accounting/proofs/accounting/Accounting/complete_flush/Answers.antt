use Rattle.std.proofs.Common.{◌≡◌, List, [], Option, get_or, refl, ap, subst, sym, ◌∙◌}
use Rattle.seq_accounting.specs.declared.flushing.MarkRoom.{MarkRoom}
use Rattle.seq_accounting.specs.Regions.{IsPouredAt}
use Rattle.seq_accounting.specs.Rooms.{flush_of, family_of, IsRoom}
use Rattle.seq_accounting.specs.Accounts.{Accounts, Flush}
use Rattle.seq_accounting.specs.Noted.{HasNoted}
use Rattle.seq_accounting.proofs.NotedLaws.{noted_complete}
use Rattle.seq_accounting.proofs.CallLaws.{completed_all, completed_one}
use Rattle.seq_accounting.proofs.accounting.Accounting.complete_flush.Goals as goal

pub returns-in-Some-clause-completed : goal.returns-in-Some-clause-completed
returns-in-Some-clause-completed c =
    let s = c.«spend-region» in
    let has = subst (IsRoom s.result.region s.result.number) c.in-Some.is s.ensures.room in
    let flush = ap (λ (o : Option MarkRoom). record { region = s.result.region; family = family_of o; number = s.result.number }) (sym c.in-Some.is) ∙ s.ensures.flush in
    let under_way = subst (λ (f : Flush). get_or c.self.inside.flushing f.region 0 ≡ f.number) (sym s.ensures.flush) (subst (λ (a : Accounts). get_or a.flushing c.args.flushing.region 0 ≡ c.args.flushing.number) (sym c.self.view_is) c.requires) in
    rw (← c.self.view_is, ← flush) (completed_one _ _ s.result.region s.result.number c.in-Some.room.flushed.value.family c.in-Some.room.flushed.value c.in-Some.room.oldest.value c.put-in-Some.new.self c.self.invariant
    s.ensures.within has.given s.ensures.given under_way (record {
      since = c.take-since.ensures.left;
      flushing = refl;
      noted = refl;
      current = refl;
      files = record { closed = refl; last = refl; room = refl };
    }) has.flushed has.oldest refl c.put.ensures.put c.put-in-Some.ensures.put
    (subst (IsPouredAt c.put-in-Some.new.self c.pour.new.self s.result.region) c.take-since.ensures.taken c.pour.ensures.poured))

pub returns-in-Some-clause-history : goal.returns-in-Some-clause-history
returns-in-Some-clause-history c notes h =
    let s = c.«spend-region» in
    let under_way = subst (λ (f : Flush). get_or c.self.inside.flushing f.region 0 ≡ f.number) (sym s.ensures.flush) (subst (λ (a : Accounts). get_or a.flushing c.args.flushing.region 0 ≡ c.args.flushing.number) (sym c.self.view_is) c.requires) in
    let before = subst (λ (a : Accounts). HasNoted a notes) (sym c.self.view_is) h in
    noted_complete _ _ notes (flush_of s.result) c.self.invariant s.ensures.within s.ensures.given under_way
    (rw (c.self.view_is, s.ensures.flush) (returns-in-Some-clause-completed c)) before

pub returns-in-None-clause-completed : goal.returns-in-None-clause-completed
returns-in-None-clause-completed c =
    let s = c.«spend-region» in
    let flush = ap (λ (o : Option MarkRoom). record { region = s.result.region; family = family_of o; number = s.result.number }) (sym c.in-None.is) ∙ s.ensures.flush in
    rw (← c.self.view_is, ← flush) (completed_all _ _ s.result.region s.result.number c.self.invariant s.ensures.within (record {
      since = c.take-since.ensures.left;
      flushing = refl;
      noted = refl;
      current = refl;
      files = record { closed = refl; last = refl; room = refl };
    }) refl (rw c.new.ensures at c.set.ensures.set) (rw c.take-since.ensures.taken at c.set-in-None.ensures.set))

pub returns-in-None-clause-history : goal.returns-in-None-clause-history
returns-in-None-clause-history c notes h =
    let s = c.«spend-region» in
    let under_way = subst (λ (f : Flush). get_or c.self.inside.flushing f.region 0 ≡ f.number) (sym s.ensures.flush) (subst (λ (a : Accounts). get_or a.flushing c.args.flushing.region 0 ≡ c.args.flushing.number) (sym c.self.view_is) c.requires) in
    let before = subst (λ (a : Accounts). HasNoted a notes) (sym c.self.view_is) h in
    noted_complete _ _ notes (flush_of s.result) c.self.invariant s.ensures.within s.ensures.given under_way
    (rw (c.self.view_is, s.ensures.flush) (returns-in-None-clause-completed c)) before
