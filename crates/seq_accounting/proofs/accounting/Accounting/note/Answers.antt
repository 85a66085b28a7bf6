use Rattle.std.proofs.Common.{◌≡◌, ◌<◌, List, [], get_or, refl, subst, sym, arith}
use Rattle.seq_accounting.specs.Marks.{FamilyMark, AreGiven}
use Rattle.seq_accounting.specs.Accounts.{Accounts}
use Rattle.seq_accounting.specs.Noted.{HasNoted}
use Rattle.seq_accounting.proofs.NotedLaws.{noted_more}
use Rattle.seq_accounting.proofs.CallLaws.{Notes, noted_idle, noted_busy, order_idle, order_busy}
use Rattle.seq_accounting.proofs.accounting.Accounting.note.Goals as goal

pub invariant_of-self : goal.invariant_of-self
invariant_of-self c =
    let above = subst (λ (a : Accounts). get_or a.noted c.args.region 0 < c.args.number) (sym c.self.view_is) c.requires.above in
    order_idle _ _ c.args.region c.args.number c.args.marks c.note.new.self c.self.invariant c.requires.region above c.if-self-region-eq0.true (record {
      account = c.parts-account.result.0;
      file = c.parts-account.result.1;
      of_account = c.parts-account.ensures.account;
      of_file = c.parts-account.ensures.file;
      given = subst (λ (l : List FamilyMark). AreGiven l c.note.new.self c.args.region c.args.number c.parts-account.result.0) c.new-noted.ensures c.note.ensures;
      current = c.note-2.ensures;
      noted = refl;
      flushed = record { whole = refl; flushed = refl };
      flushing = refl;
      files = record { closed = refl; last = refl; room = refl };
    }) c.pour.ensures.poured refl c.pour.ensures.places

pub invariant_of-self-else-self-region-eq0 : goal.invariant_of-self-else-self-region-eq0
invariant_of-self-else-self-region-eq0 c =
    let above = subst (λ (a : Accounts). get_or a.noted c.args.region 0 < c.args.number) (sym c.self.view_is) c.requires.above in
    order_busy _ _ c.args.region c.args.number c.args.marks c.note.new.self c.self.invariant c.requires.region above (λ z. absurd (omega (arith, c.if-self-region-eq0.false, z))) (record {
      account = c.parts-account.result.0;
      file = c.parts-account.result.1;
      of_account = c.parts-account.ensures.account;
      of_file = c.parts-account.ensures.file;
      given = subst (λ (l : List FamilyMark). AreGiven l c.note.new.self c.args.region c.args.number c.parts-account.result.0) c.new-noted.ensures c.note.ensures;
      current = c.note-2.ensures;
      noted = refl;
      flushed = record { whole = refl; flushed = refl };
      flushing = refl;
      files = record { closed = refl; last = refl; room = refl };
    }) refl c.pour-else-self-region-eq0.ensures.poured c.pour-else-self-region-eq0.ensures.places

pub returns-then-self-region-eq0-clause-order : goal.returns-then-self-region-eq0-clause-order
returns-then-self-region-eq0-clause-order c = invariant_of-self c

pub returns-else-self-region-eq0-clause-order : goal.returns-else-self-region-eq0-clause-order
returns-else-self-region-eq0-clause-order c = invariant_of-self-else-self-region-eq0 c

pub returns-then-self-region-eq0-clause-noted : goal.returns-then-self-region-eq0-clause-noted
returns-then-self-region-eq0-clause-noted c =
    rw (← c.self.view_is) (noted_idle _ _ c.args.region c.args.number c.args.marks c.note.new.self c.self.invariant c.requires.region c.if-self-region-eq0.true (record {
      account = c.parts-account.result.0;
      file = c.parts-account.result.1;
      of_account = c.parts-account.ensures.account;
      of_file = c.parts-account.ensures.file;
      given = subst (λ (l : List FamilyMark). AreGiven l c.note.new.self c.args.region c.args.number c.parts-account.result.0) c.new-noted.ensures c.note.ensures;
      current = c.note-2.ensures;
      noted = refl;
      flushed = record { whole = refl; flushed = refl };
      flushing = refl;
      files = record { closed = refl; last = refl; room = refl };
    }) c.pour.ensures.poured refl)

pub returns-else-self-region-eq0-clause-noted : goal.returns-else-self-region-eq0-clause-noted
returns-else-self-region-eq0-clause-noted c =
    rw (← c.self.view_is) (noted_busy _ _ c.args.region c.args.number c.args.marks c.note.new.self c.self.invariant c.requires.region (λ z. absurd (omega (arith, c.if-self-region-eq0.false, z))) (record {
      account = c.parts-account.result.0;
      file = c.parts-account.result.1;
      of_account = c.parts-account.ensures.account;
      of_file = c.parts-account.ensures.file;
      given = subst (λ (l : List FamilyMark). AreGiven l c.note.new.self c.args.region c.args.number c.parts-account.result.0) c.new-noted.ensures c.note.ensures;
      current = c.note-2.ensures;
      noted = refl;
      flushed = record { whole = refl; flushed = refl };
      flushing = refl;
      files = record { closed = refl; last = refl; room = refl };
    }) refl c.pour-else-self-region-eq0.ensures.poured)

pub returns-then-self-region-eq0-clause-history : goal.returns-then-self-region-eq0-clause-history
returns-then-self-region-eq0-clause-history c notes x alike h =
    let above = subst (λ (a : Accounts). get_or a.noted c.args.region 0 < c.args.number) (sym c.self.view_is) c.requires.above in
    let before = subst (λ (a : Accounts). HasNoted a notes) (sym c.self.view_is) h in
    noted_more _ _ notes c.args.marks c.args.region c.args.number x c.self.invariant c.requires.region above
    (rw c.self.view_is (returns-then-self-region-eq0-clause-noted c)) alike before

pub returns-else-self-region-eq0-clause-history : goal.returns-else-self-region-eq0-clause-history
returns-else-self-region-eq0-clause-history c notes x alike h =
    let above = subst (λ (a : Accounts). get_or a.noted c.args.region 0 < c.args.number) (sym c.self.view_is) c.requires.above in
    let before = subst (λ (a : Accounts). HasNoted a notes) (sym c.self.view_is) h in
    noted_more _ _ notes c.args.marks c.args.region c.args.number x c.self.invariant c.requires.region above
    (rw c.self.view_is (returns-else-self-region-eq0-clause-noted c)) alike before
