use Rattle.std.proofs.Common.{◌≡◌, ℕ, List, length, ap, subst, arith}
use Rattle.std.proofs.lemmas.List.{nil_from_length}
use Rattle.std.specs.declared.vec.Vec.{Vec}
use Rattle.std.specs.Global.{Global}
use Rattle.log_model.specs.Entry.{Entry, IsEntry}
use Rattle.recovery_laws.proofs.Lists.{some_family}
use Rattle.wal_split.specs.Flushed.{alone_in}
use Rattle.wal_split.proofs.gathered.is_unflushed.Goals as goal

-- no family was flushed alone
alone_none : (es : List (Vec ℕ Global × ℕ)) (f : List ℕ) → length es ≡ 0 → alone_in es f ≡ 0
alone_none es f none = ap (λ (l : List (Vec ℕ Global × ℕ)). alone_in l f) (nil_from_length es none)

pub returns-then-is_empty : goal.returns-then-is_empty
returns-then-is_empty c =
    let e : Entry = c.args.entry.now in
    let valid : IsEntry e = subst IsEntry c.entry.view_is c.entry.invariant.0 in
    let some = some_family e valid.batch.given in
    let number : c.entry.inside.number ≡ e.number = ap (λ (v : Entry). v.number) c.entry.view_is in
    let none = alone_none c.args.flushed.now.alone.entries some.0 (c.is_empty.ensures.0 c.if-is_empty.true) in
    (λ is. (some.0, some.1, omega (arith, none, number, c.if-entry-flushed.false)), λ above. c.if-is_empty.true)
