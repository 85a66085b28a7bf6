use Rattle.std.proofs.Common.{◌≡◌, sym, ap, subst, ◌∙◌}
use Rattle.seq_accounting.specs.Marks.{IsPut, is_of}
use Rattle.seq_accounting.specs.Branch.{Branch, marks_of, linked, bit_of}
use Rattle.seq_accounting.proofs.TreeLaws.{put_top_at, put_left_at, put_right_at, put_alone_at}
use Rattle.seq_accounting.proofs.mark.Mark.+put.Goals as goal
use Rattle.seq_accounting.proofs.mark.Mark.+put.Goals.{in-Some-1, in-None-1, in-Some-2, in-None-2}

pub returns-then-is_same : goal.returns-then-is_same
returns-then-is_same t c =
    let i = c.self.inside in
    let is = rw c.deref.ensures at (sym c.is_same.ensures ∙ c.if-is_same.true) in
    put_top_at c.args.self.now i.region i.family i.number i.bit (linked i.left) (linked i.right) c.args.mark.value c.number-newer.result c.self.view_is c.self.invariant is (rw c.deref-then-is_same.ensures at c.number-newer.ensures)

pub returns-in-Some : goal.returns-in-Some
returns-in-Some t c =
    let i = c.self.inside in
    let other = rw c.deref.ensures at (sym c.is_same.ensures ∙ c.if-is_same.false) in
    let high = rw c.deref-2.ensures at (sym c.goes_right.ensures ∙ c.if-goes_right.true) in
    let put = rw c.deref_mut.ensures.value at c.put.ensures in
    put_right_at c.args.self.now i.region i.family i.number i.bit (linked i.left) (linked i.right) (marks_of c.put.new.self) c.args.mark.value c.self.view_is c.self.invariant other high
    (rw c.in-Some.is put)

pub returns-in-None : goal.returns-in-None
returns-in-None t c =
    let i = c.self.inside in
    let other = rw c.deref.ensures at (sym c.is_same.ensures ∙ c.if-is_same.false) in
    let high = rw c.deref-2.ensures at (sym c.goes_right.ensures ∙ c.if-goes_right.true) in
    let done = put_right_at c.args.self.now i.region i.family i.number i.bit (linked i.left) (linked i.right) (marks_of c.under.result.value) c.args.mark.value c.self.view_is c.self.invariant other high
    (put_alone_at (linked i.right) c.under.result.value c.args.mark.value (ap linked c.in-None.is) c.under.ensures c.requires) in
    elim c.match-self-2.branch [ in-Some-1 w ↦ rw w.self-is done | in-None-1 w ↦ rw w.self-is done ]

pub returns-in-Some-left : goal.returns-in-Some-left
returns-in-Some-left t c =
    let i = c.self.inside in
    let other = rw c.deref.ensures at (sym c.is_same.ensures ∙ c.if-is_same.false) in
    let low = rw c.deref-2.ensures at (sym c.goes_right.ensures ∙ c.if-goes_right.false) in
    let put = rw c.deref_mut-in-Some-left.ensures.value at c.put-in-Some-left.ensures in
    put_left_at c.args.self.now i.region i.family i.number i.bit (linked i.left) (marks_of c.put-in-Some-left.new.self) (linked i.right) c.args.mark.value c.self.view_is c.self.invariant other low
    (rw c.in-Some-left.is put)

pub returns-in-None-left : goal.returns-in-None-left
returns-in-None-left t c =
    let i = c.self.inside in
    let other = rw c.deref.ensures at (sym c.is_same.ensures ∙ c.if-is_same.false) in
    let low = rw c.deref-2.ensures at (sym c.goes_right.ensures ∙ c.if-goes_right.false) in
    let done = put_left_at c.args.self.now i.region i.family i.number i.bit (linked i.left) (marks_of c.under-in-None-left.result.value) (linked i.right) c.args.mark.value c.self.view_is c.self.invariant other low
    (put_alone_at (linked i.left) c.under-in-None-left.result.value c.args.mark.value (ap linked c.in-None-left.is) c.under-in-None-left.ensures c.requires) in
    elim c.match-self-4.branch [ in-Some-2 w ↦ rw w.self-is done | in-None-2 w ↦ rw w.self-is done ]
