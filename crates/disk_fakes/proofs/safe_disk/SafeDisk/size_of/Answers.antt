use Rattle.std.proofs.Common.{◌≡◌, ◌-◌, ℕ, List, take, Option, sym, ◌∙◌, ap, arith}
use Rattle.std.specs.FinMap.{get-empty}
use Rattle.log_model.specs.Files.{Files, content, name_cmp}
use Rattle.disk_fakes.specs.Safe.{no_files, files_after, size_with}
use Rattle.disk_fakes.proofs.SafeNoted.{back_files, back_met}
use Rattle.disk_fakes.proofs.safe_disk.SafeDisk.size_of.Goals as goal

pub returns-in-Is : goal.returns-in-Is
returns-in-Is c =
    let arena = c.args.self.now.arena.items in
    let calls = c.args.self.now.calls.items in
    let k = c.loop-left.left in
    let call = c.index.result.now in
    let before = files_after arena no_files (take (k - 1) calls) in
    let back = back_files arena calls k call c.loop-left-test.true c.loop-left.invariant.0 c.index.ensures in
    let met = back_met arena calls k call c.loop-left-test.true c.loop-left.invariant.0 c.index.ensures c.args.self.now.met in
    sym (c.loop-left.invariant.1 ∙ ap (λ (f : Files). size_with (content f c.loop-left.current) c.loop-left.reach) back ∙ c.in-Is.ensures arena before met)

pub returns-in-NotThere : goal.returns-in-NotThere
returns-in-NotThere c =
    let arena = c.args.self.now.arena.items in
    let calls = c.args.self.now.calls.items in
    let k = c.loop-left.left in
    let call = c.index.result.now in
    let before = files_after arena no_files (take (k - 1) calls) in
    let back = back_files arena calls k call c.loop-left-test.true c.loop-left.invariant.0 c.index.ensures in
    let met = back_met arena calls k call c.loop-left-test.true c.loop-left.invariant.0 c.index.ensures c.args.self.now.met in
    sym (c.loop-left.invariant.1 ∙ ap (λ (f : Files). size_with (content f c.loop-left.current) c.loop-left.reach) back ∙ c.in-NotThere.ensures arena before met)

pub loop-left-preserved : goal.loop-left-preserved
loop-left-preserved c =
    let arena = c.args.self.now.arena.items in
    let calls = c.args.self.now.calls.items in
    let k = c.loop-left.left in
    let call = c.index.result.now in
    let before = files_after arena no_files (take (k - 1) calls) in
    let back = back_files arena calls k call c.loop-left-test.true c.loop-left.invariant.0 c.index.ensures in
    let met = back_met arena calls k call c.loop-left-test.true c.loop-left.invariant.0 c.index.ensures c.args.self.now.met in
    (omega (arith, c.loop-left.invariant.0), c.loop-left.invariant.1 ∙ ap (λ (f : Files). size_with (content f c.loop-left.current) c.loop-left.reach) back ∙ c.in-Before.ensures arena before met)

pub returns : goal.returns
returns c =
    let none : c.loop-left.left ≡ 0 = omega (arith, c.loop-left-test.false) in
    sym (c.loop-left.invariant.1 ∙ ap (λ (n : ℕ). size_with (content (files_after c.args.self.now.arena.items no_files (take n c.args.self.now.calls.items)) c.loop-left.current) c.loop-left.reach) none
    ∙ ap (λ (o : Option (List ℕ)). size_with o c.loop-left.reach) (get-empty name_cmp c.loop-left.current))
