use Rattle.std.proofs.Common.{◌≡◌, ◌≤◌, ◌+◌, ◌-◌, ℕ, List, length, take, Some, sym, ◌∙◌, ap, subst, arith}
use Rattle.std.specs.Prelude.{slice_index}
use Rattle.std.proofs.lemmas.List.{take_all, get_or_read}
use Rattle.std.specs.FinMap.{get-empty}
use Rattle.log_model.specs.Files.{Files, content, Reads, name_cmp}
use Rattle.disk_images.proofs.Reading.{reads_back}
use Rattle.disk_fakes.specs.declared.safe_call.SafeCall.{SafeCall}
use Rattle.disk_fakes.specs.Safe.{no_files, files_after}
use Rattle.disk_fakes.specs.SafeViews.{safe_files}
use Rattle.disk_fakes.proofs.SafeNoted.{back_files, back_met}
use Rattle.disk_fakes.proofs.safe_disk.SafeDisk.byte_at.Goals as goal

pub loop-left-init : goal.loop-left-init
loop-left-init c =
    let calls = c.args.self.now.calls.items in
    let all : c.len-left.result ≡ length calls = omega (arith, c.len-left.ensures, c.args.self.now.calls.ok.0) in
    let text = reads_back (safe_files c.args.self.now) c.args.name (c.args.place + 1) c.requires in
    let le : length calls ≤ c.len-left.result = omega (arith, all) in (
      omega (arith, all),
      (
        text.0,
        subst (λ (l : List SafeCall). Reads (files_after c.args.self.now.arena.items no_files l) c.args.name text.0) (sym (take_all c.len-left.result calls le)) text.1,
        omega (arith, text.2),
        λ e reads. (let there = text.1 in let one : text.0 ≡ e = cc (there, reads) in ap (λ (l : List ℕ). slice_index l c.args.place) one),
      ),
    )

pub overflow_add-start : goal.overflow_add-start
overflow_add-start c =
    let arena = c.args.self.now.arena.items in
    let calls = c.args.self.now.calls.items in
    let k = c.loop-left.left in
    let call = c.index.result.now in
    let before = files_after arena no_files (take (k - 1) calls) in
    let back = back_files arena calls k call c.loop-left-test.true c.loop-left.invariant.0 c.index.ensures in
    let met = back_met arena calls k call c.loop-left-test.true c.loop-left.invariant.0 c.index.ensures c.args.self.now.met in
    let text = c.loop-left.invariant.1 in
    let reads = subst (λ (f : Files). Reads f c.loop-left.current text.0) back text.1 in
    let found = c.in-At.ensures arena before text.0 met reads text.2 in
    omega (arith, found.0, c.args.self.now.arena.ok.0)

pub index-requires-in-At : goal.index-requires-in-At
index-requires-in-At c =
    let arena = c.args.self.now.arena.items in
    let calls = c.args.self.now.calls.items in
    let k = c.loop-left.left in
    let call = c.index.result.now in
    let before = files_after arena no_files (take (k - 1) calls) in
    let back = back_files arena calls k call c.loop-left-test.true c.loop-left.invariant.0 c.index.ensures in
    let met = back_met arena calls k call c.loop-left-test.true c.loop-left.invariant.0 c.index.ensures c.args.self.now.met in
    let text = c.loop-left.invariant.1 in
    let reads = subst (λ (f : Files). Reads f c.loop-left.current text.0) back text.1 in
    let found = c.in-At.ensures arena before text.0 met reads text.2 in
    omega (arith, found.0, c.args.self.now.arena.ok.0)

pub returns-in-At : goal.returns-in-At
returns-in-At c = λ e there.
    let arena = c.args.self.now.arena.items in
    let calls = c.args.self.now.calls.items in
    let k = c.loop-left.left in
    let call = c.index.result.now in
    let before = files_after arena no_files (take (k - 1) calls) in
    let back = back_files arena calls k call c.loop-left-test.true c.loop-left.invariant.0 c.index.ensures in
    let met = back_met arena calls k call c.loop-left-test.true c.loop-left.invariant.0 c.index.ensures c.args.self.now.met in
    let text = c.loop-left.invariant.1 in
    let reads = subst (λ (f : Files). Reads f c.loop-left.current text.0) back text.1 in
    let found = c.in-At.ensures arena before text.0 met reads text.2 in
    get_or_read arena (c.in-At.start + c.in-At.offset) c.index-in-At.result.now found.0 c.index-in-At.ensures 0 ∙ found.1 ∙ text.3 e there

pub loop-left-preserved : goal.loop-left-preserved
loop-left-preserved c =
    let arena = c.args.self.now.arena.items in
    let calls = c.args.self.now.calls.items in
    let k = c.loop-left.left in
    let call = c.index.result.now in
    let before = files_after arena no_files (take (k - 1) calls) in
    let back = back_files arena calls k call c.loop-left-test.true c.loop-left.invariant.0 c.index.ensures in
    let met = back_met arena calls k call c.loop-left-test.true c.loop-left.invariant.0 c.index.ensures c.args.self.now.met in
    let text = c.loop-left.invariant.1 in
    let reads = subst (λ (f : Files). Reads f c.loop-left.current text.0) back text.1 in
    let found = c.in-Before.ensures arena before text.0 met reads text.2 in
    (omega (arith, c.loop-left.invariant.0), (found.0, found.1, found.2, λ e there. found.3 ∙ text.3 e there))

pub unreachable-requires : goal.unreachable-requires
unreachable-requires c =
    let none : c.loop-left.left ≡ 0 = omega (arith, c.loop-left-test.false) in
    let text = c.loop-left.invariant.1 in
    let there : content no_files c.loop-left.current ≡ Some text.0 = subst (λ (n : ℕ). Reads (files_after c.args.self.now.arena.items no_files (take n c.args.self.now.calls.items)) c.loop-left.current text.0) none text.1 in
    let empty = get-empty {X = List ℕ} name_cmp c.loop-left.current in
    absurd (cc (there, empty))
