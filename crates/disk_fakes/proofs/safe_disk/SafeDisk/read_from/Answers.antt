use Rattle.std.proofs.Common.{◌≡◌, ◌<◌, ◌+◌, ℕ, List, [], ◌∷◌, ◌++◌, length, take, drop, sym, ◌∙◌, ap, arith, length-drop, take-append-drop}
use Rattle.std.proofs.lemmas.List.{take_more, take_more_set, drop-set-lt, drop-drop, get_or-drop}
use Rattle.std.proofs.Math.Logic.{∥∥₁_map}
use Rattle.disk_images.proofs.Reading.{reads_back}
use Rattle.disk_fakes.specs.SafeViews.{safe_files}
use Rattle.disk_fakes.proofs.safe_disk.SafeDisk.read_from.Goals as goal

pub overflow_add-at : goal.overflow_add-at
overflow_add-at c =
    let text = reads_back (safe_files c.args.self.now) c.args.name c.args.at c.requires in
    omega (arith, text.2, c.left_of.ensures.left text.0 text.1, c.left_of.ensures.fits text.0 text.1, c.min-count.ensures, c.loop-i-test.true)

pub byte_at-requires : goal.byte_at-requires
byte_at-requires c = ∥∥₁_map c.requires (λ r. (r.0, r.1, omega (arith, r.2, c.left_of.ensures.left r.0 r.1, c.min-count.ensures, c.loop-i-test.true)))

pub loop-i-preserved : goal.loop-i-preserved
loop-i-preserved c =
    let into = c.loop-i.into in
    let i = c.loop-i.i in
    let b = c.byte_at.result in
    let there : i < length into = omega (arith, c.loop-i.auto.into, c.min-count.ensures, c.loop-i-test.true) in
    let next : i < i + 1 = omega arith in (
      λ d reads.
          let left : i < length (drop c.args.at d) = omega (arith, length-drop c.args.at d, c.left_of.ensures.left d reads, c.min-count.ensures, c.loop-i-test.true) in
          take_more_set into i b there ∙ ap (λ (l : List ℕ). l ++ b ∷ []) (c.loop-i.invariant.0 d reads)
          ∙ ap (λ (x : ℕ). take i (drop c.args.at d) ++ x ∷ []) (c.byte_at.ensures d reads ∙ sym (get_or-drop c.args.at d i 0)) ∙ sym (take_more (drop c.args.at d) i 0 left),
      drop-set-lt (i + 1) into i b next ∙ sym (drop-drop 1 i into) ∙ ap (drop 1) c.loop-i.invariant.1 ∙ drop-drop 1 i c.args.into.now,
    )

pub returns-clause-bytes : goal.returns-clause-bytes
returns-clause-bytes c = λ d reads.
    let n = c.loop-i.i in
    let same : n ≡ c.min-count.result = omega (arith, c.loop-i-test.false, c.loop-i.auto.i-end) in
    sym (take-append-drop n c.loop-i.into) ∙ ap (λ (l : List ℕ). l ++ drop n c.loop-i.into) (c.loop-i.invariant.0 d reads) ∙ ap (λ (l : List ℕ). take n (drop c.args.at d) ++ l) c.loop-i.invariant.1
    ∙ ap (λ (k : ℕ). take k (drop c.args.at d) ++ drop k c.args.into.now) same
