use Rattle.std.proofs.Common.{◌≡◌, ℕ, ◌<◌, ◌^◌, get_or}
use Rattle.mem_segments.specs.Prefix.{word_of}
use Rattle.mem_segments.proofs.row.prefix_of.Given as goal

abbrev pub invariant-loop-place : goal.invariant-loop-place
invariant-loop-place l =
    record {
      word : l.word ≡ word_of l.place l.row;
      fits : l.word < 256 ^ l.place;
      bytes : (i : ℕ) → i < l.place → get_or l.row i 0 < 256;
    }
