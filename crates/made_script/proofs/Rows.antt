-- The numbers of a load from 0, its first two calls, and the kinds of a handler's calls.
use Rattle.std.proofs.Common.{◌≡◌, true, [], ◌∷◌, None, refl}
use Rattle.cell_model.specs.Batch.{batch_of}
use Rattle.region_model.specs.Calls.{Put, Scan, Raw, Flush, Roll}
use Rattle.made_script.specs.declared.options.LoadOptions.{LoadOptions}
use Rattle.made_script.specs.Made.{next_x, first_x, made_call, made_script}
use Rattle.made_script.specs.Counts.{counts_of}

pub first : next_x 0 ≡ 1442695040888963407
unfolding next_x
first = refl

pub second : next_x 1442695040888963407 ≡ 1876011003808476466
unfolding next_x
second = refl

-- handler 2 starts one above handler 1, and after the greatest number comes 0
second_handler : first_x 18446744073709551615 2 ≡ 0
second_handler = refl

abbrev two_calls : LoadOptions
two_calls = record { start = 0; handlers = 1; regions = 1; count = 2 }

two_puts : made_script two_calls ≡ record {
  time = 0;
  regions = 1;
  handlers = (Put 1 true (batch_of (record { row = 20 ∷ 5 ∷ 123 ∷ 126 ∷ 247 ∷ 103 ∷ 129 ∷ 79 ∷ []; family = 102 ∷ []; qualifier = 113 ∷ []; ts = 1; kind = 4; value = 79 ∷ 79 ∷ []; tags = [] } ∷ []))
      ∷ Put 1 true (batch_of (record { row = 26 ∷ 8 ∷ 238 ∷ 17 ∷ 132 ∷ 186 ∷ 109 ∷ 50 ∷ []; family = 102 ∷ []; qualifier = 113 ∷ []; ts = 2; kind = 4; value = 50 ∷ 50 ∷ []; tags = [] } ∷ []))
      ∷ [])
      ∷ [];
}
unfolding next_x made_call
two_puts = refl

two_counted : counts_of (made_script two_calls) ≡ record { puts = 2; scans = 0; flushes = 0; rolls = 0; value_bytes = 4 }
unfolding next_x made_call
two_counted = refl

-- every eighth call is a scan, up to the next byte or to the end
eighth_scans : made_call 1 1 8 1442695040888963407 ≡ Scan Raw 1 (20 ∷ []) (21 ∷ [])
unfolding made_call
eighth_scans = refl

last_byte_scans : made_call 1 1 8 18446744073709551615 ≡ Scan Raw 1 (255 ∷ []) []
unfolding made_call
last_byte_scans = refl

-- of each 64 calls the 31st flushes, and of each 256 the 129th of handler 1 rolls
thirty_first_flushes : made_call 3 2 95 18446744073709551615 ≡ Flush 2 None
unfolding made_call
thirty_first_flushes = refl

handler_1_rolls : made_call 1 1 129 0 ≡ Roll
unfolding made_call
handler_1_rolls = refl
