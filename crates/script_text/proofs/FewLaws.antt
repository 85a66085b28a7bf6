-- A text says at most as many calls as it has bytes.
use Rattle.std.proofs.Common.{◌≡◌, ℕ, ◌+◌, ◌≤◌, Bool, true, false, if◌then◌else◌, ◌==◌, nat_lt, Option, Some, None, is_none, unwrap_or, List, [], ◌∷◌, ◌++◌, length, arith, codes}
use Rattle.std.proofs.lemmas.List.{length-append}
use Rattle.cell_model.specs.Cell.{Cell}
use Rattle.region_model.specs.Calls.{Call}
use Rattle.script_model.specs.Text.{lines_of, add_byte, words_of, is_skipped}
use Rattle.script_model.specs.Tables.{Spoken, Calls, Opens, begins_with, cell_in, spoken_of, table_in, second_number}
use Rattle.script_model.specs.Script.{Said, after_cell, after_spoken, say, after_line, said_by, nothing_said}

either : (b : Bool) (n : ℕ) (x y : Said) → length x.calls ≤ n → length y.calls ≤ n → length (if b then x else y).calls ≤ n
either true n x y first second = first
either false n x y first second = second

one_more : (said : Said) (c : ℕ × Call) → length (said.calls ++ c ∷ []) ≤ length said.calls + 1
one_more said c = omega (arith, length-append said.calls (c ∷ []))

cell_says : (said : Said) (cell : Option Cell) → length (after_cell said cell).calls ≤ length said.calls + 1
cell_says said None = omega arith
cell_says said (Some cell) = either (said.due == 1) (length said.calls + 1) _ _ (one_more said _) (omega arith)

call_says : (said : Said) (spoken : Option Spoken) → length (after_spoken said spoken).calls ≤ length said.calls + 1
call_says said None = omega arith
call_says said (Some (Calls h call)) = one_more said (h, call)
call_says said (Some (Opens h r sync count)) = omega arith

-- a line after the head lines
unnamed : (said : Said) (words : List (List ℕ)) → Said
unnamed said words = if begins_with (codes "table") words then record said { table = table_in words } else after_spoken said (spoken_of words)

unnamed_says : (said : Said) (words : List (List ℕ)) → length (unnamed said words).calls ≤ length said.calls + 1
unfolding unnamed
unnamed_says said words =
    either (begins_with (codes "table") words) (length said.calls + 1) (record said { table = table_in words }) (after_spoken said (spoken_of words)) (omega arith) (call_says said (spoken_of words))

behind_head : (said : Said) (words : List (List ℕ)) → Said
behind_head said words = if nat_lt 0 said.due then after_cell said (cell_in (unwrap_or said.time 0) words) else unnamed said words

behind_says : (said : Said) (words : List (List ℕ)) → length (behind_head said words).calls ≤ length said.calls + 1
unfolding behind_head
behind_says said words =
    either (nat_lt 0 said.due) (length said.calls + 1) (after_cell said (cell_in (unwrap_or said.time 0) words)) (unnamed said words) (cell_says said (cell_in (unwrap_or said.time 0) words)) (unnamed_says said words)

words_say : (said : Said) (words : List (List ℕ)) → length (say said words).calls ≤ length said.calls + 1
unfolding behind_head unnamed
words_say said words =
    let n : ℕ = length said.calls + 1 in
    let third : Said = if is_none said.handlers then record said { handlers = Some (second_number words) } else behind_head said words in
    let second : Said = if is_none said.regions then record said { regions = Some (second_number words) } else third in
    either (is_none said.time) n (record said { time = Some (second_number words) }) second (omega arith)
    (either (is_none said.regions) n (record said { regions = Some (second_number words) }) third (omega arith)
    (either (is_none said.handlers) n (record said { handlers = Some (second_number words) }) (behind_head said words) (omega arith) (behind_says said words)))

line_says : (said : Said) (line : List ℕ) → length (after_line said line).calls ≤ length said.calls + 1
line_says said line = either (is_skipped line) (length said.calls + 1) said (say said (words_of line)) (omega arith) (words_say said (words_of line))

lines_say : (said : Said) (lines : List (List ℕ)) → length (said_by said lines).calls ≤ length said.calls + length lines
lines_say said [] = omega arith
lines_say said (line ∷ lines) = omega (arith, lines_say (after_line said line) lines, line_says said line)

length-add_byte : (b : ℕ) (lines : List (List ℕ)) → length (add_byte b lines) ≤ length lines + 1
length-add_byte b [] = omega arith
length-add_byte b (line ∷ lines) = omega arith

length-lines_of : (bytes : List ℕ) → length (lines_of bytes) ≤ length bytes
length-lines_of [] = omega arith
length-lines_of (b ∷ bytes) = by (b == 10) (length-lines_of bytes)
  where
    by : (t : Bool) → length (lines_of bytes) ≤ length bytes → length (if t then [] ∷ lines_of bytes else add_byte b (lines_of bytes)) ≤ length (b ∷ bytes)
    by true rest = omega (arith, rest)
    by false rest = omega (arith, rest, length-add_byte b (lines_of bytes))

pub few_calls : (bytes : List ℕ) (said : Said) → said ≡ said_by nothing_said (lines_of bytes) → length bytes ≤ 16777216 → length said.calls ≤ 16777216
few_calls bytes said e short = rw e (omega (arith, lines_say nothing_said (lines_of bytes), length-lines_of bytes, short))
