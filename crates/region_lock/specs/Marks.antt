-- What a flush's look answers.
use Rattle.std.specs.Prelude.{◌≡◌, ◌≢◌, ℕ, ◌+◌, ◌≤◌, List, Some, None, Contains}
use Rattle.std.specs.declared.result.Result.{Result}
use Rattle.std.specs.declared.result.Result.TheVariants.{Ok, Err}
use Rattle.hand_register.specs.declared.known.Record.{Record}
use Rattle.hand_register.specs.Desks.{with_mark}
use Rattle.region_model.specs.Journal.{Caller}
use Rattle.region_model.specs.Lines.{Line}
use Rattle.region_state.specs.States.{write_point}
use Rattle.region_lock.specs.Parts.{Part, AreBelow}

-- No mark stood: the caller's is set, and n is the write point, which none of the handler's own edits is above. Or that mark stood, of
-- another handler's flush, and nothing changed.
abbrev pub IsLooked : List Caller → Caller → Part → Record Line → Result ℕ Caller → Part → Record Line → Type 0
IsLooked flushes by old mine (Ok n) new mine' =
    (n ≡ write_point old.state) × (old.mark ≡ None) × (new ≡ record old { mark = Some by }) × (mine' ≡ with_mark mine by.call) × AreBelow (n + 1) mine.list
IsLooked flushes by old mine (Err c) new mine' =
    (old.mark ≡ Some c) × (new ≡ old) × (mine' ≡ mine) × (c.handler ≢ by.handler) × Contains flushes c

-- The same of a pass that had seen a point: the number is at or above it.
abbrev pub IsLookedAt : ℕ → List Caller → Caller → Record Line → Result ℕ Caller → Record Line → Type 0
IsLookedAt seen flushes by mine (Ok n) mine' = (seen ≤ n) × (mine' ≡ with_mark mine by.call) × AreBelow (n + 1) mine.list
IsLookedAt seen flushes by mine (Err c) mine' = (mine' ≡ mine) × (c.handler ≢ by.handler) × Contains flushes c
