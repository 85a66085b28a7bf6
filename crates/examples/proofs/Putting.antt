-- What a clerk's pass knows of its person, once it was put and later.
use Rattle.std.proofs.Common.{◌≡◌, ℕ, true, List, [], ◌∷◌, Contains, Option, Some, None, Result, Ok, Err, refl, sym, ap, subst, arith}
use Rattle.std.specs.Result.{result_ok}
use Rattle.std.proofs.lemmas.List.Elements.{Contains-append_right}
use Rattle.cell_model.specs.Batch.{Batch}
use Rattle.region_model.specs.Journal.{Edit, Caller, Done}
use Rattle.server_model.specs.Pass.{Naming, Pass, IsLater}
use Rattle.server_model.specs.Steps.{Puts, IsQuietPass, edit_of}
use Rattle.embedded_run.specs.region_calls.Answers.{put_answer}
use Rattle.embedded_run.specs.region_lock.declared.answers.PutRefusal.{PutRefusal}
use Rattle.examples.specs.Persons.{person, KnowsPerson}

abbrev number_in : Option ℕ → ℕ
number_in None = 0
number_in (Some n) = n

-- a put with `Sync` that is answered with its sequence id
pub put_known : (name : Naming) (time : ℕ) (batch : Batch) (caller : Caller) (row text : List ℕ) (x : Result ℕ PutRefusal) (old new : Pass) → batch.cells ≡ person row text ∷ []
    → Puts name time 1 true batch caller (put_answer x) old new → (n : ℕ) → result_ok x ≡ Some n → KnowsPerson row text n new
put_known name time batch caller row text (Ok m) old new cells puts n is =
    let edit : Edit = edit_of 1 m time batch caller Done in
    record {
      edit = edit;
      own = subst (λ l. Contains l edit) (sym puts.own) (Contains-append_right (old.known 1).own (edit ∷ []) edit (0, omega arith, refl));
      cells = cells;
      number_is = ap number_in is;
      synced = omega (arith, puts.synced m refl refl refl, ap number_in is);
    }
put_known name time batch caller row text (Err e) old new cells puts n is = absurd cc

-- a later call that makes no edit
pub known_later : (row text : List ℕ) (n : ℕ) (old new : Pass) → KnowsPerson row text n old → IsLater old new → IsQuietPass old new → KnowsPerson row text n new
known_later row text n old new k later quiet = record {
  edit = k.edit;
  own = subst (λ l. Contains l k.edit) (sym (quiet 1).own) k.own;
  cells = k.cells;
  number_is = k.number_is;
  synced = omega (arith, k.synced, (later.known 1).synced);
}
