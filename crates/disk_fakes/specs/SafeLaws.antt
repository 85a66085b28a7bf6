-- What holds of a disk with fixed room.
use Rattle.std.proofs.Common.{◌≡◌, inl, inr, ℕ, List, [], ◌∷◌, length, Option, Some, None, is_some, refl, sym, ◌∙◌, ap, subst, arith}
use Rattle.std.proofs.Props.{props}
use Rattle.std.proofs.lemmas.List.{take_all}
use Rattle.std.specs.FinMap as map
use Rattle.std.specs.FinMap.{get-empty}
use Rattle.log_model.specs.declared.name.Name.{Name}
use Rattle.log_model.specs.Files.{Files, content, Same, IsName, name_cmp}
use Rattle.disk_images.specs.Crash.{IsImageNow, overwritten}
use Rattle.disk_images.specs.Calls.{IsTrueDisk}
use Rattle.disk_fakes.specs.declared.safe_call.SafeCall.{SafeCall}
use Rattle.disk_fakes.specs.declared.safe_call.SafeCall.TheVariants.{Create, Write, Rename, Remove}
use Rattle.disk_fakes.specs.History.{AreNamed}
use Rattle.disk_fakes.specs.Laws.{not_both, there_before, there_still}
use Rattle.disk_fakes.specs.Conditions.{reaches_prop}
use Rattle.disk_fakes.specs.Safe.{no_files, text_in, put_over, moved_to, applied, files_after, Met, AreMet, view_in}

met_prop : (arena : List ℕ) (files : Files) (call : SafeCall) → IsProp (Met arena files call)
met_prop arena files (Create name) = hlevel props
met_prop arena files (Write name at start len) = hlevel (props, reaches_prop at (content files name))
met_prop arena files (Rename from to) = hlevel props
met_prop arena files (Remove name) = hlevel props

pub are_met_prop : (arena : List ℕ) (files : Files) (calls : List SafeCall) → IsProp (AreMet arena files calls)
are_met_prop arena files [] = hlevel props
are_met_prop arena files (call ∷ calls) = hlevel (props, met_prop arena files call, are_met_prop arena (applied arena files call) calls)

named_over : (files : Files) (name : Name) (at : ℕ) (bytes : List ℕ) (o : Option (List ℕ)) → content files name ≡ o → AreNamed files → AreNamed (put_over files name at bytes o)
named_over files name at bytes None was named m there = named m there
named_over files name at bytes (Some c) was named m there = elim (there_before files name m (overwritten c at bytes) there) as (λ _. IsName m) [
  | inl same ↦ named m (ap is_some (ap (content files) same ∙ was))
  | inr old ↦ named m old
]

named_to : (files : Files) (from to : Name) (o : Option (List ℕ)) → IsName to → AreNamed files → AreNamed (moved_to files from to o)
named_to files from to None is_name named m there = named m there
named_to files from to (Some c) is_name named m there = elim (there_before (map.remove files from) to m c there) as (λ _. IsName m) [
  | inl same ↦ subst IsName (sym same) is_name
  | inr old ↦ named m (there_still files from m old)
]

named_by : (arena : List ℕ) (files : Files) (call : SafeCall) → Met arena files call → AreNamed files → AreNamed (applied arena files call)
named_by arena files (Create name) met named = λ m there. elim (there_before files name m [] there) as (λ _. IsName m) [ inl same ↦ subst IsName (sym same) met.1 | inr old ↦ named m old ]
named_by arena files (Write name at start len) met named = named_over files name at (text_in arena start len) (content files name) refl named
named_by arena files (Rename from to) met named = named_to files from to (content files from) met.2 named
named_by arena files (Remove name) met named = λ m there. named m (there_still files name m there)

named_after : (arena : List ℕ) (files : Files) (calls : List SafeCall) → AreMet arena files calls → AreNamed files → AreNamed (files_after arena files calls)
named_after arena files [] met named = named
named_after arena files (call ∷ calls) met named = named_after arena (applied arena files call) calls met.1 (named_by arena files call met.0 named)

none_named : AreNamed no_files
none_named m there = not_both (content no_files m) there (get-empty name_cmp m)

module _ (arena : List ℕ) (calls : List SafeCall) where
  -- the one image now is what reads give
  pub now_same : (J : Files) → IsImageNow (view_in arena calls) J → Same (files_after arena no_files calls) J
  now_same J now = subst (λ (l : List SafeCall). Same (files_after arena no_files l) J) (take_all (length calls) calls (omega arith)) now.1

  pub same_now : (J : Files) → Same (files_after arena no_files calls) J → IsImageNow (view_in arena calls) J
  same_now J same = (omega arith, subst (λ (l : List SafeCall). Same (files_after arena no_files l) J) (sym (take_all (length calls) calls (omega arith))) same)

  pub safe_is_true : AreMet arena no_files calls → IsTrueDisk (view_in arena calls)
  safe_is_true met = record {
    absent = λ m absent not_gone J now. now_same J now m ∙ absent;
    gone_absent = λ m gone. absurd gone;
    former_there = λ n m former. absurd former;
    former_gone = λ n m former. absurd former;
    named = named_after arena no_files calls met none_named;
    reads = same_now (files_after arena no_files calls) (λ m. refl);
  }
