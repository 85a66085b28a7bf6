-- Steps of making a script.
use Rattle.std.proofs.Common.{◌≡◌, ◌≢◌, ℕ, suc, ◌+◌, ◌-◌, ◌/◌, ◌%◌, ◌^◌, ◌<◌, List, [], ◌∷◌, ◌++◌, map, Option, None, refl, sym, ap, ◌∙◌, subst, arith, append_assoc}
use Rattle.std.proofs.lemmas.List.{map-append, append-nil, length-replicate}
use Rattle.std.proofs.lemmas.Bool.{le-ltb}
use Rattle.byteorder.specs.Numbers.{length-bytes_high_first}
use Rattle.cell_model.specs.Cell.{Cell}
use Rattle.cell_model.specs.Batch.{batch_of, body_length, first_batch_limit}
use Rattle.kv_cell.specs.Refusal.{IsBatchRefusal}
use Rattle.kv_cell.specs.declared.error.BatchError.{BatchError}
use Rattle.kv_cell.specs.declared.error.BatchError.TheVariants as errors
use Rattle.region_model.specs.Calls.{Call}
use Rattle.script_calls.specs.Calls.{call_of}
use Rattle.script_calls.specs.declared.call.Call.{Call as TheirCall}
use Rattle.made_script.specs.declared.options.LoadOptions.{LoadOptions}
use Rattle.made_script.specs.Made.{next_x, made_call, made_calls, made_cell, made_handlers, calls_of}

-- one of a list is behind the others, and fewer are left
moved : {A : Type 0} (xs rest all : List A) (x : A) → xs ++ x ∷ rest ≡ all → (xs ++ x ∷ []) ++ rest ≡ all
moved xs rest all x is = append_assoc xs (x ∷ []) rest ∙ is

pub one_call_more : (items after : List TheirCall) (next : TheirCall) (all : List Call) (r h count before x y : ℕ) → before < count → after ≡ items ++ next ∷ [] → y ≡ next_x x → call_of next ≡ made_call r h (before + 1) y
    → map call_of items ++ made_calls r h (count - before) (before + 1) x ≡ all
    → map call_of after ++ made_calls r h (count - (before + 1)) (before + 1 + 1) y ≡ all
one_call_more items after next all r h count before x y low pushed step is so_far =
    let left : count - before ≡ suc (count - (before + 1)) = omega (arith, low) in
    let rest : List Call = made_calls r h (count - (before + 1)) (before + 1 + 1) y in
    let there : map call_of items ++ made_call r h (before + 1) (next_x x) ∷ made_calls r h (count - (before + 1)) (before + 1 + 1) (next_x x) ≡ all =
    subst (λ n. map call_of items ++ made_calls r h n (before + 1) x ≡ all) left so_far in
    let there_too : map call_of items ++ call_of next ∷ rest ≡ all =
    subst (λ (d : Call). map call_of items ++ d ∷ rest ≡ all) (sym is) (subst (λ z. map call_of items ++ made_call r h (before + 1) z ∷ made_calls r h (count - (before + 1)) (before + 1 + 1) z ≡ all) (sym step) there) in
    ap (λ (l : List TheirCall). map call_of l ++ rest) pushed ∙ ap (λ l. l ++ rest) (map-append call_of items (next ∷ [])) ∙ moved (map call_of items) rest all (call_of next) there_too

pub one_handler_more : (lists after : List (List Call)) (next : List Call) (all : List (List Call)) (o : LoadOptions) (count before : ℕ) → before < count → after ≡ lists ++ next ∷ [] → next ≡ calls_of o (before + 1)
    → lists ++ made_handlers o (count - before) (before + 1) ≡ all
    → after ++ made_handlers o (count - (before + 1)) (before + 1 + 1) ≡ all
one_handler_more lists after next all o count before low pushed is so_far =
    let left : count - before ≡ suc (count - (before + 1)) = omega (arith, low) in
    let there : lists ++ calls_of o (before + 1) ∷ made_handlers o (count - (before + 1)) (before + 1 + 1) ≡ all =
    subst (λ n. lists ++ made_handlers o n (before + 1) ≡ all) left so_far in
    ap (λ l. l ++ made_handlers o (count - (before + 1)) (before + 1 + 1)) pushed ∙ moved lists (made_handlers o (count - (before + 1)) (before + 1 + 1)) all next (subst (λ (d : List Call). lists ++ d ∷ made_handlers o (count - (before + 1)) (before + 1 + 1) ≡ all) (sym is) there)

-- where none is left, all are there
pub all_handlers : (lists all : List (List Call)) (o : LoadOptions) (n h : ℕ) → n ≡ 0 → lists ++ made_handlers o n h ≡ all → lists ≡ all
all_handlers lists all o n h none is = sym (append-nil lists) ∙ subst (λ k. lists ++ made_handlers o k h ≡ all) none is

-- a batch of it alone breaks no limit
one_cell_fits : (call x : ℕ) → x < 2 ^ 64 → first_batch_limit (batch_of (made_cell call x ∷ [])) ≡ None
unfolding first_batch_limit
one_cell_fits call x small = rw (le-ltb 1048576 (body_length (batch_of (made_cell call x ∷ []))) (omega (arith, length-bytes_high_first 8 x, length-replicate (1 + x / 2 ^ 60) (x % 256), small))) refl

no_cause : (e : BatchError) (first : Option ℕ) → first ≡ None → e ≢ errors.Memory → IsBatchRefusal e first → ⊥
no_cause errors.Count first none memory is = cc (none, is)
no_cause errors.EntryLength first none memory is = cc (none, is)
no_cause errors.TableLength first none memory is = cc (none, is)
no_cause errors.Memory first none memory is = memory refl

pub not_refused : (cells pushed : List Cell) (c : Cell) (call x : ℕ) (e : BatchError) → x < 2 ^ 64 → cells ≡ [] → pushed ≡ cells ++ c ∷ [] → c ≡ made_cell call x
    → e ≢ errors.Memory → IsBatchRefusal e (first_batch_limit (batch_of pushed)) → ⊥
not_refused cells pushed c call x e small none push is memory refused =
    let same : pushed ≡ made_cell call x ∷ [] = push ∙ ap (λ l. l ++ c ∷ []) none ∙ ap (λ (d : Cell). d ∷ []) is in
    no_cause e (first_batch_limit (batch_of pushed)) (ap (λ (l : List Cell). first_batch_limit (batch_of l)) same ∙ one_cell_fits call x small) memory refused
