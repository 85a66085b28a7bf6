-- Which entries a log text has.
use Rattle.std.proofs.Common.{◌≡◌, ◌≢◌, inl, inr, ℕ, ◌<◌, List, [], ◌∷◌, ◌++◌, length, Option, Some, None, refl, sym, ◌∙◌, ap, arith, append_assoc}
use Rattle.std.proofs.lemmas.List.{append-nil}
use Rattle.std.specs.List.{flat_map}
use Rattle.log_model.specs.declared.name.Name.{Name}
use Rattle.log_model.specs.Entry.{Entry, IsEntry, entry_frame}
use Rattle.log_model.specs.LogText.{IsEntryOf, in_version, Ends, IsLogText, header, opened}
use Rattle.log_model.specs.Files.{key_of}
use Rattle.log_file.specs.LogText.{front, behind_gate, behind_end, at_rest, ended_text}
use Rattle.log_file.specs.Open.{AreEntriesOf}

-- whole entry frames, each after an open gate
abbrev frames : List Entry → List ℕ
frames es = flat_map (λ (e : Entry). opened (entry_frame e)) es

frames-append : (xs ys : List Entry) → frames (xs ++ ys) ≡ frames xs ++ frames ys
frames-append [] ys = refl
frames-append (x ∷ xs) ys = ap (λ (l : List ℕ). opened (entry_frame x) ++ l) (frames-append xs ys) ∙ sym (append_assoc (opened (entry_frame x)) (frames xs) (frames ys))

pub length-front-nil : (number : ℕ) → length (front number []) ≡ 16
unfolding front
length-front-nil number = refl

pub behind_none : behind_gate [] ≡ []
unfolding behind_gate
behind_none = refl

text_with : (name : Name) (es : List Entry) (rest : List ℕ) (ended : Option ℕ) → AreEntriesOf name es → Ends (length es) rest ended → IsLogText (key_of name) (front name.number es ++ rest) es ended
unfolding front
text_with name es rest ended each ends = inr (inr (rest, record { is = append_assoc (header 2 name.number) (frames es) rest; each = each }, ends))

-- after a closed gate anything may stand
pub text_closed : (name : Name) (es : List Entry) (gate : ℕ) (rest : List ℕ) → AreEntriesOf name es → gate ≢ 165 → IsLogText (key_of name) (front name.number es ++ gate ∷ rest) es None
text_closed name es gate rest each shut = text_with name es (gate ∷ rest) None each (inl shut)

abbrev shut_gate : ℕ
shut_gate = 0

zero_shut : shut_gate ≢ 165
zero_shut is = absurd (omega (arith, is))

pub entries_at_rest : (name : Name) (es : List Entry) → AreEntriesOf name es → IsLogText (key_of name) (at_rest name.number es) es None
entries_at_rest name es each = text_closed name es 0 [] each zero_shut

pub entries_ended : (name : Name) (es : List Entry) → AreEntriesOf name es → IsLogText (key_of name) (ended_text name.number es) es (Some (length es))
unfolding behind_end
entries_ended name es each = text_with name es (165 ∷ behind_end (length es)) (Some (length es)) each (refl, (0 ∷ [], refl, zero_shut))

-- an opened gate shows the batch that stands after it
pub opened_batch : (number : ℕ) (es batch : List Entry) → 0 < length batch → front number es ++ 165 ∷ behind_gate batch ≡ at_rest number (es ++ batch)
unfolding front behind_gate
opened_batch number es [] some = absurd (omega (arith, some))
opened_batch number es (b ∷ batch) some =
    sym (append_assoc (header 2 number ++ frames es) (frames (b ∷ batch)) (0 ∷ []))
    ∙ ap (λ (l : List ℕ). l ++ 0 ∷ []) (append_assoc (header 2 number) (frames es) (frames (b ∷ batch)) ∙ ap (λ (l : List ℕ). header 2 number ++ l) (sym (frames-append es (b ∷ batch))))

-- one more frame after a gate
pub one_staged : (batch : List Entry) (e : Entry) (frame old new : List ℕ) → frame ≡ entry_frame e → old ≡ behind_gate batch
    → (old ≡ [] → new ≡ frame ++ 0 ∷ []) → ((before : List ℕ) → old ≡ before ++ 0 ∷ [] → new ≡ before ++ 165 ∷ (frame ++ 0 ∷ [])) → new ≡ behind_gate (batch ++ e ∷ [])
unfolding behind_gate
one_staged [] e frame old new is was first next =
    first was ∙ ap (λ (l : List ℕ). l ++ 0 ∷ []) (is ∙ sym (append-nil (entry_frame e)))
one_staged (b ∷ bs) e frame old new is was first next =
    next (entry_frame b ++ frames bs) was
    ∙ ap (λ (l : List ℕ). entry_frame b ++ frames bs ++ 165 ∷ (l ++ 0 ∷ [])) (is ∙ sym (append-nil (entry_frame e)))
    ∙ sym (append_assoc (entry_frame b ++ frames bs) (frames (e ∷ [])) (0 ∷ []))
    ∙ ap (λ (l : List ℕ). l ++ 0 ∷ []) (append_assoc (entry_frame b) (frames bs) (frames (e ∷ [])) ∙ ap (λ (l : List ℕ). entry_frame b ++ l) (sym (frames-append bs (e ∷ []))))

pub each_append : (name : Name) (xs ys : List Entry) → AreEntriesOf name xs → AreEntriesOf name ys → AreEntriesOf name (xs ++ ys)
each_append name [] ys hx hy = hy
each_append name (x ∷ xs) ys hx hy = (hx.0, each_append name xs ys hx.1 hy)

-- any entry may stand in a log
pub log_entry : (name : Name) (e : Entry) → name.region ≡ 0 → IsEntry e → IsEntryOf (in_version 2 (key_of name)) e
log_entry name e is entry = record { entry = entry; region = λ other. absurd (other is); form = λ first. absurd (omega (arith, first)) }
