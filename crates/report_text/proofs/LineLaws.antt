-- How the lines are put together from their parts.
use Rattle.std.proofs.Common.{◌≡◌, ℕ, ◌≤◌, Bool, List, [], ◌∷◌, ◌++◌, length, take, codes, refl, sym, ap, ◌∙◌, append_assoc, append-nil, arith}
use Rattle.std.specs.List.{flat_map, join_with_byte}
use Rattle.std.specs.Fmt.{decimal, digits}
use Rattle.std.proofs.lemmas.List.{length-append, take-take}
use Rattle.std.proofs.Math.Seq.{take-append_seam}
use Rattle.cell_model.specs.Cell.{Cell}
use Rattle.cell_model.specs.Order.{NumberedCell}
use Rattle.region_model.specs.Calls.{Answer, PutOk, PutMemory, PutFault, PutSpent, Scanned, ScanMemory, FlushOk, FlushNothing, FlushBusy, FlushFault, FlushMemory, RollOk, RollNothing, RollFault, RollMemory}
use Rattle.script_model.specs.Report.{Report, ReplyLine, report_text, region_text, reply_text, replies_text, cell_line, cells_told, answer_words, kind_name, tags_word}
use Rattle.script_model.specs.Text.{printed}
use Rattle.report_text.specs.Texts.{columns_text, stamp_text, tags_text, answer_text, reply_head}

-- what begins with something longer begins with its beginning
pub kept_past : (n m : ℕ) (old more mid new : List ℕ) → n ≡ length old → m ≡ length mid → mid ≡ old ++ more → take m new ≡ mid → take n new ≡ old
kept_past n m old more mid new a b is h =
    let less : n ≤ m = omega (arith, ap length is, length-append old more) in
    let first : take n (take m new) ≡ take n new = take-take n m new less in
    sym first ∙ ap (take n) (h ∙ is) ∙ rw a (take-append_seam old more)

regroup_cell : (n r f q t k v g : List ℕ) → (n ++ (32 ∷ (r ++ (32 ∷ (f ++ (32 ∷ (q ++ (32 ∷ (t ++ (32 ∷ (k ++ (32 ∷ (v ++ g))))))))))))) ++ (10 ∷ []) ≡ n ++ ((32 ∷ (r ++ (32 ∷ (f ++ (32 ∷ q))))) ++ ((32 ∷ (t ++ (32 ∷ (k ++ (32 ∷ v))))) ++ (g ++ (10 ∷ []))))
regroup_cell n r f q t k v g = simp append_assoc

-- the last words of a cell's line
tags_joined : (v tags : List ℕ) → join_with_byte 32 (v ∷ tags_word tags) ≡ v ++ tags_text tags
tags_joined v [] = sym (append-nil v)
tags_joined v (b ∷ bs) = refl

regroup_reply : (h c a cells : List ℕ) → ((h ++ (32 ∷ (c ++ (32 ∷ a)))) ++ (10 ∷ [])) ++ cells ≡ (h ++ (32 ∷ (c ++ (32 ∷ (a ++ (10 ∷ [])))))) ++ cells
regroup_reply h c a cells = simp append_assoc

cell_parts : (number : ℕ) (x : NumberedCell) → x.0 ≡ number → cell_line x ≡ codes "cell " ++ (decimal number ++ (columns_text x.1.row x.1.family x.1.qualifier ++ (stamp_text x.1.ts x.1.kind x.1.value ++ (tags_text x.1.tags ++ codes "\n"))))
unfolding cell_line columns_text stamp_text
cell_parts number x e =
    rw (e, tags_joined (printed x.1.value) x.1.tags)
    (ap (λ (t : List ℕ). codes "cell " ++ t) (regroup_cell (decimal number) (printed x.1.row) (printed x.1.family) (printed x.1.qualifier) (decimal x.1.ts) (kind_name x.1.kind) (printed x.1.value) (tags_text x.1.tags)))

answer_joined : (w : List ℕ) (got : Bool) (answer : Answer) → join_with_byte 32 (w ∷ answer_words got answer) ≡ w ++ (32 ∷ answer_text got answer)
unfolding answer_text
answer_joined w got (PutOk n) = refl
answer_joined w got (PutMemory n) = refl
answer_joined w got (PutFault n) = refl
answer_joined w got (PutSpent n) = refl
answer_joined w got (Scanned p cells) = refl
answer_joined w got ScanMemory = refl
answer_joined w got (FlushOk n) = refl
answer_joined w got (FlushNothing n) = refl
answer_joined w got (FlushBusy h c) = refl
answer_joined w got FlushFault = refl
answer_joined w got FlushMemory = refl
answer_joined w got (RollOk f n) = refl
answer_joined w got (RollNothing f) = refl
answer_joined w got RollFault = refl
answer_joined w got RollMemory = refl

reply_parts : (r : ReplyLine) → reply_text r ≡ reply_head r.handler r.call r.got r.answer ++ flat_map cell_line (cells_told r.answer)
unfolding reply_text reply_head
reply_parts r = rw (answer_joined (decimal r.call) r.got r.answer) (ap (λ (t : List ℕ). codes "reply " ++ t) (regroup_reply (decimal r.handler) (decimal r.call) (answer_text r.got r.answer) (flat_map cell_line (cells_told r.answer))))

pub cells_left_out : (handler call : ℕ) (got : Bool) (answer : Answer) → cells_told answer ≡ []
    → reply_text (record { handler = handler; call = call; answer = answer; got = got }) ≡ reply_head handler call got answer
cells_left_out handler call got answer none =
    reply_parts (record { handler = handler; call = call; answer = answer; got = got }) ∙ ap (λ (cells : List NumberedCell). reply_head handler call got answer ++ flat_map cell_line cells) none ∙ append-nil _

pub report_parts : (r : Report) → report_text r ≡ codes "hwal 1\n" ++ (flat_map region_text r.regions ++ replies_text r.replies r.status)
unfolding report_text digits
report_parts r = refl

joined_cell : (o w n a b g z : List ℕ) → ((((o ++ (w ++ n)) ++ a) ++ b) ++ g) ++ z ≡ o ++ (w ++ (n ++ (a ++ (b ++ (g ++ z)))))
joined_cell o w n a b g z = simp append_assoc

-- a cell's line, appended part by part
pub cell_appended : (n : ℕ) (x : Cell) (o o1 o2 o3 o4 o5 : List ℕ) → o1 ≡ o ++ (codes "cell " ++ decimal n) → o2 ≡ o1 ++ columns_text x.row x.family x.qualifier
    → o3 ≡ o2 ++ stamp_text x.ts x.kind x.value → o4 ≡ o3 ++ tags_text x.tags → o5 ≡ o4 ++ codes "\n" → o5 ≡ o ++ cell_line (n, x)
cell_appended n x o o1 o2 o3 o4 o5 e1 e2 e3 e4 e5 =
    let stamped = e3 ∙ ap (λ (t : List ℕ). t ++ stamp_text x.ts x.kind x.value) (e2 ∙ ap (λ (t : List ℕ). t ++ columns_text x.row x.family x.qualifier) e1) in
    e5 ∙ ap (λ (t : List ℕ). t ++ codes "\n") (e4 ∙ ap (λ (t : List ℕ). t ++ tags_text x.tags) stamped)
    ∙ joined_cell o (codes "cell ") (decimal n) (columns_text x.row x.family x.qualifier) (stamp_text x.ts x.kind x.value) (tags_text x.tags) (codes "\n")
    ∙ ap (λ (t : List ℕ). o ++ t) (sym (cell_parts n (n, x) refl))

joined_head : (x h c a : List ℕ) → (((x ++ (h ++ (32 ∷ c))) ++ (32 ∷ [])) ++ a) ++ (10 ∷ []) ≡ x ++ (h ++ (32 ∷ (c ++ (32 ∷ (a ++ 10 ∷ [])))))
joined_head x h c a = simp append_assoc

-- a reply's line, part by part
pub head_appended : (handler call : ℕ) (got : Bool) (answer : Answer) (o o1 o2 o3 o4 : List ℕ) → o ≡ [] → o1 ≡ o ++ (codes "reply " ++ (decimal handler ++ (32 ∷ decimal call))) → o2 ≡ o1 ++ codes " "
    → o3 ≡ o2 ++ answer_text got answer → o4 ≡ o3 ++ codes "\n" → o4 ≡ reply_head handler call got answer
unfolding reply_head
head_appended handler call got answer o o1 o2 o3 o4 e e1 e2 e3 e4 =
    e4 ∙ ap (λ (t : List ℕ). t ++ codes "\n") (e3 ∙ ap (λ (t : List ℕ). t ++ answer_text got answer) (e2 ∙ ap (λ (t : List ℕ). t ++ codes " ") (e1 ∙ ap (λ (t : List ℕ). t ++ (codes "reply " ++ (decimal handler ++ (32 ∷ decimal call)))) e)))
    ∙ joined_head (codes "reply ") (decimal handler) (decimal call) (answer_text got answer)

-- a reply's line and those of its cells, appended
pub reply_appended : (r : ReplyLine) (o o1 o2 : List ℕ) → o1 ≡ o ++ reply_head r.handler r.call r.got r.answer → o2 ≡ o1 ++ flat_map cell_line (cells_told r.answer) → o2 ≡ o ++ reply_text r
reply_appended r o o1 o2 e1 e2 =
    e2 ∙ ap (λ (t : List ℕ). t ++ flat_map cell_line (cells_told r.answer)) e1
    ∙ append_assoc o (reply_head r.handler r.call r.got r.answer) (flat_map cell_line (cells_told r.answer))
    ∙ ap (λ (t : List ℕ). o ++ t) (sym (reply_parts r))
