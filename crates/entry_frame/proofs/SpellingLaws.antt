-- The bytes of an entry, and what stays where its number is changed.
use Rattle.std.proofs.Common.{subst, ◌≡◌, ℕ, ◌<◌, ◌≤◌, ◌-◌, ◌^◌, List, [], ◌∷◌, ◌++◌, length, take, drop, refl, sym, ap, ◌∙◌, arith, length-append}
use Rattle.std.proofs.lemmas.List.{take_at, drop_at, append_assoc, length-take, length-drop}
use Rattle.std.proofs.lemmas.Slice.{between_to_end}
use Rattle.std.specs.Coded.{le_prop}
use Rattle.std.proofs.Math.Logic.{∥∥₁_map, ∥∥₁_elim}
use Rattle.byteorder.specs.Endian.{big_bytes}
use Rattle.log_model.specs.Entry.{Entry, IsEntry, kind_of, entry_form, batch_text, body_as, body, entry_frame}
use Rattle.log_model.specs.LogText.{opened}
use Rattle.log_model.specs.Frame.{IsEntryAt}
use Rattle.log_model.proofs.FrameLaws.{length-body, same_entry}
use Rattle.cell_model.proofs.CellLaws.{after}
use Rattle.cell_model.proofs.BatchLaws.{head_bounds}
use Rattle.entry_frame.specs.Spelling.{IsSpelling, renumbered}

pub one_entry : (d e : Entry) → IsEntry d → IsEntry e → entry_frame d ≡ entry_frame e → d ≡ e
one_entry d e hd he same =
    let whole : List ℕ = opened (entry_frame d) ++ 0 ∷ [] in
    let at_d : IsEntryAt whole d (0 ∷ []) = record { entry = hd; more = omega arith; is = refl } in
    let at_e : IsEntryAt whole e (0 ∷ []) = record { entry = he; more = omega arith; is = ap (λ (x : List ℕ). opened x ++ 0 ∷ []) same } in
    (same_entry whole (0 ∷ []) (0 ∷ []) d e at_d at_e).0

pub record Bounds (bytes : List ℕ) : Type 0 where
  pub least : 29 ≤ length bytes
  pub most : length bytes ≤ 1048581

frame_bounds : (e : Entry) → IsEntry e → Bounds (entry_frame e)
frame_bounds e is = record { least = omega (arith, length-body e, (head_bounds (entry_form e) e.batch is.batch.table).0); most = omega (arith, length-body e, is.batch.body) }

pub spelling_bounds : (bytes : List ℕ) → IsSpelling bytes → Bounds bytes
spelling_bounds bytes h = record {
  least = ∥∥₁_elim h le_prop (λ x. subst (λ (b : List ℕ). 29 ≤ length b) (sym x.2) (frame_bounds x.0 x.1).least);
  most = ∥∥₁_elim h le_prop (λ x. subst (λ (b : List ℕ). length b ≤ 1048581) (sym x.2) (frame_bounds x.0 x.1).most);
}

-- the head of a body, and what stands after the number
head_of : Entry → List ℕ
head_of e = kind_of (entry_form e) ∷ (big_bytes 4 (length (body e)) ++ big_bytes 4 e.region)

behind_number : Entry → List ℕ
behind_number e = big_bytes 8 e.time ++ batch_text (entry_form e) e.batch

parts_of_frame : (e : Entry) → entry_frame e ≡ head_of e ++ (big_bytes 8 e.number ++ behind_number e)
unfolding body_as head_of behind_number
parts_of_frame e = simp append_assoc

pub renumbered_frame : (e : Entry) (bytes : List ℕ) (n : ℕ) → bytes ≡ entry_frame e → renumbered bytes n ≡ entry_frame (record e { number = n })
unfolding head_of behind_number
renumbered_frame e bytes n is =
    let d : Entry = record e { number = n } in
    let whole : bytes ≡ head_of e ++ (big_bytes 8 e.number ++ behind_number e) = is ∙ parts_of_frame e in
    let front : take 9 bytes ≡ head_of e = ap (take 9) whole ∙ take_at (head_of e) (big_bytes 8 e.number ++ behind_number e) 9 (omega arith) in
    let back : drop 17 bytes ≡ behind_number e =
    after 9 8 17 bytes (big_bytes 8 e.number) (behind_number e) (ap (drop 9) whole ∙ drop_at (head_of e) (big_bytes 8 e.number ++ behind_number e) 9 (omega arith)) (omega arith) refl in
    let len : length (body e) ≡ length (body d) = length-body e ∙ sym (length-body d) in
    (λ i. front i ++ (big_bytes 8 n ++ back i)) ∙ ap (λ (k : ℕ). (kind_of (entry_form e) ∷ (big_bytes 4 k ++ big_bytes 4 e.region)) ++ (big_bytes 8 n ++ behind_number e)) len ∙ sym (parts_of_frame d)

-- what stands after kind and length of a frame is the body
pub body_behind : (bytes : List ℕ) (e : Entry) → bytes ≡ entry_frame e → take (length bytes - 5) (drop 5 bytes) ≡ body e
body_behind bytes e is =
    between_to_end bytes 5 (length bytes) (omega arith) ∙ (ap (drop 5) is ∙ drop_at (kind_of (entry_form e) ∷ big_bytes 4 (length (body e))) (body e) 5 (omega arith))

pub renumbered_spelling : (bytes : List ℕ) (n : ℕ) → 1 ≤ n → n < 2 ^ 48 → IsSpelling bytes → IsSpelling (renumbered bytes n)
renumbered_spelling bytes n given within h = ∥∥₁_map h (λ x. (
  record x.0 { number = n },
  record { region_given = x.1.region_given; region = x.1.region; number_given = given; number = within; time = x.1.time; batch = x.1.batch },
  renumbered_frame x.0 bytes n x.2,
))

pub spelled : (e : Entry) (bytes : List ℕ) → IsEntry e → bytes ≡ entry_frame e → IsSpelling bytes
spelled e bytes is same = ∣ (e, is, same) ∣₁

-- what a vector holds after its slice was written
pub written : (items new : List ℕ) (n len : ℕ) → new ≡ renumbered items n → 17 ≤ length items → length items ≡ len → take len (new ++ drop (length new) items) ≡ renumbered items n
written items new n len is le same =
    let size : length new ≡ len = ap length is ∙ omega (arith, length-append (take 9 items) (big_bytes 8 n ++ drop 17 items), length-take 9 items, length-drop 17 items) in
    take_at new (drop (length new) items) len size ∙ is
