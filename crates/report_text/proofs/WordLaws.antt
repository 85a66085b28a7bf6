-- A text of lines is split into its lines, and a line into its words, in one way.
use Rattle.std.proofs.Common.{◌≡◌, ◌≢◌, ℕ, ◌≤◌, ◌==◌, Bool, true, false, ◌&&◌, not, List, [], ◌∷◌, ◌++◌, length, refl, sym, ap, ◌∙◌, append_assoc, arith}
use Rattle.std.proofs.lemmas.List.{length-append}
use Rattle.std.specs.List.{list_all, flat_map, AllByRecursion, join_with_byte}
use Rattle.script_model.specs.Report.{line}

-- a byte that stands in a word: no space and no line feed
abbrev pub is_within : ℕ → Bool
is_within b = not (b == 32) && not (b == 10)

abbrev pub is_word : List ℕ → Bool
is_word w = list_all is_within w

abbrev pub is_line : List (List ℕ) → Bool
is_line [] = false
is_line (w ∷ ws) = list_all is_word (w ∷ ws)

both : (a b : Bool) → a && b ≡ true → (a ≡ true) × (b ≡ true)
both true b e = (refl, e)
both false b e = let no : ⊥ = cc in absurd no

-- the first word of a text ends at the first byte that stands in no word
word_split : (w v : List ℕ) (c d : ℕ) (s t : List ℕ) → is_word w ≡ true → is_word v ≡ true → is_within c ≡ false → is_within d ≡ false
    → w ++ (c ∷ s) ≡ v ++ (d ∷ t) → (w ≡ v) × (c ≡ d) × (s ≡ t)
word_split [] [] c d s t hw hv hc hd e = (refl, cc, cc)
word_split [] (y ∷ v) c d s t hw hv hc hd e =
    let here : is_within y ≡ true = (both (is_within y) (is_word v) hv).0 in
    let same : c ≡ y = cc in
    let no : ⊥ = cc (sym hc, ap is_within same, here) in
    absurd no
word_split (x ∷ w) [] c d s t hw hv hc hd e =
    let here : is_within x ≡ true = (both (is_within x) (is_word w) hw).0 in
    let same : x ≡ d = cc in
    let no : ⊥ = cc (sym hd, ap is_within same, here) in
    absurd no
word_split (x ∷ w) (y ∷ v) c d s t hw hv hc hd e =
    let rest : w ++ (c ∷ s) ≡ v ++ (d ∷ t) = cc in
    let first : x ≡ y = cc in
    let r = word_split w v c d s t (both (is_within x) (is_word w) hw).1 (both (is_within y) (is_word v) hv).1 hc hd rest in
    let words : (x ∷ w) ≡ (y ∷ v) = cc (first, r.0) in
    (words, r.1, r.2)

long_line : (w v : List ℕ) (ws : List (List ℕ)) (s : List ℕ) → line (w ∷ v ∷ ws) ++ s ≡ w ++ (32 ∷ (line (v ∷ ws) ++ s))
long_line w v ws s =
    ap (λ (t : List ℕ). t ++ s) (append_assoc {A = ℕ} w (32 ∷ join_with_byte 32 (v ∷ ws)) (10 ∷ []))
    ∙ append_assoc {A = ℕ} w (32 ∷ (join_with_byte 32 (v ∷ ws) ++ 10 ∷ [])) s

short_line : (w s : List ℕ) → line (w ∷ []) ++ s ≡ w ++ (10 ∷ s)
short_line w s = append_assoc {A = ℕ} w (10 ∷ []) s

-- a line is its words
pub lines_apart : (w : List ℕ) (ws : List (List ℕ)) (v : List ℕ) (vs : List (List ℕ)) (s t : List ℕ) → is_line (w ∷ ws) ≡ true → is_line (v ∷ vs) ≡ true
    → line (w ∷ ws) ++ s ≡ line (v ∷ vs) ++ t → ((w ∷ ws) ≡ (v ∷ vs)) × (s ≡ t)
lines_apart w [] v [] s t hw hv e =
    let r = word_split w v 10 10 s t (both (is_word w) true hw).0 (both (is_word v) true hv).0 refl refl (sym (short_line w s) ∙ e ∙ short_line v t) in
    let same : (w ∷ []) ≡ (v ∷ []) = cc (r.0) in
    (same, r.2)
lines_apart w [] v (v2 ∷ vs) s t hw hv e =
    let r = word_split w v 10 32 s (line (v2 ∷ vs) ++ t) (both (is_word w) true hw).0 (both (is_word v) (list_all is_word (v2 ∷ vs)) hv).0 refl refl (sym (short_line w s) ∙ e ∙ long_line v v2 vs t) in
    let no : ⊥ = omega (arith, r.1) in
    absurd no
lines_apart w (w2 ∷ ws) v [] s t hw hv e =
    let r = word_split w v 32 10 (line (w2 ∷ ws) ++ s) t (both (is_word w) (list_all is_word (w2 ∷ ws)) hw).0 (both (is_word v) true hv).0 refl refl (sym (long_line w w2 ws s) ∙ e ∙ short_line v t) in
    let no : ⊥ = omega (arith, r.1) in
    absurd no
lines_apart w (w2 ∷ ws) v (v2 ∷ vs) s t hw hv e =
    let hws = both (is_word w) (list_all is_word (w2 ∷ ws)) hw in
    let hvs = both (is_word v) (list_all is_word (v2 ∷ vs)) hv in
    let r = word_split w v 32 32 (line (w2 ∷ ws) ++ s) (line (v2 ∷ vs) ++ t) hws.0 hvs.0 refl refl (sym (long_line w w2 ws s) ∙ e ∙ long_line v v2 vs t) in
    let more = lines_apart w2 ws v2 vs s t hws.1 hvs.1 r.2 in
    let same : (w ∷ w2 ∷ ws) ≡ (v ∷ v2 ∷ vs) = cc (r.0, more.0) in
    (same, more.1)

abbrev pub AreLines : List (List (List ℕ)) → Type 0
AreLines ls = AllByRecursion (λ l. is_line l ≡ true) ls

not_empty : (l : List (List ℕ)) (s : List ℕ) → line l ++ s ≢ []
not_empty l s e =
    let n : length (line l ++ s) ≡ 0 = ap length e in
    let m : 1 ≤ length (line l ++ s) = simp (length-append) (omega arith) in
    omega arith

-- a text is its lines
pub lines_one : (xs ys : List (List (List ℕ))) → AreLines xs → AreLines ys → flat_map line xs ≡ flat_map line ys → xs ≡ ys
lines_one [] [] hx hy e = refl
lines_one [] (y ∷ ys) hx hy e = absurd (not_empty y (flat_map line ys) (sym e))
lines_one (x ∷ xs) [] hx hy e = absurd (not_empty x (flat_map line xs) e)
lines_one ([] ∷ xs) (y ∷ ys) hx hy e = let h = hx.0 in let no : ⊥ = cc (h) in absurd no
lines_one ((w ∷ ws) ∷ xs) ([] ∷ ys) hx hy e = let h = hy.0 in let no : ⊥ = cc (h) in absurd no
lines_one ((w ∷ ws) ∷ xs) ((v ∷ vs) ∷ ys) hx hy e =
    let r = lines_apart w ws v vs (flat_map line xs) (flat_map line ys) hx.0 hy.0 e in
    let more = lines_one xs ys hx.1 hy.1 r.1 in
    cc (r.0, more)
