-- Where a chain of frames can't go on the bytes are damaged, and where it ends they are a text.
use Rattle.std.proofs.Common.{◌≡◌, ℕ, ◌+◌, ◌<◌, ◌≤◌, inl, inr, List, [], ◌∷◌, ◌++◌, length, take, drop, get_or, Option, Some, None, refl, sym, ap, subst, ◌∙◌, arith, length-append}
use Rattle.std.specs.List.{flat_map, AllByRecursion}
use Rattle.std.proofs.lemmas.List.{append_assoc, append-nil, append_cancel_left, take_at, length-take, length-drop, take-append-drop}
use Rattle.std.proofs.lemmas.List.Concat.{flat_map-append}
use Rattle.log_model.specs.Entry.{Entry, entry_form, entry_frame, end_frame}
use Rattle.log_model.specs.LogText.{FileKey, TextKey, in_version, IsVersion, IsHeader, IsEntryOf, header, opened, IsClosed, Ends, Begins, IsLogText, Reaches, IsDamaged}
use Rattle.log_model.specs.Frame.{IsEntryAt}
use Rattle.log_model.proofs.FrameLaws.{same_entry, no_end_kind}
use Rattle.log_model.proofs.TextLaws.{same_version, HasVersion, with_version}
use Rattle.entry_frame.specs.Feed.{HasNext, HasNoNext, passed}
use Rattle.entry_frame.specs.Step.{IsDead}

abbrev pub frames_of : List Entry → List ℕ
frames_of es = flat_map (λ (e : Entry). opened (entry_frame e)) es

abbrev pub Are : TextKey → List Entry → Type 0
Are key es = AllByRecursion (IsEntryOf key) es

-- an end has a byte
ends_more : (n : ℕ) (x : List ℕ) (ended : Option ℕ) → Ends n x ended → 0 < length x
ends_more n [] None (inl closed) = absurd closed
ends_more n (b ∷ x) None (inl closed) = omega arith
ends_more n x None (inr one) = omega (arith, ap length one)
ends_more n x (Some told) (e, (rest, is, closed)) = omega (arith, ap length is)

-- an end is no entry
pub no_end_entry : (n : ℕ) (x rest : List ℕ) (ended : Option ℕ) (e : Entry) → Ends n x ended → x ≡ opened (entry_frame e) ++ rest → ⊥
no_end_entry n x rest None e (inl closed) is = let open_gate = subst IsClosed is closed in open_gate refl
no_end_entry n x rest None e (inr one) is = let h : 1 ≡ length (opened (entry_frame e) ++ rest) = ap length (sym one ∙ is) in omega (arith, h)
no_end_entry n x rest (Some told) e (same, (more, it, closed)) is = no_end_kind (entry_form e) (ap (λ (l : List ℕ). get_or l 1 0) (sym is ∙ it))

more_left : (es : List Entry) (x : List ℕ) → 0 < length x → 0 < length (frames_of es ++ x)
more_left es x h = omega (arith, length-append (frames_of es) x, h)

-- the chain of a text doesn't pass a dead end
dead_chain : (key : TextKey) (ts es : List Entry) (p q : ℕ) (rest x : List ℕ) (ended : Option ℕ) → Are key ts → Are key es → 0 < length rest → Ends q x ended → IsDead key p rest
    → p + length es ≡ q + length ts → frames_of ts ++ rest ≡ frames_of es ++ x → ⊥
dead_chain key [] [] p q rest x ended ht he more ends dead count same = let n : p ≡ q = omega (arith, count) in no_end n ended ends
  where
    no_end : p ≡ q → (told : Option ℕ) → Ends q x told → ⊥
    no_end n None (inl closed) = dead.no_stop (inr (inl (subst IsClosed (sym same) closed)))
    no_end n None (inr one) = dead.no_stop (inr (inr (same ∙ one)))
    no_end n (Some told) (e, (behind, is, closed)) = dead.no_end behind closed (same ∙ is ∙ ap (λ (k : ℕ). opened (end_frame k) ++ behind) (sym n))
dead_chain key [] (e ∷ es) p q rest x ended ht he more ends dead count same =
    dead.no_entry e (frames_of es ++ x) he.0 (more_left es x (ends_more q x ended ends)) (same ∙ append_assoc (opened (entry_frame e)) (frames_of es) x)
dead_chain key (t ∷ ts) [] p q rest x ended ht he more ends dead count same = no_end_entry q x (frames_of ts ++ rest) ended t ends (sym same ∙ append_assoc (opened (entry_frame t)) (frames_of ts) rest)
dead_chain key (t ∷ ts) (e ∷ es) p q rest x ended ht he more ends dead count same =
    let whole : List ℕ = frames_of (t ∷ ts) ++ rest in
    let at_t : IsEntryAt whole t (frames_of ts ++ rest) = record { entry = ht.0.entry; more = more_left ts rest more; is = append_assoc (opened (entry_frame t)) (frames_of ts) rest } in
    let at_e : IsEntryAt whole e (frames_of es ++ x) = record { entry = he.0.entry; more = more_left es x (ends_more q x ended ends); is = same ∙ append_assoc (opened (entry_frame e)) (frames_of es) x } in
    dead_chain key ts es p q rest x ended ht.1 he.1 more ends dead (omega (arith, count)) (same_entry whole (frames_of ts ++ rest) (frames_of es ++ x) t e at_t at_e).1

-- nor do whole entries
dead_far : (key : TextKey) (ts es : List Entry) (p : ℕ) (rest y : List ℕ) → Are key ts → Are key es → 0 < length rest → 0 < length y → IsDead key p rest
    → frames_of ts ++ rest ≡ frames_of es ++ y → length (frames_of es) ≤ length (frames_of ts)
dead_far key ts [] p rest y ht he more some dead same = omega arith
dead_far key [] (e ∷ es) p rest y ht he more some dead same = absurd (dead.no_entry e (frames_of es ++ y) he.0 (more_left es y some) (same ∙ append_assoc (opened (entry_frame e)) (frames_of es) y))
dead_far key (t ∷ ts) (e ∷ es) p rest y ht he more some dead same =
    let whole : List ℕ = frames_of (t ∷ ts) ++ rest in
    let at_t : IsEntryAt whole t (frames_of ts ++ rest) = record { entry = ht.0.entry; more = more_left ts rest more; is = append_assoc (opened (entry_frame t)) (frames_of ts) rest } in
    let at_e : IsEntryAt whole e (frames_of es ++ y) = record { entry = he.0.entry; more = more_left es y some; is = same ∙ append_assoc (opened (entry_frame e)) (frames_of es) y } in
    let one = same_entry whole (frames_of ts ++ rest) (frames_of es ++ y) t e at_t at_e in
    let far : length (frames_of es) ≤ length (frames_of ts) = dead_far key ts es p rest y ht.1 he.1 more some dead one.1 in
    let size : length (opened (entry_frame t)) ≡ length (opened (entry_frame e)) = ap (λ (d : Entry). length (opened (entry_frame d))) one.0 in
    let left : length (frames_of (t ∷ ts)) ≡ length (opened (entry_frame t)) + length (frames_of ts) = length-append (opened (entry_frame t)) (frames_of ts) in
    let right : length (frames_of (e ∷ es)) ≡ length (opened (entry_frame e)) + length (frames_of es) = length-append (opened (entry_frame e)) (frames_of es) in
    omega (arith, far, size, left, right)

after_header : (key : TextKey) (bytes rest : List ℕ) (es : List Entry) → Begins key bytes es rest → drop 16 bytes ≡ frames_of es ++ rest
after_header key bytes rest es h = ap (drop 16) h.is

-- bytes are damaged where the chain comes to a dead end
pub damaged_at_gate : (version : ℕ) (file : FileKey) (bytes rest : List ℕ) (ts : List Entry) → IsVersion version → Begins (in_version version file) bytes ts rest → 0 < length rest → 18 ≤ length bytes
    → IsDead (in_version version file) (length ts) rest → IsDamaged file bytes (16 + length (frames_of ts))
damaged_at_gate version file bytes rest ts known begins more long dead = record { no_text = no_text; place = inr (version, known, ((below, (ts, here)), greatest)) }
  where
    key : TextKey
    key = in_version version file

    no_text : (es : List Entry) (ended : Option ℕ) → IsLogText file bytes es ended → ⊥
    no_text es ended text = none (with_version file bytes es ended text)
      where
        none : HasVersion file bytes es ended → ⊥
        none (w, kw, inl short) = omega (arith, short.0, long)
        none (w, kw, inr (x, h, ends)) =
            let same : w ≡ version = same_version w version file bytes x rest es ts kw known h begins in
            let each : Are key es = subst (λ (u : ℕ). Are (in_version u file) es) same h.each in
            dead_chain key ts es (length ts) (length es) rest x ended begins.each each more ends dead (omega arith) (sym (after_header key bytes rest ts begins) ∙ after_header (in_version w file) bytes x es h)

    whole : bytes ≡ (header key.version key.number ++ frames_of ts) ++ rest
    whole = begins.is ∙ sym (append_assoc (header key.version key.number) (frames_of ts) rest)

    size : length (header key.version key.number ++ frames_of ts) ≡ 16 + length (frames_of ts)
    size = length-append (header key.version key.number) (frames_of ts)

    below : 16 + length (frames_of ts) < length bytes
    below = omega (arith, ap length whole, length-append (header key.version key.number ++ frames_of ts) rest, size, more)

    here : Begins key (take (16 + length (frames_of ts)) bytes) ts []
    here = record {
      is = ap (take (16 + length (frames_of ts))) whole ∙ take_at (header key.version key.number ++ frames_of ts) rest (16 + length (frames_of ts)) size ∙ ap (λ (x : List ℕ). header key.version key.number ++ x) (sym (append-nil (frames_of ts)));
      each = begins.each;
    }

    greatest : (other : ℕ) → Reaches key bytes other → other ≤ 16 + length (frames_of ts)
    greatest other (lt, (es, h)) =
        let left : take other bytes ≡ header key.version key.number ++ frames_of es = h.is ∙ ap (λ (x : List ℕ). header key.version key.number ++ x) (append-nil (frames_of es)) in
        let place : other ≡ 16 + length (frames_of es) = omega (arith, length-take other bytes, ap length left, length-append (header key.version key.number) (frames_of es), lt) in
        let all : bytes ≡ header key.version key.number ++ (frames_of es ++ drop other bytes) =
        sym (take-append-drop other bytes) ∙ ap (λ (x : List ℕ). x ++ drop other bytes) left ∙ append_assoc (header key.version key.number) (frames_of es) (drop other bytes) in
        let behind : 0 < length (drop other bytes) = omega (arith, length-drop other bytes, lt) in
        let far : length (frames_of es) ≤ length (frames_of ts) =
        dead_far key ts es (length ts) rest (drop other bytes) begins.each h.each more behind dead (sym (after_header key bytes rest ts begins) ∙ ap (drop 16) all) in
        omega (arith, far, place)

pub known_header : (v number : ℕ) (x : List ℕ) → IsVersion v → x ≡ header v number → IsHeader number x
known_header v number x (inl one) is = inl (is ∙ ap (λ (u : ℕ). header u number) one)
known_header v number x (inr two) is = inr (is ∙ ap (λ (u : ℕ). header u number) two)

-- and at 0 where the header is wrong
pub damaged_header : (key : FileKey) (bytes : List ℕ) → 18 ≤ length bytes → (¬ IsHeader key.number (take 16 bytes)) → IsDamaged key bytes 0
damaged_header key bytes long wrong = record { no_text = no_text; place = inl (wrong, refl) }
  where
    no_text : (es : List Entry) (ended : Option ℕ) → IsLogText key bytes es ended → ⊥
    no_text es ended (inl (inl short)) = omega (arith, short.0, long)
    no_text es ended (inl (inr (x, h, ends))) = wrong (inl (ap (take 16) h.is))
    no_text es ended (inr (inl short)) = omega (arith, short.0, long)
    no_text es ended (inr (inr (x, h, ends))) = wrong (inr (ap (take 16) h.is))

-- ---- bytes of which more come

pub closed_more : (rest more : List ℕ) → IsClosed rest → IsClosed (rest ++ more)
closed_more [] more closed = absurd closed
closed_more (gate ∷ rest) more closed = closed

pub begins_more : (key : TextKey) (bytes rest more : List ℕ) (ts : List Entry) → Begins key bytes ts rest → Begins key (bytes ++ more) ts (rest ++ more)
begins_more key bytes rest more ts h = record {
  is = ap (λ (x : List ℕ). x ++ more) h.is ∙ append_assoc (header key.version key.number) (frames_of ts ++ rest) more ∙ ap (λ (x : List ℕ). header key.version key.number ++ x) (append_assoc (frames_of ts) rest more);
  each = h.each;
}

-- ---- the next entry

pub last_of : (key : TextKey) (ts : List Entry) (e : Entry) → Are key (ts ++ e ∷ []) → IsEntryOf key e
last_of key [] e h = h.0
last_of key (t ∷ ts) e h = last_of key ts e h.1

pub are_more : (key : TextKey) (ts : List Entry) (e : Entry) → Are key ts → IsEntryOf key e → Are key (ts ++ e ∷ [])
are_more key [] e h is = (is, tt)
are_more key (t ∷ ts) e h is = (h.0, are_more key ts e h.1 is)

frames_more : (ts : List Entry) (e : Entry) (rest : List ℕ) → frames_of (ts ++ e ∷ []) ++ rest ≡ frames_of ts ++ (opened (entry_frame e) ++ rest)
frames_more ts e rest =
    ap (λ (x : List ℕ). x ++ rest) (flat_map-append (λ (d : Entry). opened (entry_frame d)) ts (e ∷ []) ∙ ap (λ (x : List ℕ). frames_of ts ++ x) (append-nil (opened (entry_frame e))))
    ∙ append_assoc (frames_of ts) (opened (entry_frame e)) rest

pub next_at : (version : ℕ) (file : FileKey) (given x : List ℕ) (ts : List Entry) (e : Entry) → IsVersion version → Begins (in_version version file) given ts x → HasNext file given ts e
    → (rest : List ℕ) × (0 < length rest) × (x ≡ opened (entry_frame e) ++ rest) × IsEntryOf (in_version version file) e
next_at version file given x ts e known begins (w, kw, rest, more, h) =
    let key : TextKey = in_version version file in
    let same : w ≡ version = same_version w version file given rest x (ts ++ e ∷ []) ts kw known h begins in
    let each : Are key (ts ++ e ∷ []) = subst (λ (u : ℕ). Are (in_version u file) (ts ++ e ∷ [])) same h.each in
    (rest, more, append_cancel_left (frames_of ts) x (opened (entry_frame e) ++ rest) (sym (after_header key given x ts begins) ∙ after_header (in_version w file) given rest (ts ++ e ∷ []) h ∙ frames_more ts e rest), last_of key ts e each)

pub next_begins : (key : TextKey) (given x rest : List ℕ) (ts : List Entry) (e : Entry) → Begins key given ts x → IsEntryOf key e → x ≡ opened (entry_frame e) ++ rest → Begins key given (ts ++ e ∷ []) rest
next_begins key given x rest ts e begins is same = record {
  is = begins.is ∙ ap (λ (y : List ℕ). header key.version key.number ++ y) (ap (λ (y : List ℕ). frames_of ts ++ y) same ∙ sym (frames_more ts e rest));
  each = are_more key ts e begins.each is;
}

-- an entry is long
pub next_long : (key : FileKey) (given : List ℕ) (ts : List Entry) (e : Entry) → HasNext key given ts e → 18 ≤ length given
next_long key given ts e (w, kw, rest, more, h) =
    omega (arith, ap length (h.is ∙ ap (λ (y : List ℕ). header w key.number ++ y) (frames_more ts e rest)), length-append (header w key.number) (frames_of ts ++ (opened (entry_frame e) ++ rest)), length-append (frames_of ts) (opened (entry_frame e) ++ rest), length-append (opened (entry_frame e)) rest, more)

pub dead_no_next : (version : ℕ) (file : FileKey) (given x : List ℕ) (ts : List Entry) (n : ℕ) → IsVersion version → Begins (in_version version file) given ts x → IsDead (in_version version file) n x → HasNoNext file given ts
dead_no_next version file given x ts n known begins dead = λ e next. let h = next_at version file given x ts e known begins next in dead.no_entry e h.0 h.3 h.1 h.2

-- a text has no entry more than its own
pub text_no_next : (key : FileKey) (given : List ℕ) (ts : List Entry) (told : Option ℕ) → IsLogText key given ts told → HasNoNext key given ts
text_no_next key given ts told text = none (with_version key given ts told text)
  where
    none : HasVersion key given ts told → HasNoNext key given ts
    none (v, kv, inl short) = λ e next. omega (arith, short.0, next_long key given ts e next)
    none (v, kv, inr (x, h, ends)) = λ e next. let n = next_at v key given x ts e kv h next in no_end_entry (length ts) x n.0 told e ends n.2

-- what was passed and what is left
pub passed_begins : (key : TextKey) (given unread : List ℕ) (e : Entry) (es : List Entry) → Are key (e ∷ es) → given ≡ passed key (e ∷ es) ++ unread → Begins key given (e ∷ es) unread
passed_begins key given unread e es each is = record { is = is ∙ append_assoc (header key.version key.number) (frames_of (e ∷ es)) unread; each = each }

pub begins_passed : (key : TextKey) (given rest : List ℕ) (ts : List Entry) (e : Entry) → Begins key given (ts ++ e ∷ []) rest → given ≡ passed key (ts ++ e ∷ []) ++ rest
begins_passed key given rest [] e h = h.is ∙ sym (append_assoc (header key.version key.number) (frames_of (e ∷ [])) rest)
begins_passed key given rest (t ∷ ts) e h = h.is ∙ sym (append_assoc (header key.version key.number) (frames_of (t ∷ (ts ++ e ∷ []))) rest)
