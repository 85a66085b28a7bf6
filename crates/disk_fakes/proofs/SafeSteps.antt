-- What the calls of a disk with fixed room do to its files.
use Rattle.std.proofs.Common.{◌≡◌, ◌≢◌, inl, inr, ℕ, ◌+◌, ◌-◌, ◌≤◌, ◌<◌, max, List, [], ◌++◌, length, get_or, true, Option, Some, None, is_some, take, drop, refl, sym, ◌∙◌, ap, arith, length-append, length-take, length-drop}
use Rattle.std.specs.Prelude.{slice_index}
use Rattle.std.proofs.lemmas.List.{get_or-take, get_or-drop, get_or_append_left, get_or-append_right}
use Rattle.std.specs.FinMap as map
use Rattle.log_model.specs.declared.name.Name.{Name}
use Rattle.log_model.specs.Files.{Files, content, Reads}
use Rattle.disk_images.specs.Crash.{overwritten}
use Rattle.disk_fakes.specs.declared.safe_call.SafeCall.TheVariants.{Create, Write, Rename, Remove}
use Rattle.disk_fakes.specs.History.{Reaches}
use Rattle.disk_fakes.specs.Order.{name_cases, insert_here, insert_other, remove_here, remove_other}
use Rattle.disk_fakes.specs.Laws.{not_both}
use Rattle.disk_fakes.specs.Safe.{text_in, put_over, moved_to, applied, Met, size_with}

pub length-text : (arena : List ℕ) (start len : ℕ) → start + len ≤ length arena → length (text_in arena start len) ≡ len
length-text arena start len le = omega (arith, length-take len (drop start arena), length-drop start arena, le)

length-over : (at : ℕ) (c bytes : List ℕ) → at ≤ length c → length (overwritten c at bytes) ≡ max (length c) (at + length bytes)
length-over at c bytes le = omega (arith, length-append (take at c ++ bytes) (drop (at + length bytes) c), length-append (take at c) bytes, length-take at c, length-drop (at + length bytes) c, le)

-- the bytes that a write puts
over_in : (c bytes : List ℕ) (at place : ℕ) → at ≤ length c → at ≤ place → place < at + length bytes → get_or (overwritten c at bytes) place 0 ≡ get_or bytes (place - at) 0
over_in c bytes at place le from to =
    let front : length (take at c) ≡ at = omega (arith, length-take at c, le) in
    let head : place < length (take at c ++ bytes) = omega (arith, length-append (take at c) bytes, front, to) in
    get_or_append_left (take at c ++ bytes) (drop (at + length bytes) c) 0 place head ∙ get_or-append_right (take at c) bytes at place 0 front from

-- the bytes that it leaves
over_before : (c bytes : List ℕ) (at place : ℕ) → at ≤ length c → place < at → get_or (overwritten c at bytes) place 0 ≡ get_or c place 0
over_before c bytes at place le lt =
    let front : length (take at c) ≡ at = omega (arith, length-take at c, le) in
    let head : place < length (take at c ++ bytes) = omega (arith, length-append (take at c) bytes, front, lt) in
    let first : place < length (take at c) = omega (arith, front, lt) in
    get_or_append_left (take at c ++ bytes) (drop (at + length bytes) c) 0 place head ∙ get_or_append_left (take at c) bytes 0 place first ∙ get_or-take at c place 0 lt

over_behind : (c bytes : List ℕ) (at place : ℕ) → at ≤ length c → at + length bytes ≤ place → get_or (overwritten c at bytes) place 0 ≡ get_or c place 0
over_behind c bytes at place le from =
    let front : length (take at c) ≡ at = omega (arith, length-take at c, le) in
    let head : length (take at c ++ bytes) ≡ at + length bytes = omega (arith, length-append (take at c) bytes, front) in
    get_or-append_right (take at c ++ bytes) (drop (at + length bytes) c) (at + length bytes) place 0 head from
    ∙ get_or-drop (at + length bytes) c (place - (at + length bytes)) 0 ∙ ap (λ (i : ℕ). get_or c i 0) (omega (arith, from))

reads_over : (files : Files) (name : Name) (at : ℕ) (bytes : List ℕ) (o : Option (List ℕ)) → content files name ≡ o → Reaches at o → (text : List ℕ) → Reads (put_over files name at bytes o) name text
    → (c : List ℕ) × Reads files name c × (at ≤ length c) × (overwritten c at bytes ≡ text)
reads_over files name at bytes None was reaches text reads = absurd reaches
reads_over files name at bytes (Some c) was reaches text reads = (c, was, reaches, (let here = insert_here files name (overwritten c at bytes) in cc (here, reads)))

pub over_other : (files : Files) (name m : Name) (at : ℕ) (bytes : List ℕ) (o : Option (List ℕ)) → m ≢ name → content (put_over files name at bytes o) m ≡ content files m
over_other files name m at bytes None other = refl
over_other files name m at bytes (Some c) other = insert_other files name m (overwritten c at bytes) other

pub to_here : (files : Files) (from to : Name) (o : Option (List ℕ)) → content files from ≡ o → is_some o ≡ true → content (moved_to files from to o) to ≡ content files from
to_here files from to None was there = absurd (cc there)
to_here files from to (Some c) was there = insert_here (map.remove files from) to c ∙ sym was

pub from_gone : (files : Files) (from to : Name) (o : Option (List ℕ)) → is_some o ≡ true → from ≢ to → content (moved_to files from to o) from ≡ None
from_gone files from to None there apart = absurd (cc there)
from_gone files from to (Some c) there apart = insert_other (map.remove files from) to from c apart ∙ remove_here files from

pub moved_other : (files : Files) (from to m : Name) (o : Option (List ℕ)) → m ≢ from → m ≢ to → content (moved_to files from to o) m ≡ content files m
moved_other files from to m None not_from not_to = refl
moved_other files from to m (Some c) not_from not_to = insert_other (map.remove files from) to m c not_to ∙ remove_other files from m not_from

pub apart_of : (arena : List ℕ) (files : Files) (from to : Name) → Met arena files (Rename from to) → from ≢ to
apart_of arena files from to met same = not_both (content files from) met.0 (ap (content files) same ∙ met.1)

module _ (arena : List ℕ) (files : Files) (text : List ℕ) (place : ℕ) where
  -- the byte of a file that the call left alone
  pub byte_stays : (after : Files) (n m : Name) → content after n ≡ content files m → Reads after n text → place < length text → (c : List ℕ) × Reads files m c × (place < length c) × (slice_index c place ≡ slice_index text place)
  byte_stays after n m same reads lt = (text, sym same ∙ reads, lt, refl)

  module _ (name : Name) (at start len : ℕ) (met : Met arena files (Write name at start len)) (reads : Reads (applied arena files (Write name at start len)) name text) where
    over : (c : List ℕ) × Reads files name c × (at ≤ length c) × (overwritten c at (text_in arena start len) ≡ text)
    over = reads_over files name at (text_in arena start len) (content files name) refl met.0 text reads

    pub byte_here : at ≤ place → place - at < len → (start + (place - at) < length arena) × (slice_index arena (start + (place - at)) ≡ slice_index text place)
    byte_here from lt =
        let long = length-text arena start len met.1 in
        let in_text : get_or (overwritten over.0 at (text_in arena start len)) place 0 ≡ get_or (text_in arena start len) (place - at) 0 = over_in over.0 (text_in arena start len) at place over.2 from (omega (arith, from, lt, long)) in
        let in_arena : get_or (text_in arena start len) (place - at) 0 ≡ get_or arena (start + (place - at)) 0 = get_or-take len (drop start arena) (place - at) 0 lt ∙ get_or-drop start arena (place - at) 0 in
        (omega (arith, met.1, lt), sym in_arena ∙ sym in_text ∙ ap (λ (l : List ℕ). get_or l place 0) over.3)

    size : length text ≡ max (length over.0) (at + len)
    size = ap length (sym over.3) ∙ length-over at over.0 (text_in arena start len) over.2 ∙ ap (λ (n : ℕ). max (length over.0) (at + n)) (length-text arena start len met.1)

    pub byte_before : place < at → (c : List ℕ) × Reads files name c × (place < length c) × (slice_index c place ≡ slice_index text place)
    byte_before lt = (over.0, over.1, omega (arith, lt, over.2), sym (over_before over.0 (text_in arena start len) at place over.2 lt) ∙ ap (λ (l : List ℕ). get_or l place 0) over.3)

    pub byte_behind : at ≤ place → len ≤ place - at → place < length text → (c : List ℕ) × Reads files name c × (place < length c) × (slice_index c place ≡ slice_index text place)
    byte_behind from past lt =
        let long = length-text arena start len met.1 in
        (over.0, over.1, omega (arith, from, past, lt, size), sym (over_behind over.0 (text_in arena start len) at place over.2 (omega (arith, from, past, long))) ∙ ap (λ (l : List ℕ). get_or l place 0) over.3)

size_of_over : (at n reach : ℕ) (c bytes : List ℕ) → at ≤ length c → length bytes ≡ n → size_with (Some (overwritten c at bytes)) reach ≡ size_with (Some c) (max reach (at + n))
size_of_over at n reach c bytes le long = ap (λ (k : ℕ). Some k) (omega (arith, length-over at c bytes le, long))

over_size : (files : Files) (name : Name) (at n reach : ℕ) (bytes : List ℕ) (o : Option (List ℕ)) → content files name ≡ o → Reaches at o → length bytes ≡ n → size_with (content (put_over files name at bytes o) name) reach ≡ size_with o (max reach (at + n))
over_size files name at n reach bytes None was reaches long = absurd reaches
over_size files name at n reach bytes (Some c) was reaches long = ap (λ (o : Option (List ℕ)). size_with o reach) (insert_here files name (overwritten c at bytes)) ∙ size_of_over at n reach c bytes reaches long

pub size_written : (arena : List ℕ) (files : Files) (name : Name) (at start len reach : ℕ) → Met arena files (Write name at start len) → size_with (content (applied arena files (Write name at start len)) name) reach ≡ size_with (content files name) (max reach (at + len))
size_written arena files name at start len reach met = over_size files name at len reach (text_in arena start len) (content files name) refl met.0 (length-text arena start len met.1)

pub size_same : (after files : Files) (n m : Name) (reach : ℕ) → content after n ≡ content files m → size_with (content after n) reach ≡ size_with (content files m) reach
size_same after files n m reach same = ap (λ (o : Option (List ℕ)). size_with o reach) same

pub size_none : (after : Files) (n : Name) (reach : ℕ) → content after n ≡ None → size_with (content after n) reach ≡ None
size_none after n reach none = ap (λ (o : Option (List ℕ)). size_with o reach) none

pub size_empty : (after : Files) (n : Name) (reach : ℕ) → content after n ≡ Some [] → size_with (content after n) reach ≡ Some reach
size_empty after n reach empty = ap (λ (o : Option (List ℕ)). size_with o reach) empty ∙ ap (λ (k : ℕ). Some k) (omega arith)

-- a call's files, once more with its parts known
module _ (arena : List ℕ) (files : Files) (text : List ℕ) (place : ℕ) (name : Name) (lt : place < length text) where
  pub create_byte : (made : Name) → Met arena files (Create made) → Reads (applied arena files (Create made)) name text → (c : List ℕ) × Reads files name c × (place < length c) × (slice_index c place ≡ slice_index text place)
  create_byte made met reads = elim (name_cases name made) as (λ _. (c : List ℕ) × Reads files name c × (place < length c) × (slice_index c place ≡ slice_index text place)) [
    | inl same ↦ (let here : content (applied arena files (Create made)) name ≡ Some [] = ap (content (applied arena files (Create made))) same ∙ insert_here files made [] in
        let empty : text ≡ [] = cc (here, reads) in absurd (omega (arith, lt, ap length empty)))
    | inr other ↦ byte_stays arena files text place (applied arena files (Create made)) name name (insert_other files made name [] other) reads lt
  ]

  pub remove_byte : (gone : Name) → Reads (applied arena files (Remove gone)) name text → (c : List ℕ) × Reads files name c × (place < length c) × (slice_index c place ≡ slice_index text place)
  remove_byte gone reads = elim (name_cases name gone) as (λ _. (c : List ℕ) × Reads files name c × (place < length c) × (slice_index c place ≡ slice_index text place)) [
    | inl same ↦ (let none : content (applied arena files (Remove gone)) name ≡ None = ap (content (applied arena files (Remove gone))) same ∙ remove_here files gone in absurd (cc (none, reads)))
    | inr other ↦ byte_stays arena files text place (applied arena files (Remove gone)) name name (remove_other files gone name other) reads lt
  ]

  pub rename_byte : (from to : Name) → Met arena files (Rename from to) → Reads (applied arena files (Rename from to)) name text → to ≢ name → (c : List ℕ) × Reads files name c × (place < length c) × (slice_index c place ≡ slice_index text place)
  rename_byte from to met reads not_to = elim (name_cases name from) as (λ _. (c : List ℕ) × Reads files name c × (place < length c) × (slice_index c place ≡ slice_index text place)) [
    | inl same ↦ (let none : content (applied arena files (Rename from to)) name ≡ None = ap (content (applied arena files (Rename from to))) same ∙ from_gone files from to (content files from) met.0 (apart_of arena files from to met) in absurd (cc (none, reads)))
    | inr other ↦ byte_stays arena files text place (applied arena files (Rename from to)) name name (moved_other files from to name (content files from) other (λ same. not_to (sym same))) reads lt
  ]
