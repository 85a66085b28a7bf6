-- Worked examples of damage, which the check computes.
use Rattle.std.proofs.Common.{◌≡◌, ◌≢◌, ℕ, zero, suc, ◌+◌, ◌≤◌, ◌^◌, ◌⊎◌, inl, inr, List, [], ◌∷◌, Some, None, Contains, get_or, refl, sym, ap, ◌∙◌, subst, arith}
use Rattle.std.specs.declared.cmp.Ordering.TheVariants.{Less, Equal, Greater}
use Rattle.std.specs.Ordering.{ordering_index}
use Rattle.cell_model.specs.Cell.{number_at}
use Rattle.log_model.specs.declared.name.Name.{Name}
use Rattle.log_model.specs.declared.name.NameKind.{NameKind}
use Rattle.log_model.specs.declared.name.NameKind.TheVariants as kinds
use Rattle.log_model.specs.declared.damage.Damage.TheVariants as damages
use Rattle.log_model.specs.Entry.{Entry}
use Rattle.log_model.specs.LogText.{IsLogText}
use Rattle.log_model.specs.StoreText.{IsThere, form_at, field_fault}
use Rattle.log_model.specs.StoreText.IsStoreDamaged.{Field}
use Rattle.log_model.specs.Files.{Files, Reads, rank_of, name_cmp, key_of, IsLogFile, IsPresent}
use Rattle.log_model.specs.Damage.{IsBadName, HasDamage, IsDamagedFile, Disagreement, IsDisagreement, disagreement_cmp, IsDamage}
use Rattle.log_model.specs.Damage.HasDamage.{Logged, Stored}
use Rattle.log_model.proofs.TextLaws.{one_text}
use Rattle.log_model.proofs.DamageLaws.{damaged_there, same_bytes}
use Rattle.log_model.proofs.Rows.{cut, cut_is_damaged}

abbrev log : ℕ → Name
log number = record { kind = kinds.Log; region = 0; number = number }

abbrev old : ℕ → Name
old number = record { kind = kinds.Old; region = 0; number = number }

abbrev store : ℕ → ℕ → Name
store region number = record { kind = kinds.Store; region = region; number = number }

abbrev edits : ℕ → ℕ → Name
edits region number = record { kind = kinds.Edits; region = region; number = number }

unlike : {A : Type 0} (a b : NameKind) → a ≡ b → (rank_of a ≡ rank_of b → ⊥) → A
unlike a b same differ = absurd (differ (ap rank_of same))

-- ---- names

too_high : (files : Files) → IsBadName files (log (2 ^ 62 + 1))
too_high files = inl (omega arith)

store_of_no_region : (files : Files) → IsBadName files (store 0 1)
store_of_no_region files = inr (inl (inl refl, inl refl))

edits_of_region_65 : (files : Files) → IsBadName files (edits 65 1)
edits_of_region_65 files = inr (inl (inr refl, inr (omega arith)))

-- the greatest region and number are good
highest_store : (files : Files) → ¬ IsBadName files (store 64 (2 ^ 62))
highest_store files (inl high) = omega (arith, high)
highest_store files (inr (inl (kind, inl none))) = omega (arith, none)
highest_store files (inr (inl (kind, inr high))) = omega (arith, high)
highest_store files (inr (inr (kind, other))) = unlike kinds.Store kinds.Log kind (λ e. omega (arith, e))

-- of a log and an old log with one number the log's name is bad
log_of_an_old_number : (files : Files) → IsPresent files (old 5) → IsBadName files (log 5)
log_of_an_old_number files there = inr (inr (refl, (old 5, there, refl, refl)))

old_of_a_log_number : (files : Files) → ¬ IsBadName files (old 5)
old_of_a_log_number files (inl high) = omega (arith, high)
old_of_a_log_number files (inr (inl (inl kind, region))) = unlike kinds.Old kinds.Store kind (λ e. omega (arith, e))
old_of_a_log_number files (inr (inl (inr kind, region))) = unlike kinds.Old kinds.Edits kind (λ e. omega (arith, e))
old_of_a_log_number files (inr (inr (kind, other))) = unlike kinds.Old kinds.Log kind (λ e. omega (arith, e))

-- ---- bytes

some_there : (files : Files) (name : Name) (bytes : List ℕ) → Reads files name bytes → IsPresent files name
some_there files name bytes there none = let e : Some bytes ≡ None = sym there ∙ none in absurd cc

damaged_present : (files : Files) (name : Name) (at : ℕ) → IsDamagedFile files name at → IsPresent files name
damaged_present files name at (inl (there, bad, place)) = there
damaged_present files name at (inr (good, Logged bytes there kind damaged)) = some_there files name bytes there
damaged_present files name at (inr (good, Stored bytes there kind damaged)) = some_there files name bytes there

-- a log of 62 bytes that was cut inside its first frame is damaged at its first gate
cut_log : (files : Files) → Reads files (log 1) cut → ((m : Name) → IsPresent files m → m.kind ≢ kinds.Old) → IsDamagedFile files (log 1) 16
cut_log files there none = inr (good, Logged cut there (inl refl) cut_is_damaged)
  where
    good : ¬ IsBadName files (log 1)
    good (inl high) = omega (arith, high)
    good (inr (inl (inl kind, region))) = unlike kinds.Log kinds.Store kind (λ e. omega (arith, e))
    good (inr (inl (inr kind, region))) = unlike kinds.Log kinds.Edits kind (λ e. omega (arith, e))
    good (inr (inr (kind, (other, other_there, is_old, same)))) = none other other_there is_old

-- a store of region 1 from the sequence id 0 on
abbrev from_zero : List ℕ
from_zero = 165 ∷ 72 ∷ 87 ∷ 83 ∷ 49 ∷ 0 ∷ 0 ∷ 0 ∷ 1 ∷ 0 ∷ 0 ∷ 0 ∷ 0 ∷ 0 ∷ 0 ∷ 0 ∷ 0 ∷ []

damaged_store : (files : Files) → Reads files (store 1 7) from_zero → HasDamage files (store 1 7) 9
unfolding field_fault form_at number_at
damaged_store files there = Stored from_zero there refl (Field (omega arith, refl) refl)

-- after a closed gate it isn't there, and not damaged
closed_store : (files : Files) (at : ℕ) → Reads files (store 1 7) (0 ∷ from_zero) → ¬ HasDamage files (store 1 7) at
closed_store files at there (Logged bytes is (inl kind) damaged) = unlike kinds.Store kinds.Log kind (λ e. omega (arith, e))
closed_store files at there (Logged bytes is (inr kind) damaged) = unlike kinds.Store kinds.Edits kind (λ e. omega (arith, e))
closed_store files at there (Stored bytes is kind damaged) =
    let same : 0 ∷ from_zero ≡ bytes = same_bytes (0 ∷ from_zero) bytes (sym there ∙ is) in
    let open_gate = subst IsThere (sym same) (damaged_there 1 bytes at damaged) in
    let gate : 0 ≡ 165 = ap (λ (l : List ℕ). get_or l 0 0) open_gate.1 in
    omega (arith, gate)

-- of two damaged files the first in the order of names is told
first_of_two : (files : Files) → IsPresent files (log (2 ^ 62 + 1)) → IsPresent files (store 0 1) → ((m : Name) → IsPresent files m → (m ≡ log (2 ^ 62 + 1)) ⊎ (m ≡ store 0 1))
    → IsDamage files (damages.Bytes (log (2 ^ 62 + 1)) 0)
first_of_two files one two others = record { here = inl (one, too_high files, refl); first = λ other place damaged. none_before other (others other (damaged_present files other place damaged)) }
  where
    none_before : (m : Name) → (m ≡ log (2 ^ 62 + 1)) ⊎ (m ≡ store 0 1) → name_cmp m (log (2 ^ 62 + 1)) ≢ Less
    none_before m (inl same) less = let e : Equal ≡ Less = ap (λ (n : Name). name_cmp n (log (2 ^ 62 + 1))) (sym same) ∙ less in omega (arith, ap ordering_index e)
    none_before m (inr same) less = let e : Greater ≡ Less = ap (λ (n : Name). name_cmp n (log (2 ^ 62 + 1))) (sym same) ∙ less in omega (arith, ap ordering_index e)

-- ---- entries that disagree

same_entries : (files : Files) (name : Name) (es ds : List Entry) → IsLogFile files name es → IsLogFile files name ds → es ≡ ds
same_entries files name es ds h g =
    let bytes : g.bytes ≡ h.bytes = same_bytes g.bytes h.bytes (sym g.there ∙ h.there) in
    (one_text (key_of name) h.bytes es ds h.ended g.ended h.text (subst (λ (b : List ℕ). IsLogText (key_of name) b ds g.ended) bytes g.text)).0

only_one : (e x : Entry) → Contains (e ∷ []) x → e ≡ x
only_one e x (zero, lt, is) = is
only_one e x (suc k, lt, is) = absurd (omega (arith, lt))

-- an entry of a log with one entry is that one
the_entry : (files : Files) (name : Name) (e x : Entry) (es : List Entry) → IsLogFile files name (e ∷ []) → IsLogFile files name es → Contains es x → e ≡ x
the_entry files name e x es h g has = only_one e x (subst (λ (l : List Entry). Contains l x) (same_entries files name es (e ∷ []) g h) has)

first_in : (e : Entry) (es : List Entry) → Contains (e ∷ es) e
first_in e es = (0, omega arith, refl)

second_in : (d e : Entry) → Contains (d ∷ e ∷ []) e
second_in d e = (1, omega arith, refl)

-- logs of good numbers that are texts, and no other files, have no damaged file
whole_logs : (files : Files) → ((m : Name) → IsPresent files m → (m.kind ≡ kinds.Log) × (m.number ≤ 2 ^ 62) × ((es : List Entry) × IsLogFile files m es))
    → (name : Name) (at : ℕ) → ¬ IsDamagedFile files name at
whole_logs files logs name at (inl (there, inl high, place)) = omega (arith, high, (logs name there).1)
whole_logs files logs name at (inl (there, inr (inl (inl kind, region)), place)) = unlike kinds.Log kinds.Store (sym (logs name there).0 ∙ kind) (λ e. omega (arith, e))
whole_logs files logs name at (inl (there, inr (inl (inr kind, region)), place)) = unlike kinds.Log kinds.Edits (sym (logs name there).0 ∙ kind) (λ e. omega (arith, e))
whole_logs files logs name at (inl (there, inr (inr (kind, (other, other_there, is_old, same))), place)) = unlike kinds.Log kinds.Old (sym (logs other other_there).0 ∙ is_old) (λ e. omega (arith, e))
whole_logs files logs name at (inr (good, Logged bytes there kind damaged)) =
    let known = (logs name (some_there files name bytes there)).2 in
    let same : known.1.bytes ≡ bytes = same_bytes known.1.bytes bytes (sym known.1.there ∙ there) in
    damaged.no_text known.0 known.1.ended (subst (λ (b : List ℕ). IsLogText (key_of name) b known.0 known.1.ended) same known.1.text)
whole_logs files logs name at (inr (good, Stored bytes there kind damaged)) = unlike kinds.Log kinds.Store (sym (logs name (some_there files name bytes there)).0 ∙ kind) (λ e. omega (arith, e))

-- two entries of region 1 with the sequence id 7
record Alike (d e : Entry) : Type 0 where
  pub first : (d.region ≡ 1) × (d.number ≡ 7)
  pub second : (e.region ≡ 1) × (e.number ≡ 7)

abbrev between : Name → Name → Disagreement
between a b = record { region = 1; number = 7; first = a; second = b }

-- what disagrees is of that region and sequence id, where each entry of a log is
is_between : (files : Files) (y : Disagreement) → ((m : Name) (es : List Entry) (x : Entry) → IsLogFile files m es → Contains es x → (x.region ≡ 1) × (x.number ≡ 7)) → IsDisagreement files y → y ≡ between y.first y.second
is_between files y all h =
    let found = all y.first h.ds h.d h.in_first.0 h.in_first.1 in
    let region : y.region ≡ 1 = sym h.regions.0 ∙ found.0 in
    let number : y.number ≡ 7 = sym h.numbers.0 ∙ found.1 in
    λ i. record { region = region i; number = number i; first = y.first; second = y.second }

-- it is not before the one that is told, where that holds of the names
not_before : (x y : Disagreement) → y ≡ between y.first y.second → (disagreement_cmp (between y.first y.second) x ≢ Less) → disagreement_cmp y x ≢ Less
not_before x y is later less = later (ap (λ z. disagreement_cmp z x) (sym is) ∙ less)

later_names : (x : Disagreement) (a b m n : Name) → a ≡ m → b ≡ n → (ordering_index (disagreement_cmp (between m n) x) ≡ 0 → ⊥) → disagreement_cmp (between a b) x ≢ Less
later_names x a b m n is also later less = later (sym (ap ordering_index (λ i. disagreement_cmp (between (is i) (also i)) x)) ∙ ap ordering_index less)

-- Of three logs the second has another entry of that sequence id: the first two of them are told, and not the last two.
second_differs : (files : Files) (d e : Entry) → Alike d e → d ≢ e
    → IsLogFile files (log 1) (d ∷ []) → IsLogFile files (log 2) (e ∷ []) → IsLogFile files (log 3) (d ∷ [])
    → ((m : Name) → IsPresent files m → (m ≡ log 1) ⊎ ((m ≡ log 2) ⊎ (m ≡ log 3)))
    → IsDamage files (damages.Two (log 1) (log 2) 1 7)
second_differs files d e alike differ one two three others = record {
  whole = whole_logs files known;
  here = record { order = λ less. let n : 2 ≡ 0 = ap ordering_index less in omega (arith, n); d = d; e = e; ds = d ∷ []; es = e ∷ []; in_first = (one, first_in d []); in_second = (two, first_in e []); regions = (alike.first.0, alike.second.0); numbers = (alike.first.1, alike.second.1); differ = differ };
  first = λ y h. not_before (between (log 1) (log 2)) y (is_between files y entries h) (by_names y h (named y.first h.ds h.in_first.0) (named y.second h.es h.in_second.0));
}
  where
    named : (m : Name) (es : List Entry) → IsLogFile files m es → (m ≡ log 1) ⊎ ((m ≡ log 2) ⊎ (m ≡ log 3))
    named m es file = others m (some_there files m file.bytes file.there)

    known : (m : Name) → IsPresent files m → (m.kind ≡ kinds.Log) × (m.number ≤ 2 ^ 62) × ((es : List Entry) × IsLogFile files m es)
    known m there = elim (others m there) as (λ _. (m.kind ≡ kinds.Log) × (m.number ≤ 2 ^ 62) × ((es : List Entry) × IsLogFile files m es)) [
      | inl is ↦ subst (λ (n : Name). (n.kind ≡ kinds.Log) × (n.number ≤ 2 ^ 62) × ((es : List Entry) × IsLogFile files n es)) (sym is) (refl, omega arith, (d ∷ [], one))
      | inr (inl is) ↦ subst (λ (n : Name). (n.kind ≡ kinds.Log) × (n.number ≤ 2 ^ 62) × ((es : List Entry) × IsLogFile files n es)) (sym is) (refl, omega arith, (e ∷ [], two))
      | inr (inr is) ↦ subst (λ (n : Name). (n.kind ≡ kinds.Log) × (n.number ≤ 2 ^ 62) × ((es : List Entry) × IsLogFile files n es)) (sym is) (refl, omega arith, (d ∷ [], three))
    ]

    -- the entry of a log with this name, of which this is the entry
    holds : (m n : Name) (f x : Entry) (es : List Entry) → m ≡ n → IsLogFile files n (f ∷ []) → IsLogFile files m es → Contains es x → f ≡ x
    holds m n f x es is is_one file has = the_entry files n f x es is_one (subst (λ (k : Name). IsLogFile files k es) is file) has

    entries : (m : Name) (es : List Entry) (x : Entry) → IsLogFile files m es → Contains es x → (x.region ≡ 1) × (x.number ≡ 7)
    entries m es x file has = elim (named m es file) as (λ _. (x.region ≡ 1) × (x.number ≡ 7)) [
      | inl is ↦ subst (λ (y : Entry). (y.region ≡ 1) × (y.number ≡ 7)) (holds m (log 1) d x es is one file has) alike.first
      | inr (inl is) ↦ subst (λ (y : Entry). (y.region ≡ 1) × (y.number ≡ 7)) (holds m (log 2) e x es is two file has) alike.second
      | inr (inr is) ↦ subst (λ (y : Entry). (y.region ≡ 1) × (y.number ≡ 7)) (holds m (log 3) d x es is three file has) alike.first
    ]

    later : (y : Disagreement) (m n : Name) → y.first ≡ m → y.second ≡ n → (ordering_index (disagreement_cmp (between m n) (between (log 1) (log 2))) ≡ 0 → ⊥) → disagreement_cmp (between y.first y.second) (between (log 1) (log 2)) ≢ Less
    later y m n is also = later_names (between (log 1) (log 2)) y.first y.second m n is also

    by_names : (y : Disagreement) → IsDisagreement files y → (y.first ≡ log 1) ⊎ ((y.first ≡ log 2) ⊎ (y.first ≡ log 3)) → (y.second ≡ log 1) ⊎ ((y.second ≡ log 2) ⊎ (y.second ≡ log 3))
        → disagreement_cmp (between y.first y.second) (between (log 1) (log 2)) ≢ Less
    by_names y h (inl is) (inl also) = absurd (h.differ (sym (holds y.first (log 1) d h.d h.ds is one h.in_first.0 h.in_first.1) ∙ holds y.second (log 1) d h.e h.es also one h.in_second.0 h.in_second.1))
    by_names y h (inl is) (inr (inl also)) = later y (log 1) (log 2) is also (λ n. omega (arith, n))
    by_names y h (inl is) (inr (inr also)) = later y (log 1) (log 3) is also (λ n. omega (arith, n))
    by_names y h (inr (inl is)) (inl also) = later y (log 2) (log 1) is also (λ n. omega (arith, n))
    by_names y h (inr (inl is)) (inr (inl also)) = later y (log 2) (log 2) is also (λ n. omega (arith, n))
    by_names y h (inr (inl is)) (inr (inr also)) = later y (log 2) (log 3) is also (λ n. omega (arith, n))
    by_names y h (inr (inr is)) (inl also) = later y (log 3) (log 1) is also (λ n. omega (arith, n))
    by_names y h (inr (inr is)) (inr (inl also)) = later y (log 3) (log 2) is also (λ n. omega (arith, n))
    by_names y h (inr (inr is)) (inr (inr also)) = later y (log 3) (log 3) is also (λ n. omega (arith, n))

-- a log with two entries of one sequence id that differ is told with itself
disagrees_with_itself : (files : Files) (d e : Entry) → Alike d e → d ≢ e → IsLogFile files (log 1) (d ∷ e ∷ []) → ((m : Name) → IsPresent files m → m ≡ log 1) → IsDamage files (damages.Two (log 1) (log 1) 1 7)
disagrees_with_itself files d e alike differ one others = record {
  whole = whole_logs files (λ m there. subst (λ (n : Name). (n.kind ≡ kinds.Log) × (n.number ≤ 2 ^ 62) × ((es : List Entry) × IsLogFile files n es)) (sym (others m there)) (refl, omega arith, (d ∷ e ∷ [], one)));
  here = record { order = λ less. let n : 1 ≡ 0 = ap ordering_index less in omega (arith, n); d = d; e = e; ds = d ∷ e ∷ []; es = d ∷ e ∷ []; in_first = (one, first_in d (e ∷ [])); in_second = (one, second_in d e); regions = (alike.first.0, alike.second.0); numbers = (alike.first.1, alike.second.1); differ = differ };
  first = λ y h. not_before (between (log 1) (log 1)) y (is_between files y entries h)
      (later_names (between (log 1) (log 1)) y.first y.second (log 1) (log 1) (named y.first h.ds h.in_first.0) (named y.second h.es h.in_second.0) (λ n. omega (arith, n)));
}
  where
    named : (m : Name) (es : List Entry) → IsLogFile files m es → m ≡ log 1
    named m es file = others m (some_there files m file.bytes file.there)

    one_of : (x : Entry) → Contains (d ∷ e ∷ []) x → (x.region ≡ 1) × (x.number ≡ 7)
    one_of x (zero, lt, is) = subst (λ (y : Entry). (y.region ≡ 1) × (y.number ≡ 7)) is alike.first
    one_of x (suc zero, lt, is) = subst (λ (y : Entry). (y.region ≡ 1) × (y.number ≡ 7)) is alike.second
    one_of x (suc (suc k), lt, is) = absurd (omega (arith, lt))

    entries : (m : Name) (es : List Entry) (x : Entry) → IsLogFile files m es → Contains es x → (x.region ≡ 1) × (x.number ≡ 7)
    entries m es x file has =
        let here = subst (λ (n : Name). IsLogFile files n es) (named m es file) file in
        one_of x (subst (λ (l : List Entry). Contains l x) (same_entries files (log 1) es (d ∷ e ∷ []) here one) has)
