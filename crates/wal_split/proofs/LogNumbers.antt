-- The numbers of logs among the names of files.
use Rattle.std.proofs.Common.{◌≡◌, inl, inr, ℕ, zero, suc, ◌<◌, Bool, true, false, ◌&&◌, List, [], ◌∷◌, ◌++◌, map, take, get_or, Contains, refl, sym, ap, ◌∙◌, subst, arith}
use Rattle.std.specs.Prelude.{T}
use Rattle.std.specs.declared.cmp.Ordering.{Ordering}
use Rattle.std.specs.declared.cmp.Ordering.TheVariants.{Less, Equal, Greater}
use Rattle.std.specs.Ordering.{nat_cmp, is_lt, ordering_then}
use Rattle.std.specs.FinMap.{is_sorted, entries, entries_sorted, keys}
use Rattle.std.specs.FinMap.Entries.{below_all}
use Rattle.std.proofs.lemmas.List.Elements.{Contains-append_left, Contains-append_right, Contains-append_cases, Contains-get_or}
use Rattle.log_model.specs.declared.name.Name.{Name}
use Rattle.log_model.specs.declared.name.NameKind.{NameKind}
use Rattle.log_model.specs.declared.name.NameKind.TheVariants as kinds
use Rattle.log_model.specs.Files.{Files, name_cmp}
use Rattle.found_files.proofs.Ordered.{rank_cases}
use Rattle.found_files.proofs.Placing.{none_in, first_or_later, first_in, later_in}
use Rattle.wal_split.specs.Numbers.{log_number, logs_of}
use Rattle.wal_split.specs.Logs.{AreRising, log_name}

is_log : (k : NameKind) (n : ℕ) (m : ℕ) → Contains (log_number k n) m → (k ≡ kinds.Log) × (n ≡ m)
is_log kinds.Log n m has = elim (first_or_later n [] m has) as (λ _. (kinds.Log ≡ kinds.Log) × (n ≡ m)) [ inl is ↦ (refl, is) | inr none ↦ absurd (none_in m none) ]
is_log kinds.Old n m has = absurd (none_in m has)
is_log kinds.Store n m has = absurd (none_in m has)
is_log kinds.Edits n m has = absurd (none_in m has)

-- a number of theirs is a log's
pub log_of : (names : List Name) (n : ℕ) → Contains (logs_of names) n → (m : Name) × Contains names m × (m.kind ≡ kinds.Log) × (m.number ≡ n)
log_of [] n has = absurd (none_in n has)
log_of (m ∷ ms) n has = elim (Contains-append_cases (log_number m.kind m.number) (logs_of ms) n has) as (λ _. (k : Name) × Contains (m ∷ ms) k × (k.kind ≡ kinds.Log) × (k.number ≡ n)) [
  | inl here ↦ (let h = is_log m.kind m.number n here in (m, first_in m ms, h.0, h.1))
  | inr later ↦ (let r = log_of ms n later in (r.0, later_in m ms r.0 r.1, r.2, r.3))
]

-- and the number of each log is among them
pub has_log : (names : List Name) (m : Name) → Contains names m → m.kind ≡ kinds.Log → Contains (logs_of names) m.number
has_log [] m has log = absurd (none_in m has)
has_log (k ∷ ks) m has log = elim (first_or_later k ks m has) as (λ _. Contains (logs_of (k ∷ ks)) m.number) [
  | inl is ↦ Contains-append_left (log_number k.kind k.number) (logs_of ks) m.number (subst (λ (x : NameKind). Contains (log_number x k.number) m.number) (sym (ap (λ (x : Name). x.kind) is ∙ log)) (subst (λ (x : ℕ). Contains (k.number ∷ []) x) (ap (λ (x : Name). x.number) is) (first_in k.number [])))
  | inr later ↦ Contains-append_right (log_number k.kind k.number) (logs_of ks) m.number (has_log ks m later log)
]

-- each is above those before it
abbrev Rise : List ℕ → Type 0
Rise [] = Unit {0}
Rise (x ∷ xs) = ((y : ℕ) → Contains xs y → x < y) × Rise xs

rising : (xs : List ℕ) → Rise xs → AreRising xs
rising [] rise i n lt has = absurd (omega (arith, lt))
rising (x ∷ xs) rise zero n lt has = absurd (none_in n has)
rising (x ∷ xs) rise (suc i) n lt has = elim (first_or_later x (take i xs) n has) as (λ _. n < get_or xs i 0) [
  | inl is ↦ subst (λ (k : ℕ). k < get_or xs i 0) is (rise.0 (get_or xs i 0) (Contains-get_or xs i 0 (omega (arith, lt))))
  | inr later ↦ rising xs rise.1 i n (omega (arith, lt)) later
]

left_of : (a b : Bool) → T (a && b) → T a
left_of true b p = tt
left_of false b p = p

right_of : (a b : Bool) → T (a && b) → T b
right_of true b p = p
right_of false b p = absurd p

is_less : (o : Ordering) → T (is_lt o) → o ≡ Less
is_less Less p = refl
is_less Equal p = absurd p
is_less Greater p = absurd p

abbrev Pair : Type 0
Pair = Name × List ℕ

abbrev names_of : List Pair → List Name
names_of es = map (λ (e : Pair). e.0) es

below_each : (k : Name) (es : List Pair) → T (below_all name_cmp k es) → (m : Name) → Contains (names_of es) m → name_cmp k m ≡ Less
below_each k [] below m has = absurd (none_in m has)
below_each k (e ∷ es) below m has = elim (first_or_later e.0 (names_of es) m has) as (λ _. name_cmp k m ≡ Less) [
  | inl is ↦ subst (λ (n : Name). name_cmp k n ≡ Less) is (is_less (name_cmp k e.0) (left_of _ _ below))
  | inr later ↦ below_each k es (right_of _ _ below) m later
]

-- of two logs in order, the first has the lower number
lower : (k m : Name) → k ≡ log_name k.number → m ≡ log_name m.number → name_cmp k m ≡ Less → k.number < m.number
lower k m log_k log_m lt = elim (rank_cases k.number m.number) as (λ _. k.number < m.number) [
  | inl less ↦ less.0
  | inr (inl same) ↦ absurd (cc (sym same.1 ∙ at))
  | inr (inr more) ↦ absurd (cc (sym more.1 ∙ at))
]
  where
    plain : ordering_then (nat_cmp 0 0) (ordering_then (nat_cmp 0 0) (nat_cmp k.number m.number)) ≡ nat_cmp k.number m.number
    plain = refl

    at : nat_cmp k.number m.number ≡ Less
    at = sym (ap (λ (x : Name). name_cmp x m) log_k ∙ ap (λ (x : Name). name_cmp (log_name k.number) x) log_m ∙ plain) ∙ lt

-- one name more in front
risen : (e : Pair) (es : List Pair) → T (below_all name_cmp e.0 es) → ((m : Name) → Contains (names_of (e ∷ es)) m → m.kind ≡ kinds.Log → m ≡ log_name m.number) → Rise (logs_of (names_of es)) → Rise (logs_of (names_of (e ∷ es)))
risen e es below named rest = go e.0.kind refl
  where
    above : e.0.kind ≡ kinds.Log → (y : ℕ) → Contains (logs_of (names_of es)) y → e.0.number < y
    above log y has =
        let r = log_of (names_of es) y has in
        subst (λ (n : ℕ). e.0.number < n) r.3 (lower e.0 r.0 (named e.0 (first_in e.0 (names_of es)) log) (named r.0 (later_in e.0 (names_of es) r.0 r.1) r.2) (below_each e.0 es below r.0 r.1))

    go : (k : NameKind) → e.0.kind ≡ k → Rise (log_number k e.0.number ++ logs_of (names_of es))
    go kinds.Log is = (above is, rest)
    go kinds.Old is = rest
    go kinds.Store is = rest
    go kinds.Edits is = rest

rise_of : (es : List Pair) → T (is_sorted name_cmp es) → ((m : Name) → Contains (names_of es) m → m.kind ≡ kinds.Log → m ≡ log_name m.number) → Rise (logs_of (names_of es))
rise_of [] sorted named = tt
rise_of (e ∷ es) sorted named = risen e es (left_of _ _ sorted) named (rise_of es (right_of _ _ sorted) (λ m has. named m (later_in e.0 (names_of es) m has)))

pub logs_rise : (files : Files) → ((m : Name) → Contains (keys files) m → m.kind ≡ kinds.Log → m ≡ log_name m.number) → AreRising (logs_of (keys files))
logs_rise files named = rising (logs_of (keys files)) (rise_of (entries files) (entries_sorted files) named)
