-- Each of the four options has a text that its parser takes.
use Rattle.std.proofs.Common.{◌≡◌, ◌⊎◌, ℕ, zero, suc, ◌<◌, ◌≤◌, Bool, true, false, List, [], ◌∷◌, length, Some, slice_index_or, slice_index, refl, sym, ap, ◌∙◌, subst, inl, inr, arith, true≢false, codes}
use Rattle.std.specs.Str.{bytes_eq}
use Rattle.clap.specs.Words.{Text, one_text, found_of, read_as, reading_of, Accepts, IsPlain, IsParsedFrom}
use Rattle.clap.specs.Facts.{args_of, least_values}
use Rattle.clap.specs.declared.builder.arg.Arg.{Arg}
use Rattle.clap.specs.declared.builder.command.Command.{Command}
use Rattle.clap.specs.declared.builder.command.Command.TheViews.{out-Command}
use Rattle.clap.specs.declared.builder.value_parser.ValueParser.{ValueParser}
use Rattle.clap.specs.declared.parser.matches.ArgMatches.{ArgMatches}
use Rattle.clap.proofs.CallerReads.{required_reads}
use Rattle.load_words.specs.App.{any_number, up_to, IsGiven, IsLoad}

abbrev pub Read : ArgMatches → Text → ValueParser → Type 0
Read m name q = (ignore_case : Bool) × (t : Text) × (one_text (found_of m) name ≡ Some (read_as (reading_of q) t)) × Accepts ignore_case q t

-- the option at a place
read_at : (c : Command) (m : ArgMatches) → IsParsedFrom c m → IsPlain c → (out-Command c).has_globals ≡ false → (out-Command c).subcommand_negates_reqs ≡ false
    → (k : ℕ) (a : Arg) (name : Text) (q : ValueParser) → k < length (args_of c) → slice_index_or (args_of c) k a ≡ a → IsGiven name q a
    → ((j : ℕ) (e : Arg) → j < length (args_of c) → bytes_eq (slice_index_or (args_of c) j e).id.now name ≡ true → j ≡ k)
    → (name ≡ [] → ⊥) → ((name ≡ codes "help") ⊎ (name ≡ codes "version") → ⊥) → Read m name q
read_at c m p plain globals negates k a name q low at g unique named own =
    let x = slice_index_or (args_of c) k a in
    let id : x.id.now ≡ name = ap (λ (y : Arg). y.id.now) at ∙ g.id in
    let got = required_reads c m p plain globals negates k a low (ap (λ (y : Arg). y.required) at ∙ g.required) (ap (λ (y : Arg). y.action) at ∙ g.set) (ap (λ (y : Arg). y.val_delim) at ∙ g.delimiter)
    (subst (λ (y : Arg). 1 ≤ least_values y) (sym at) g.least)
    (λ j e less same. unique j e less (subst (λ (t : Text). bytes_eq (slice_index_or (args_of c) j e).id.now t ≡ true) id same))
    (λ none. named (sym id ∙ none))
    (λ auto. own (elim auto [ inl h ↦ inl (sym id ∙ h) | inr h ↦ inr (sym id ∙ h) ]))
    q (ap (λ (y : Arg). y.value_parser) at ∙ g.parser_is) in
    (x.ignore_case, got.0, subst (λ (t : Text). one_text (found_of m) t ≡ Some (read_as (reading_of q) got.0)) id got.1, got.2)

-- texts that are the same have the same bytes
byte_is : {t u : Text} (i : ℕ) → t ≡ u → slice_index t i ≡ slice_index u i
byte_is i same = ap (λ v. slice_index v i) same

apart : {X : Type 0} (t mine other : Text) → t ≡ other → bytes_eq other mine ≡ false → bytes_eq t mine ≡ true → X
apart t mine other is differ same = absurd (true≢false (sym same ∙ ap (λ u. bytes_eq u mine) is ∙ differ))

-- the names of the four, and that each stands once
module _ (s h r n : Arg) (s_is : s.id.now ≡ codes "start") (h_is : h.id.now ≡ codes "handlers") (r_is : r.id.now ≡ codes "regions") (n_is : n.id.now ≡ codes "count") where
  once_0 : (j : ℕ) (e : Arg) → j < 4 → bytes_eq (slice_index_or (s ∷ h ∷ r ∷ n ∷ []) j e).id.now (codes "start") ≡ true → j ≡ 0
  once_0 zero e low is = refl
  once_0 (suc zero) e low is = apart h.id.now _ _ h_is refl is
  once_0 (suc (suc zero)) e low is = apart r.id.now _ _ r_is refl is
  once_0 (suc (suc (suc zero))) e low is = apart n.id.now _ _ n_is refl is
  once_0 (suc (suc (suc (suc j)))) e low is = absurd (omega (arith, low))

  once_1 : (j : ℕ) (e : Arg) → j < 4 → bytes_eq (slice_index_or (s ∷ h ∷ r ∷ n ∷ []) j e).id.now (codes "handlers") ≡ true → j ≡ 1
  once_1 zero e low is = apart s.id.now _ _ s_is refl is
  once_1 (suc zero) e low is = refl
  once_1 (suc (suc zero)) e low is = apart r.id.now _ _ r_is refl is
  once_1 (suc (suc (suc zero))) e low is = apart n.id.now _ _ n_is refl is
  once_1 (suc (suc (suc (suc j)))) e low is = absurd (omega (arith, low))

  once_2 : (j : ℕ) (e : Arg) → j < 4 → bytes_eq (slice_index_or (s ∷ h ∷ r ∷ n ∷ []) j e).id.now (codes "regions") ≡ true → j ≡ 2
  once_2 zero e low is = apart s.id.now _ _ s_is refl is
  once_2 (suc zero) e low is = apart h.id.now _ _ h_is refl is
  once_2 (suc (suc zero)) e low is = refl
  once_2 (suc (suc (suc zero))) e low is = apart n.id.now _ _ n_is refl is
  once_2 (suc (suc (suc (suc j)))) e low is = absurd (omega (arith, low))

  once_3 : (j : ℕ) (e : Arg) → j < 4 → bytes_eq (slice_index_or (s ∷ h ∷ r ∷ n ∷ []) j e).id.now (codes "count") ≡ true → j ≡ 3
  once_3 zero e low is = apart s.id.now _ _ s_is refl is
  once_3 (suc zero) e low is = apart h.id.now _ _ h_is refl is
  once_3 (suc (suc zero)) e low is = apart r.id.now _ _ r_is refl is
  once_3 (suc (suc (suc zero))) e low is = refl
  once_3 (suc (suc (suc (suc j)))) e low is = absurd (omega (arith, low))

-- the same of the list that the command has
on_list : (xs ys : List Arg) (name : Text) (k : ℕ) → xs ≡ ys → ((j : ℕ) (e : Arg) → j < length ys → bytes_eq (slice_index_or ys j e).id.now name ≡ true → j ≡ k)
    → (j : ℕ) (e : Arg) → j < length xs → bytes_eq (slice_index_or xs j e).id.now name ≡ true → j ≡ k
on_list xs ys name k same once = subst (λ l. (j : ℕ) (e : Arg) → j < length l → bytes_eq (slice_index_or l j e).id.now name ≡ true → j ≡ k) (sym same) once

pub read_start : (m : ArgMatches) → IsLoad m → Read m (codes "start") any_number
read_start m l =
    let o = l.1 in
    read_at l.0 m l.2 o.plain o.globals o.negates 0 o.start (codes "start") any_number (subst (λ xs. 0 < length xs) (sym o.args) (omega arith)) (ap (λ xs. slice_index_or xs 0 o.start) o.args) o.is_start
    (on_list _ _ (codes "start") 0 o.args (once_0 o.start o.handlers o.regions o.count o.is_start.id o.is_handlers.id o.is_regions.id o.is_count.id)) (λ e. let bad : 115 ≡ 0 = byte_is 0 e in absurd (omega arith)) (λ auto. elim auto [ inl e ↦ (let bad : 115 ≡ 104 = byte_is 0 e in absurd (omega arith)) | inr e ↦ (let bad : 115 ≡ 118 = byte_is 0 e in absurd (omega arith)) ])

pub read_handlers : (m : ArgMatches) → IsLoad m → Read m (codes "handlers") (up_to 16)
read_handlers m l =
    let o = l.1 in
    read_at l.0 m l.2 o.plain o.globals o.negates 1 o.handlers (codes "handlers") (up_to 16) (subst (λ xs. 1 < length xs) (sym o.args) (omega arith)) (ap (λ xs. slice_index_or xs 1 o.handlers) o.args) o.is_handlers
    (on_list _ _ (codes "handlers") 1 o.args (once_1 o.start o.handlers o.regions o.count o.is_start.id o.is_handlers.id o.is_regions.id o.is_count.id)) (λ e. let bad : 104 ≡ 0 = byte_is 0 e in absurd (omega arith)) (λ auto. elim auto [ inl e ↦ (let bad : 97 ≡ 101 = byte_is 1 e in absurd (omega arith)) | inr e ↦ (let bad : 97 ≡ 101 = byte_is 1 e in absurd (omega arith)) ])

pub read_regions : (m : ArgMatches) → IsLoad m → Read m (codes "regions") (up_to 64)
read_regions m l =
    let o = l.1 in
    read_at l.0 m l.2 o.plain o.globals o.negates 2 o.regions (codes "regions") (up_to 64) (subst (λ xs. 2 < length xs) (sym o.args) (omega arith)) (ap (λ xs. slice_index_or xs 2 o.regions) o.args) o.is_regions
    (on_list _ _ (codes "regions") 2 o.args (once_2 o.start o.handlers o.regions o.count o.is_start.id o.is_handlers.id o.is_regions.id o.is_count.id)) (λ e. let bad : 114 ≡ 0 = byte_is 0 e in absurd (omega arith)) (λ auto. elim auto [ inl e ↦ (let bad : 114 ≡ 104 = byte_is 0 e in absurd (omega arith)) | inr e ↦ (let bad : 114 ≡ 118 = byte_is 0 e in absurd (omega arith)) ])

pub read_count : (m : ArgMatches) → IsLoad m → Read m (codes "count") (up_to 10000)
read_count m l =
    let o = l.1 in
    read_at l.0 m l.2 o.plain o.globals o.negates 3 o.count (codes "count") (up_to 10000) (subst (λ xs. 3 < length xs) (sym o.args) (omega arith)) (ap (λ xs. slice_index_or xs 3 o.count) o.args) o.is_count
    (on_list _ _ (codes "count") 3 o.args (once_3 o.start o.handlers o.regions o.count o.is_start.id o.is_handlers.id o.is_regions.id o.is_count.id)) (λ e. let bad : 99 ≡ 0 = byte_is 0 e in absurd (omega arith)) (λ auto. elim auto [ inl e ↦ (let bad : 99 ≡ 104 = byte_is 0 e in absurd (omega arith)) | inr e ↦ (let bad : 99 ≡ 118 = byte_is 0 e in absurd (omega arith)) ])
