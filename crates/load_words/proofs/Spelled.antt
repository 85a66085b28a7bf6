-- A text that its parser took is a number.
use Rattle.std.proofs.Common.{◌≡◌, ℕ, ◌<◌, ◌≤◌, ◌^◌, Option, Some, None, refl, subst}
use Rattle.std.specs.Prelude.{Ok, Err, Result}
use Rattle.std.specs.Str.Parse.{ParsesUnsigned}
use Rattle.clap.specs.Words.{Text, one_text, found_of, without_minus}
use Rattle.clap.specs.Matches.{ReadsOne}
use Rattle.clap.specs.declared.parser.matches.ArgMatches.{ArgMatches}
use Rattle.clap.proofs.CallerReads.{signed_reads}
use Rattle.load_words.specs.App.{any_number, up_to, IsNumberOf}
use Rattle.load_words.proofs.OptionReads.{Read}

-- what a read gave: a number, spelled by the text
abbrev pub IsRead : ArgMatches → Text → (low high : ℕ) → Option ℕ → Type 0
IsRead m name low high r = (n : ℕ) × (r ≡ Some n) × IsNumberOf m name n × (low ≤ n) × (n ≤ high)

-- of one to so many
pub bounded : (E : Type 0) (G : Text → Result ℕ E → Type 0) (m : ArgMatches) (name : Text) (most : ℕ) (r : Option ℕ) → ((u : Text) (x : Result ℕ E) → G u x → ParsesUnsigned 32 10 u x) → most < 2 ^ 32
    → Read m name (up_to most) → ((t : Text) → one_text (found_of m) name ≡ Some t → ReadsOne G t r) → IsRead m name 1 most r
bounded E G m name most r only fits read value =
    let t = read.1 in
    let one = value (without_minus t) read.2 in
    let got = signed_reads E G 32 1 most t r one only fits read.3 in
    let at : ReadsOne G (without_minus t) (Some got.0) = subst (ReadsOne G (without_minus t)) got.1 one in
    (got.0, got.1, (without_minus t, read.2, (only (without_minus t) (Ok got.0) at).1), got.2, got.3)

-- of any
pub unbounded : (E : Type 0) (G : Text → Result ℕ E → Type 0) (m : ArgMatches) (name : Text) (r : Option ℕ) → ((u : Text) (x : Result ℕ E) → G u x → ParsesUnsigned 64 10 u x)
    → Read m name any_number → ((t : Text) → one_text (found_of m) name ≡ Some t → ReadsOne G t r) → (n : ℕ) × (r ≡ Some n) × IsNumberOf m name n
unbounded E G m name r only read value = go r (value read.1 read.2)
  where
    go : (o : Option ℕ) → ReadsOne G read.1 o → (n : ℕ) × (o ≡ Some n) × IsNumberOf m name n
    go (Some v) h = (v, refl, (read.1, read.2, (only read.1 (Ok v) h).1))
    go None h = absurd (only read.1 (Err h.0) h.1 (read.3.0, read.3.1))

-- the number that was got
pub here : (m : ArgMatches) (name : Text) (low high : ℕ) (r : Option ℕ) (k : ℕ) → IsRead m name low high r → r ≡ Some k → IsNumberOf m name k × ((low ≤ k) × (k ≤ high))
here m name low high r k got is =
    let same : got.0 ≡ k = cc (got.1, is) in
    (subst (IsNumberOf m name) same got.2, (subst (λ n. low ≤ n) same got.3, subst (λ n. n ≤ high) same got.4))

pub here_unbounded : (m : ArgMatches) (name : Text) (r : Option ℕ) (k : ℕ) → ((n : ℕ) × (r ≡ Some n) × IsNumberOf m name n) → r ≡ Some k → IsNumberOf m name k
here_unbounded m name r k got is =
    let same : got.0 ≡ k = cc (got.1, is) in
    subst (IsNumberOf m name) same got.2
