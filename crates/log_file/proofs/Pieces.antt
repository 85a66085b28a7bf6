-- Pieces of a file, one after the other, and what a feed of them says.
use Rattle.std.proofs.Common.{◌≡◌, ℕ, ◌+◌, ◌≤◌, List, ◌++◌, length, take, drop, Err, ◌∙◌, ap, min, subst, arith, length-append}
use Rattle.std.proofs.lemmas.List.{take_at, length-take}
use Rattle.log_model.specs.Entry.{Entry}
use Rattle.log_model.specs.LogText.{FileKey, IsDamaged}
use Rattle.entry_frame.specs.declared.phase.Phase.{Phase}
use Rattle.entry_frame.specs.declared.phase.Phase.TheVariants as phases
use Rattle.entry_frame.specs.declared.phase.FeedRefusal.{FeedRefusal}
use Rattle.entry_frame.specs.declared.phase.FeedRefusal.TheVariants as feed_refusals
use Rattle.entry_frame.specs.Feed.{Feeding, IsFed, Stands, IsOfPhase}
use Rattle.file_base.specs.declared.error.ReadRefusal.{ReadRefusal}
use Rattle.file_base.specs.declared.error.ReadRefusal.TheVariants as refusals
use Rattle.file_base.specs.Refusal.{read_refusal_of, IfDamaged}
use Rattle.file_base.proofs.Pieces.{next_taken}

pub read_behind : (given piece c : List ℕ) (m n : ℕ) → given ≡ take m c → piece ≡ take n (drop m c) → given ++ piece ≡ take (m + n) c
read_behind given piece c m n had read = ap (λ (l : List ℕ). l ++ piece) had ∙ ap (λ (l : List ℕ). take m c ++ l) read ∙ next_taken m n c

-- a damaged feed tells the file's damage
damaged_feed : (feed : Feeding) (given : List ℕ) (taken : List Entry) (at : ℕ) → IsFed feed given taken → feed.phase ≡ phases.Damaged at → (more : List ℕ) → IsDamaged feed.key (given ++ more) at
damaged_feed feed given taken at fed is = (subst (λ (p : Phase). Stands p feed.key feed.version feed.at feed.unread given taken) is fed.stands).1

pub refused : (T : Type 0) (feed : Feeding) (key : FileKey) (given : List ℕ) (taken : List Entry) (e : FeedRefusal) → feed.key ≡ key → IsFed feed given taken → IsOfPhase e feed.phase
    → IfDamaged {T = T} (Err (read_refusal_of e)) (λ at. (more : List ℕ) → IsDamaged key (given ++ more) at)
refused T feed key given taken feed_refusals.Memory same fed is = tt
refused T feed key given taken (feed_refusals.Damaged at) same fed is = λ more. subst (λ (k : FileKey). IsDamaged k (given ++ more) at) same (damaged_feed feed given taken at fed is more)

-- whatever follows, so also with what does follow
pub damaged_whole : (T U : Type 0) (r : ReadRefusal) (key now : FileKey) (given more whole : List ℕ) → key ≡ now → given ++ more ≡ whole
    → IfDamaged {T = T} (Err r) (λ at. (rest : List ℕ) → IsDamaged key (given ++ rest) at) → IfDamaged {T = U} (Err r) (λ at. IsDamaged now whole at)
damaged_whole T U refusals.Memory key now given more whole same is damaged = tt
damaged_whole T U refusals.DiskFault key now given more whole same is damaged = tt
damaged_whole T U (refusals.Damaged at) key now given more whole same is damaged =
    subst (λ (k : FileKey). IsDamaged k whole at) same (subst (λ (b : List ℕ). IsDamaged key b at) is (damaged more))

-- the first bytes of a slice into which a piece was read are that piece
pub first_read : (new piece old : List ℕ) (n left room : ℕ) → new ≡ take n piece ++ old → n ≡ min room left → left ≡ length piece → take n new ≡ take n piece
first_read new piece old n left room is count size =
    ap (take n) is ∙ take_at (take n piece) old n (length-take n piece ∙ omega (arith, count, size))

-- how many bytes are read after so many
pub more_read : (given piece : List ℕ) (at n : ℕ) → length given ≡ at → n ≤ length piece → length (given ++ take n piece) ≡ at + n
more_read given piece at n so_far le = omega (arith, length-append given (take n piece), length-take n piece, so_far, le)
