-- Images that are like what is kept leave what a call may leave.
use Rattle.std.proofs.Common.{◌≡◌, ◌⊎◌, inl, inr, ℕ, ◌<◌, ◌≤◌, List, [], ◌++◌, Contains, get_or, sym, ap, ◌∙◌, subst, arith}
use Rattle.std.proofs.lemmas.List.{append-nil}
use Rattle.std.proofs.lemmas.List.Elements.{Contains-append_left, Contains-append_right, Contains-append_cases}
use Rattle.cell_model.specs.Order.{VersionKey, Payload}
use Rattle.log_model.specs.declared.name.Name.{Name}
use Rattle.log_model.specs.declared.name.NameKind.TheVariants as kinds
use Rattle.log_model.specs.Entry.{Entry}
use Rattle.log_model.specs.Files.{Files}
use Rattle.log_model.specs.Recovered.{HasFamily, IsRecovered, IsStored, IsLast, FlushesTo}
use Rattle.recovery_laws.specs.Change.{PutBy, RecoversWith, RecoversSome}
use Rattle.recovery_laws.specs.Kept.{Kept, IsLike, IsOrderly, committed, lasts}
use Rattle.recovery_laws.proofs.Rising.{lasts-append}
use Rattle.recovery_laws.proofs.Lasts.{like_last, lasts_with}
use Rattle.recovery_laws.proofs.Likes.{like_recovers, some_alike, orderly_committed}
use Rattle.recovery_laws.proofs.Longer.{longer, from_base}
use Rattle.recovery_laws.proofs.Contents.{puts_family, puts_number}
use Rattle.recovery_laws.proofs.Numbers.{stored_to}
use Rattle.recovery_laws.proofs.Started.{last_log}
use Rattle.log_device.specs.Keeps.{Shows}
use Rattle.log_device.specs.Leaves.{Leaves}

-- each of these entries has a cell
abbrev pub AreGiven : List Entry → Type 0
AreGiven es = (e : Entry) → Contains es e → (f : List ℕ) × HasFamily e f

-- the same with all that was staged, and flushed up to these numbers
abbrev pub gone_on : Kept → (ℕ → List ℕ → ℕ) → Kept
gone_on k flushed = record { base = k.base; first = k.first; durable = k.durable ++ k.staged; staged = []; flushed = flushed }

pub recovers_none : (k : Kept) (F J : Files) → IsLike k F → IsLike k J → IsOrderly k → RecoversSome F k.staged J
recovers_none k F J f j orderly = longer F [] k.staged J (some_alike k F J f j orderly)

with_all : (k : Kept) (flushed : ℕ → List ℕ → ℕ) (F J : Files) → IsLike k F → IsLike (gone_on k flushed) J → RecoversWith F k.staged J
with_all k flushed F J f j r v p = (forth, back)
  where
    forth : IsRecovered J r v p → IsRecovered F r v p ⊎ PutBy k.staged r v p
    forth h = elim ((like_recovers (gone_on k flushed) J j r v p).0 h) as (λ _. IsRecovered F r v p ⊎ PutBy k.staged r v p) [
      | inl base ↦ inl ((like_recovers k F f r v p).1 (inl base))
      | inr put ↦ elim (Contains-append_cases k.durable k.staged put.0 put.1) as (λ _. IsRecovered F r v p ⊎ PutBy k.staged r v p) [
        | inl old ↦ inl ((like_recovers k F f r v p).1 (inr (put.0, old, put.2, put.3)))
        | inr new ↦ inr (put.0, new, put.2, put.3)
      ]
    ]

    back : IsRecovered F r v p ⊎ PutBy k.staged r v p → IsRecovered J r v p
    back (inl h) = elim ((like_recovers k F f r v p).0 h) as (λ _. IsRecovered J r v p) [
      | inl base ↦ (like_recovers (gone_on k flushed) J j r v p).1 (inl base)
      | inr put ↦ (like_recovers (gone_on k flushed) J j r v p).1 (inr (put.0, Contains-append_left k.durable k.staged put.0 put.1, put.2, put.3))
    ]
    back (inr put) = (like_recovers (gone_on k flushed) J j r v p).1 (inr (put.0, Contains-append_right k.durable k.staged put.0 put.1, put.2, put.3))

-- where all that was staged is in some files, what recovers to them recovers to the files before with what was staged
pub recovers_behind : (k : Kept) (F W J : Files) → IsLike k F → IsOrderly k → AreGiven k.staged → IsLike (committed k) W → RecoversSome W [] J → RecoversSome F k.staged J
recovers_behind k F W J f orderly given w some =
    let last : (r : ℕ) → IsLast W r (lasts (lasts k.first k.durable) k.staged r) = λ r. subst (λ (n : ℕ). IsLast W r n) (lasts-append k.first k.durable k.staged r) (like_last (committed k) W w (orderly_committed k orderly given) r) in
    subst (λ (l : List Entry). RecoversSome F l J) (append-nil k.staged)
    (from_base F W k.staged [] J (with_all k k.flushed F W f w) (lasts_with F W k.staged (lasts k.first k.durable) (like_last k F f orderly) last) some)

pub recovers_all : (k : Kept) (F J : Files) → IsLike k F → IsOrderly k → AreGiven k.staged → IsLike (committed k) J → RecoversSome F k.staged J
recovers_all k F J f orderly given j = recovers_behind k F J J f orderly given j (some_alike (committed k) J J j j (orderly_committed k orderly given))

-- each cell of a durable entry up to its region's number is flushed
abbrev pub AreFlushedTo : List ℕ → Kept → Type 0
AreFlushedTo stored k = (e : Entry) (f : List ℕ) → Contains k.durable e → HasFamily e f → e.number ≤ get_or stored e.region 0 → e.number ≤ k.flushed e.region f

-- so what recovers up to it is in stores
stored_up_to : (stored : List ℕ) (k : Kept) (J : Files) → IsLike k J → AreFlushedTo stored k → (r : ℕ) (v : VersionKey) (p : Payload) → IsRecovered J r v p → v.number ≤ get_or stored r 0 → IsStored J r v p
stored_up_to stored k J like low r v p (inl is) le = is
stored_up_to stored k J like low r v p (inr u) le =
    let of = puts_family u.entry v p u.puts in
    let number : v.number ≡ u.entry.number = puts_number u.entry v p u.puts in
    let upto : get_or stored u.entry.region 0 ≡ get_or stored r 0 = ap (λ (q : ℕ). get_or stored q 0) u.region in
    let at : k.flushed u.entry.region v.key.family ≡ k.flushed r v.key.family = ap (λ (q : ℕ). k.flushed q v.key.family) u.region in
    let member = like.only u.entry v.key.family u.logged of (λ n f. u.above n (subst (λ (q : ℕ). FlushesTo J q v.key.family n) u.region f)) in
    stored_to k J like r v.number v p (omega (arith, number, at, low u.entry v.key.family member of (omega (arith, number, le, upto)))) (inr u) (omega arith)

-- the numbers say the truth of an image that is like what is kept
pub leaves : (stored closed : List ℕ) (k : Kept) (log : Name) (current : List Entry) (F : Files) (staged : List Entry) (J : Files) → log.kind ≡ kinds.Log → log.region ≡ 0 → Shows k log current J
    → AreFlushedTo stored k → ((e : Entry) → Contains current e → get_or closed e.region 0 < e.number) → RecoversSome F staged J → Leaves stored closed F staged J
leaves stored closed k log current F staged J kind region shows low newer some = record {
  recovers = some;
  in_stores = stored_up_to stored k J shows.like low;
  in_last_log = λ name es e is file member.
      last_log (λ x. get_or closed x.region 0 < x.number) J log current shows.ended kind shows.text (λ m m_kind there. let up = shows.up_to m m_kind there in (up.0 ∙ sym region, up.1)) newer name es is file e member;
}
