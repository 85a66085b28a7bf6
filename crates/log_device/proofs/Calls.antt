-- What a crash leaves at a moment of a call, in the numbers' words.
use Rattle.std.proofs.Common.{◌≡◌, inl, inr, ℕ, ◌+◌, ◌<◌, ◌≤◌, List, [], ◌++◌, Contains, get_or, refl, sym, ap, ◌∙◌, arith}
use Rattle.std.proofs.lemmas.List.Elements.{Contains-append_left, Contains-append_right, Contains-append_cases}
use Rattle.log_model.specs.declared.name.Name.{Name}
use Rattle.log_model.specs.Entry.{Entry}
use Rattle.log_model.specs.Files.{Files}
use Rattle.disk_images.specs.Crash.{DiskView, Throughout}
use Rattle.disk_images.specs.Calls.{IsTrueDisk}
use Rattle.disk_images.proofs.Moments.{at_once, weaker}
use Rattle.recovery_laws.specs.Kept.{IsLike, committed, flushed_to, lasts}
use Rattle.log_model.specs.Recovered.{IsFor}
use Rattle.recovery_laws.proofs.Rising.{above_last}
use Rattle.recovery_laws.proofs.Lists.{none_in, flush_cases, flushed_here, flushed_there}
use Rattle.recovery_laws.proofs.Likes.{some_alike, flushed_alike, orderly_flushed}
use Rattle.log_file.specs.Open.{OpenLog}
use Rattle.log_ledger.specs.History.{History}
use Rattle.log_ledger.specs.Numbers.{Numbers}
use Rattle.log_ledger.specs.Counted.{IsCounted}
use Rattle.log_device.specs.Bears.{Bears}
use Rattle.log_device.specs.Keeps.{Keeps, Shows, Between, IsInOrder, log_name}
use Rattle.log_device.specs.Leaves.{Leaves}
use Rattle.log_device.proofs.Leaving.{AreGiven, AreFlushedTo, leaves, recovers_none, recovers_all, recovers_behind}

module _ (file : OpenLog) (v : DiskView) (h : History) (b : Numbers) (keeps : Keeps file v h b.next_store) (counted : IsCounted b h) (sound : IsTrueDisk v) where
  like : IsLike h.kept v.files
  like = (keeps.images v.files sound.reads).like

  abbrev pub Left : Files → Type 0
  Left J = Leaves b.stored b.closed v.files h.kept.staged J

  stored_low : AreFlushedTo b.stored h.kept
  stored_low = counted.stored

  -- what is staged is above what is told
  stored_behind : ((r : ℕ) → get_or b.stored r 0 ≤ lasts h.kept.first h.kept.durable r) → AreFlushedTo b.stored (committed h.kept)
  stored_behind told e f member of le = elim (Contains-append_cases h.kept.durable h.kept.staged e member) as (λ _. e.number ≤ h.kept.flushed e.region f) [
    | inl old ↦ counted.stored e f old of le
    | inr new ↦ absurd (omega (arith, above_last (lasts h.kept.first h.kept.durable) h.kept.staged e keeps.orderly.rising new, told e.region, le))
  ]

  given : AreGiven h.kept.staged
  given e has = counted.given e (Contains-append_right h.current h.kept.staged e has)

  newer : (e : Entry) → Contains h.current e → get_or b.closed e.region 0 < e.number
  newer e member = counted.newer e (Contains-append_left h.current h.kept.staged e member)

  before : (J : Files) → Shows h.kept file.name h.current J → Left J
  before J shows = leaves b.stored b.closed h.kept file.name h.current v.files h.kept.staged J keeps.kind keeps.region shows stored_low newer (recovers_none h.kept v.files J like shows.like keeps.orderly)

  -- where nothing is staged any more
  rested : (J : Files) → Shows h.kept file.name h.current J → Leaves b.stored b.closed v.files [] J
  rested J shows = leaves b.stored b.closed h.kept file.name h.current v.files [] J keeps.kind keeps.region shows stored_low newer (some_alike h.kept v.files J like shows.like keeps.orderly)

  pub commit_leaves : ((r : ℕ) → get_or b.stored r 0 ≤ lasts h.kept.first h.kept.durable r) → (w : DiskView) → Throughout (Between h.kept file.name h.current (committed h.kept) file.name (h.current ++ h.kept.staged)) 4 v w → Throughout Left 4 v w
  commit_leaves told w over = weaker (Between h.kept file.name h.current (committed h.kept) file.name (h.current ++ h.kept.staged)) Left 4 v w
      (λ J between. elim between as (λ _. Left J) [
        | inl was ↦ before J was
        | inr now ↦ leaves b.stored b.closed (committed h.kept) file.name (h.current ++ h.kept.staged) v.files h.kept.staged J keeps.kind keeps.region now (stored_behind told) counted.newer
            (recovers_all h.kept v.files J like keeps.orderly given now.like)
      ]) over

  -- after the commit
  pub leaves_behind : (w : DiskView) → IsLike (committed h.kept) w.files → (J : Files) → Leaves b.stored b.closed w.files [] J → Left J
  leaves_behind w now J left = record { recovers = recovers_behind h.kept v.files w.files J like keeps.orderly given now left.recovers; in_stores = left.in_stores; in_last_log = left.in_last_log }

  -- where nothing is done
  pub still_leaves : Throughout (Leaves b.stored b.closed v.files []) 0 v v
  still_leaves = at_once (Leaves b.stored b.closed v.files []) v (λ J now. rested J (keeps.images J now))

  -- a roll
  pub roll_leaves : (next by : ℕ) (w : DiskView) → Throughout (Between h.kept file.name h.current h.kept (log_name next) []) by v w → Throughout (Leaves b.stored b.closed v.files []) by v w
  roll_leaves next by w over = weaker (Between h.kept file.name h.current h.kept (log_name next) []) (Leaves b.stored b.closed v.files []) by v w
      (λ J between. elim between as (λ _. Leaves b.stored b.closed v.files [] J) [
        | inl was ↦ rested J was
        | inr now ↦ leaves b.stored b.closed h.kept (log_name next) [] v.files [] J refl refl now stored_low (λ e none. absurd (none_in e none)) (some_alike h.kept v.files J like now.like keeps.orderly)
      ]) over

  -- a flush
  pub flush_leaves : (r : ℕ) (family : List ℕ) (n by : ℕ) (w : DiskView) → ((f : List ℕ) → IsFor family f → h.kept.flushed r f ≤ n) → n ≤ lasts h.kept.first h.kept.durable r
      → Throughout (Between h.kept file.name h.current (flushed_to h.kept r family n) file.name h.current) by v w → Throughout (Leaves b.stored b.closed v.files []) by v w
  flush_leaves r family n by w more logged over = weaker (Between h.kept file.name h.current (flushed_to h.kept r family n) file.name h.current) (Leaves b.stored b.closed v.files []) by v w
      (λ J between. elim between as (λ _. Leaves b.stored b.closed v.files [] J) [
        | inl was ↦ rested J was
        | inr now ↦ leaves b.stored b.closed (flushed_to h.kept r family n) file.name h.current v.files [] J keeps.kind keeps.region now further newer
            (flushed_alike h.kept r family n v.files J like keeps.orderly now.like (orderly_flushed h.kept r family n keeps.orderly more logged))
      ]) over
    where
      raised : (q : ℕ) (f : List ℕ) → h.kept.flushed q f ≤ (flushed_to h.kept r family n).flushed q f
      raised q f = elim (flush_cases r family q f) as (λ _. h.kept.flushed q f ≤ (flushed_to h.kept r family n).flushed q f) [
        | inl hit ↦
            let here : (flushed_to h.kept r family n).flushed q f ≡ n = flushed_here h.kept r family n q f hit.0 hit.1 in
            let at : h.kept.flushed r f ≡ h.kept.flushed q f = ap (λ (x : ℕ). h.kept.flushed x f) hit.0 in
            omega (arith, here, at, more f hit.1)
        | inr other ↦
            let there : (flushed_to h.kept r family n).flushed q f ≡ h.kept.flushed q f = flushed_there h.kept r family n q f other in
            omega (arith, there)
      ]

      further : AreFlushedTo b.stored (flushed_to h.kept r family n)
      further e f member of le = omega (arith, counted.stored e f member of le, raised e.region f)

  -- an archived log: whatever is staged
  pub archive_leaves : (by : ℕ) (u w : DiskView) → Throughout (Shows h.kept file.name h.current) by u w → Throughout (Leaves b.stored b.closed v.files []) by u w
  archive_leaves by u w over = weaker (Shows h.kept file.name h.current) (Leaves b.stored b.closed v.files []) by u w rested over

-- the next file is in no image whose files bear names up to the current one's
pub none_next : (found : Files) (ns : List ℕ) (last : ℕ) (name : Name) (entries : List Entry) (J : Files) → Bears found ns last J → IsInOrder name (log_name (last + 1)) entries J
none_next found ns last name entries J bears bytes there more =
    let low = bears.logs (log_name (last + 1)) refl (λ none. absurd (cc (sym none ∙ there))) in
    absurd (omega (arith, low.1))
