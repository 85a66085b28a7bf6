-- What ties a device to the chains popped, over a call on a whole device.
use Rattle.std.proofs.Common.{◌≡◌, ◌⊎◌, ℕ, ◌+◌, ◌^◌, ◌<◌, ◌≤◌, List, [], ◌++◌, length, get_or, Some, refl, sym, ap, ◌∙◌, subst, arith, ⊎_elim, inl, inr, le_refl}
use Rattle.std.proofs.lemmas.Bool.{cases_lt}
use Rattle.std.proofs.lemmas.List.{append-nil, take_all}
use Rattle.log_model.specs.Entry.{Entry}
use Rattle.log_model.specs.Files.{Files, IsPresent}
use Rattle.recovery_laws.specs.Change.{RecoversSome}
use Rattle.recovery_laws.specs.Kept.{lasts}
use Rattle.recovery_laws.proofs.Likes.{like_recovers}
use Rattle.recovery_laws.proofs.Lasts.{like_lasts}
use Rattle.recovery_laws.proofs.Longer.{from_base}
use Rattle.disk_images.specs.Crash.{DiskView, Throughout, Since}
use Rattle.disk_images.specs.Calls.{IsTrueDisk}
use Rattle.disk_images.proofs.Moments.{elapses_on, since_on, weaker, at_end}
use Rattle.log_file.specs.Open.{OpenLog}
use Rattle.log_trucks.specs.Held.{Held, AreHeld}
use Rattle.log_ledger.specs.History.{ClosedLog, History, committed_in}
use Rattle.log_ledger.specs.Numbers.{Numbers, IsServed, AreStoresFew}
use Rattle.log_ledger.specs.Counted.{IsCounted, NoneMayGo, LogsLeft}
use Rattle.log_ledger.proofs.Few.{few_are_few}
use Rattle.log_device.specs.declared.device.Device.{Device}
use Rattle.log_device.specs.Bears.{Bears, IsLogsUpTo}
use Rattle.log_device.specs.Leaves.{Leaves}
use Rattle.log_device.specs.Whole.{IsWhole, IsBroken, log_of, numbers_of}
use Rattle.log_device.proofs.Bearing.{bears_on}
use Rattle.log_halves.specs.Halves.{BeganWith, AreNumbersUpTo, HasFewStores, BearsFew, Stands, Fell, RecoversHeld}
use Rattle.log_halves.specs.Ties.{KeepsTies}
use Rattle.log_halves.proofs.Bounds.{lasts_low}

-- where the stores' numbers were few they are so still
abbrev pub KeepsFew : Numbers → Numbers → Type 0
KeepsFew a b = (limit : ℕ) → AreStoresFew limit a → AreStoresFew limit b

-- the number of a region's next store is not far above those found
pub stores_low : (limit : ℕ) (b : Numbers) (h : History) (ts : List Held) → IsCounted b h → h.kept.staged ≡ [] → AreHeld ts h.kept.durable → AreStoresFew limit b → (r : ℕ) → get_or b.next_store r 0 ≤ limit + 1 + 2 ^ 58
stores_low limit b h ts counted idle all few r = elim (cases_lt 0 (get_or b.next_store r 0)) as (λ _. get_or b.next_store r 0 ≤ limit + 1 + 2 ^ 58) [
  | inl served ↦
      let drawn = counted.drawn r served in
      let none : lasts (lasts h.kept.first h.kept.durable) h.kept.staged r ≡ lasts h.kept.first h.kept.durable r = ap (λ (l : List Entry). lasts (lasts h.kept.first h.kept.durable) l r) idle in
      let low = lasts_low h.kept ts r counted.orderly all in
      let far = few_are_few limit b r few (omega (arith, drawn, none, low)) in
      omega (arith, far)
  | inr none ↦ omega (arith, none)
]

pub logs_up_to : (found : Files) (first : List ℕ) (h : History) (n : ℕ) → BeganWith found first h → AreNumbersUpTo n found → IsLogsUpTo n h.kept.base
logs_up_to found first h n began up name kind there = up name (subst (λ (b : Files). IsPresent b name) began.base there)

-- a whole device whose closed logs may be wholly flushed
pub record Tied {D : Type 0} (found : Files) (first : List ℕ) (d : Device D) (disk : DiskView) (popped : List Held) (h : History) : Type 0 where
  pub whole : IsWhole d disk h
  pub began : BeganWith found first h
  pub idle : h.kept.staged ≡ []
  pub all : AreHeld popped h.kept.durable
  pub few : HasFewStores found (numbers_of d)

module _ {D : Type 0} (found : Files) (first : List ℕ) (d : Device D) (disk : DiskView) (popped : List Held) (h : History) where
  pub tied_of : Stands found first d disk popped h → Tied found first d disk popped h
  tied_of s = record { whole = s.whole; began = s.began; idle = s.idle; all = s.all; few = s.few }

  pub stands_of : Tied found first d disk popped h → NoneMayGo h → Stands found first d disk popped h
  stands_of t none = record { whole = t.whole; began = t.began; idle = t.idle; all = t.all; none_may_go = none; few = t.few }

  -- the names in each image of a whole device
  pub bears_now : Stands found first d disk popped h → BearsFew found disk h
  bears_now s = record {
    next_store = (numbers_of d).next_store;
    last = s.whole.file.name.number;
    names = λ J now. subst (λ (b : Files). Bears b (numbers_of d).next_store s.whole.file.name.number J) s.began.base (s.whole.keeps.names J now);
    logs = λ n up. let low = s.whole.keeps.few n (logs_up_to found first h n s.began up) in omega (arith, low);
    stores = λ n up r. let low = stores_low (n + 2 ^ 48) (numbers_of d) h popped s.whole.counted s.idle s.all (s.few n up) r in omega (arith, low);
  }

-- the same entries are committed, besides those that were staged, and the store began alike
pub record GoesOn (h g : History) : Type 0 where
  pub base : g.kept.base ≡ h.kept.base
  pub first : (r : ℕ) → g.kept.first r ≡ h.kept.first r
  pub durable : g.kept.durable ≡ h.kept.durable ++ h.kept.staged
  pub staged : g.kept.staged ≡ []

module _ {D : Type 0} (found : Files) (first : List ℕ) (popped : List Held) (d e : Device D) (v w : DiskView) (h : History) (t : Tied found first d v popped h) where
  with_staged : AreHeld popped (h.kept.durable ++ h.kept.staged)
  with_staged = subst (λ (l : List Entry). AreHeld popped (h.kept.durable ++ l)) (sym t.idle) (subst (AreHeld popped) (sym (append-nil h.kept.durable)) t.all)

  pub tied_on : (g : History) → GoesOn h g → IsWhole e w g → KeepsFew (numbers_of d) (numbers_of e) → Tied found first e w popped g
  tied_on g on whole kept = record {
    whole = whole;
    began = record { base = on.base ∙ t.began.base; first = λ r low high. on.first r ∙ t.began.first r low high };
    idle = on.staged;
    all = subst (AreHeld popped) (sym on.durable) with_staged;
    few = λ n up. kept (n + 2 ^ 48) (t.few n up);
  }

  -- the names in each image that a call leaves
  bears_then : (n : ℕ) → Throughout (Bears h.kept.base (numbers_of d).next_store (t.whole.file.name.number + 1)) n v w → BearsFew found w h
  bears_then n names = record {
    next_store = (numbers_of d).next_store;
    last = t.whole.file.name.number + 1;
    names = λ J now.
        subst (λ (b : Files). Bears b (numbers_of d).next_store (t.whole.file.name.number + 1) J) t.began.base
        (at_end (Bears h.kept.base (numbers_of d).next_store (t.whole.file.name.number + 1)) n v w names J now);
    logs = λ m up. let low = t.whole.keeps.few m (logs_up_to found first h m t.began up) in omega (arith, low);
    stores = λ m up r. let low = stores_low (m + 2 ^ 48) (numbers_of d) h popped t.whole.counted t.idle t.all (t.few m up) r in omega (arith, low);
  }

  module _ (sound : IsTrueDisk v) (n : ℕ) (over : Throughout (Leaves (numbers_of d).stored (numbers_of d).closed v.files h.kept.staged) n v w) where
    pub tied_falls : ((r : ℕ) → 0 < r → r ≤ length first → IsServed (numbers_of d) r) → ((numbers_of e).synced ≡ (numbers_of d).synced) ⊎ ((numbers_of e).synced ≡ (numbers_of d).drawn) → (numbers_of e).stored ≡ (numbers_of d).stored
        → (numbers_of e).closed ≡ (numbers_of d).closed → (m : ℕ) → Throughout (Bears h.kept.base (numbers_of d).next_store (t.whole.file.name.number + 1)) m v w → Fell found first e w popped h
    tied_falls served synced stored closed m names = record {
      files = v.files;
      like = (t.whole.keeps.images v.files sound.reads).like;
      orderly = t.whole.keeps.orderly;
      began = t.began;
      taken = length popped;
      within = le_refl (length popped);
      all = subst (λ (l : List Held). AreHeld l (h.kept.durable ++ h.kept.staged)) (sym (take_all (length popped) popped (le_refl (length popped)))) with_staged;
      synced = λ r low high. ⊎_elim
          (λ (is : (numbers_of e).synced ≡ (numbers_of d).synced). let was = t.whole.counted.synced r (served r low high) in let now = ap (λ (l : List ℕ). get_or l r 0) is in omega (arith, was, now))
          (λ (is : (numbers_of e).synced ≡ (numbers_of d).drawn).
          let was = t.whole.counted.drawn r (served r low high) in
          let none : lasts (lasts h.kept.first h.kept.durable) h.kept.staged r ≡ lasts h.kept.first h.kept.durable r = ap (λ (l : List Entry). lasts (lasts h.kept.first h.kept.durable) l r) t.idle in
          let now = ap (λ (l : List ℕ). get_or l r 0) is in
          omega (arith, was, now, none))
          synced;
      left = λ J now.
          subst (λ (p : List ℕ × List ℕ). Leaves p.0 p.1 v.files h.kept.staged J) (λ i. (sym stored i, sym closed i))
          (at_end (Leaves (numbers_of d).stored (numbers_of d).closed v.files h.kept.staged) n v w over J now);
      names = bears_then m names;
    }

    recovers : (J : Files) → Leaves (numbers_of d).stored (numbers_of d).closed v.files h.kept.staged J → RecoversHeld found popped J
    recovers J leaves = record {
      entries = h.kept.durable ++ h.kept.staged;
      held = with_staged;
      recovers = subst (λ (b : Files). RecoversSome b (h.kept.durable ++ h.kept.staged) J) t.began.base
          (let like = (t.whole.keeps.images v.files sound.reads).like in from_base h.kept.base v.files h.kept.durable h.kept.staged J (like_recovers h.kept v.files like) (like_lasts h.kept v.files like t.whole.keeps.orderly) leaves.recovers);
    }

    pub tied_since : (start : ℕ) → Since start (RecoversHeld found popped) v → Since start (RecoversHeld found popped) w
    tied_since start since = since_on start (RecoversHeld found popped) n v w since (weaker (Leaves (numbers_of d).stored (numbers_of d).closed v.files h.kept.staged) (RecoversHeld found popped) n v w recovers over)

-- at each moment of a call each image recovers to the files as they read with the first of what was staged
abbrev pub EachMoment : {D : Type 0} → Device D → DiskView → DiskView → Type 0
EachMoment d v w = (h : History) → IsWhole d v h → (n : ℕ) × Throughout (Leaves (numbers_of d).stored (numbers_of d).closed v.files h.kept.staged) n v w

-- and its names go on from those found
abbrev pub EachNames : {D : Type 0} → Device D → DiskView → DiskView → Type 0
EachNames d v w = (h : History) (file : OpenLog) → IsWhole d v h → log_of d ≡ Some file → (n : ℕ) × Throughout (Bears h.kept.base (numbers_of d).next_store (file.name.number + 1)) n v w

-- the names of a call that begins no file
pub one_higher : (base : Files) (ns : List ℕ) (last n : ℕ) (v w : DiskView) → Throughout (Bears base ns last) n v w → Throughout (Bears base ns (last + 1)) n v w
one_higher base ns last n v w over = weaker (Bears base ns last) (Bears base ns (last + 1)) n v w (λ J names. bears_on base ns ns last (last + 1) J (omega arith) (λ r. omega arith) names) over

-- the numbers that are told of a device that a call broke
pub record BreaksAs {D : Type 0} (d e : Device D) : Type 0 where
  pub synced : ((numbers_of e).synced ≡ (numbers_of d).synced) ⊎ ((numbers_of e).synced ≡ (numbers_of d).drawn)
  pub stored : IsBroken e → (numbers_of e).stored ≡ (numbers_of d).stored
  pub closed : IsBroken e → (numbers_of e).closed ≡ (numbers_of d).closed

-- a call that commits what is staged and does nothing more, or breaks the device
pub ties_committed : {D : Type 0} (d e : Device D) (v w : DiskView) → IsTrueDisk v → EachMoment d v w → EachNames d v w → KeepsFew (numbers_of d) (numbers_of e) → ((h : History) → IsWhole d v h → (IsBroken e → ⊥) → IsWhole e w (committed_in h)) → BreaksAs d e → KeepsTies d e v w
unfolding tied_of
ties_committed d e v w sound each names few refused breaks = record {
  stands = λ base first popped h s whole. (
    committed_in h,
    stands_of base first e w popped (committed_in h)
        (tied_on base first popped d e v w h (tied_of base first d v popped h s) (committed_in h) record { base = refl; first = λ r. refl; durable = refl; staged = refl } (refused h s.whole whole) few) s.none_may_go,
  );
  fell = λ base first popped h s served broken. (
    h,
    (let m = each h s.whole in
        let k = names h s.whole.file s.whole s.whole.is in
        tied_falls base first popped d e v w h (tied_of base first d v popped h s) sound m.0 m.1 served breaks.synced (breaks.stored broken) (breaks.closed broken) k.0 k.1),
  );
  since = λ base first popped h start s since.
      (let m = each h s.whole in tied_since base first popped d e v w h (tied_of base first d v popped h s) sound m.0 m.1 start since);
  time = λ base first popped h s. (let m = each h s.whole in (m.0, m.1.time));
}

-- the numbers that are told stand
pub record TellsAlike {D : Type 0} (d e : Device D) : Type 0 where
  pub synced : (numbers_of e).synced ≡ (numbers_of d).synced
  pub stored : (numbers_of e).stored ≡ (numbers_of d).stored
  pub closed : (numbers_of e).closed ≡ (numbers_of d).closed
  pub few : KeepsFew (numbers_of d) (numbers_of e)

-- a call that goes on, and then the closed logs that are wholly flushed go
pub ties_archived : {D : Type 0} (d m e : Device D) (v u w : DiskView) → IsTrueDisk v → IsTrueDisk u → EachMoment d v u → ((h : History) → IsWhole d v h → (g : History) × IsWhole m u g × GoesOn h g)
    → ((r : ℕ) → IsServed (numbers_of d) r → IsServed (numbers_of m) r) → KeepsFew (numbers_of d) (numbers_of m)
    → ((g : History) → IsWhole m u g → Throughout (Leaves (numbers_of m).stored (numbers_of m).closed u.files []) (length g.logs) u w) → EachNames m u w
    → ((g : History) → IsWhole m u g → (IsBroken e → ⊥) → (left : List ClosedLog) × LogsLeft g left × IsWhole e w (record { kept = g.kept; logs = left; current = g.current })) → TellsAlike m e → KeepsTies d e v w
ties_archived d m e v u w sound sound_then each on served_on few moments names archived alike = record {
  stands = λ base first popped h s whole.
      (let n = next base first popped h s in
      let a = archived n.0 n.1.whole whole in
      let g : History = record { kept = n.0.kept; logs = a.0; current = n.0.current } in (
        g,
        stands_of base first e w popped g (tied_on base first popped m e u w n.0 n.1 g record { base = refl; first = λ r. refl; durable = sym (ap (λ (l : List Entry). n.0.kept.durable ++ l) n.1.idle ∙ append-nil n.0.kept.durable); staged = n.1.idle } a.2
            alike.few)
            (λ c has flushed. ((a.1 c).0 has).1 flushed),
      ));
  fell = λ base first popped h s served broken.
      (let n = next base first popped h s in
      let k = names n.0 n.1.whole.file n.1.whole n.1.whole.is in
      (n.0, tied_falls base first popped m e u w n.0 n.1 sound_then (length n.0.logs) (then n.0 n.1.whole n.1.idle) (λ r low high. served_on r (served r low high)) (inl alike.synced) alike.stored alike.closed k.0 k.1));
  since = λ base first popped h start s since.
      (let n = next base first popped h s in
      let first_part = each h s.whole in
      tied_since base first popped m e u w n.0 n.1 sound_then (length n.0.logs) (then n.0 n.1.whole n.1.idle) start
      (tied_since base first popped d m v u h (tied_of base first d v popped h s) sound first_part.0 first_part.1 start since));
  time = λ base first popped h s.
      (let n = next base first popped h s in
      let first_part = each h s.whole in
      let second_part = then n.0 n.1.whole n.1.idle in
      (first_part.0 + length n.0.logs, elapses_on first_part.0 (length n.0.logs) v u w first_part.1.time second_part.time));
}
  where
    next : (base : Files) (first : List ℕ) (popped : List Held) (h : History) → Stands base first d v popped h → (g : History) × Tied base first m u popped g
    next base first popped h s = let o = on h s.whole in (o.0, tied_on base first popped d m v u h (tied_of base first d v popped h s) o.0 o.2 o.1 few)

    then : (g : History) → IsWhole m u g → g.kept.staged ≡ [] → Throughout (Leaves (numbers_of m).stored (numbers_of m).closed u.files g.kept.staged) (length g.logs) u w
    then g whole idle = subst (λ (l : List Entry). Throughout (Leaves (numbers_of m).stored (numbers_of m).closed u.files l) (length g.logs) u w) (sym idle) (moments g whole)
