-- One chain more is committed, or the device fails over it.
use Rattle.std.proofs.Common.{◌≡◌, inl, inr, ℕ, zero, suc, ◌+◌, ◌-◌, ◌^◌, ◌<◌, ◌≤◌, ◌==◌, Bool, true, false, List, [], ◌∷◌, ◌++◌, length, take, get_or, refl, sym, ap, ◌∙◌, subst, arith, length-append, le_refl}
use Rattle.std.specs.Prelude.{if◌then◌else◌, OnOk, OnErr, IsErr, Result, Ok, Err}
use Rattle.std.proofs.Math.Logic.{∥∥₁_map₂}
use Rattle.std.proofs.lemmas.List.{take_all}
use Rattle.std.proofs.lemmas.Bool.{cases_eq, cases_lt}
use Rattle.std.proofs.lemmas.Bool.Decides.{nat_tests}
use Rattle.log_berth.specs.Words.{NoMore}
use Rattle.log_halves.specs.Numbers.{told_numbers}
use Rattle.log_halves.proofs.Numbers.{told_synced, told_stored, told_closed, told_past}
use Rattle.log_model.specs.Entry.{Entry}
use Rattle.log_model.specs.Files.{Files}
use Rattle.recovery_laws.specs.Change.{RecoversSome}
use Rattle.recovery_laws.specs.Kept.{IsLike, IsOrderly}
use Rattle.recovery_laws.proofs.Likes.{like_recovers}
use Rattle.recovery_laws.proofs.Lasts.{like_lasts}
use Rattle.recovery_laws.proofs.Longer.{longer, from_base}
use Rattle.disk_images.specs.Crash.{DiskView, Throughout, Since}
use Rattle.disk_images.specs.Calls.{IsTrueDisk, Rose}
use Rattle.disk_images.proofs.Moments.{since_on, since_weaker, weaker, at_end}
use Rattle.append_ring.specs.Rules.{base_of, of}
use Rattle.log_trucks.specs.Held.{Held, AreHeld}
use Rattle.log_ledger.specs.History.{History, committed_in}
use Rattle.log_ledger.specs.Numbers.{Numbers, IsServed}
use Rattle.log_device.specs.declared.device.Device.{Device}
use Rattle.log_device.specs.Bears.{Bears}
use Rattle.log_device.specs.Leaves.{Leaves}
use Rattle.log_device.specs.Whole.{IsWhole, NoneFell, numbers_of}
use Rattle.log_halves.specs.Trucks.{AreSpelled, FollowOn, FollowFrom, onward, come_to}
use Rattle.log_halves.specs.Chains.{all_trucks, AreInOrder}
use Rattle.log_halves.specs.Commits.{all_staged_in, AreServed}
use Rattle.log_halves.specs.Halves.{BearsFew, Stands, Fell, RecoversHeld}
use Rattle.log_halves.proofs.Chains.{follow_back}
use Rattle.log_halves.proofs.ItemLaws.{all_with}
use Rattle.log_halves.proofs.Tied.{KeepsFew, stores_low, logs_up_to}

pub held_append : (xs ys : List Held) (ds es : List Entry) → AreHeld xs ds → AreHeld ys es → AreHeld (xs ++ ys) (ds ++ es)
held_append [] ys [] es f g = g
held_append [] ys (d ∷ ds) es f g = absurd f
held_append (x ∷ xs) ys [] es f g = absurd f
held_append (x ∷ xs) ys (d ∷ ds) es f g = (f.0, held_append xs ys ds es f.1 g)

-- trucks that are spelled have entries
pub spelled_entries : (ts : List Held) → AreSpelled ts → ∥ ((es : List Entry) × AreHeld ts es) ∥₁
spelled_entries [] s = ∣ ([], tt) ∣₁
spelled_entries (t ∷ ts) s = ∥∥₁_map₂ s.0 (spelled_entries ts s.1) (λ e es. (e.0 ∷ es.0, (record { region = sym e.1.region; number = sym e.1.number; bytes = e.1.bytes; entry = e.1.entry }, es.1)))

-- all chains are of region 1
pub of_all : (ls : List (List Held)) → of (λ (_ : List Held). 1) 1 ls ≡ ls
of_all [] = refl
of_all (l ∷ ls) = ap (λ (k : List (List Held)). l ∷ k) (of_all ls)

onward_at : (b : Bool) (n k m : ℕ) → k ≡ m → (if b then n else k) ≡ (if b then n else m)
onward_at true n k m same = refl
onward_at false n k m same = same

pub come_at : (f h : ℕ → ℕ) (ts : List Held) (r : ℕ) → f r ≡ h r → come_to f ts r ≡ come_to h ts r
come_at f h [] r same = same
come_at f h (t ∷ ts) r same = come_at (onward f t) (onward h t) ts r (onward_at (t.region == r) t.number (f r) (h r) same)

pub follow_within : (n : ℕ) (f h : ℕ → ℕ) (ts : List Held) → ((r : ℕ) → 0 < r → r ≤ n → f r ≡ h r) → FollowOn n f ts → FollowOn n h ts
follow_within n f h [] same follow = tt
follow_within n f h (t ∷ ts) same follow = (
  (follow.0.0, follow.0.1 ∙ ap (λ (k : ℕ). k + 1) (same t.region (omega (arith, follow.0.0.0)) follow.0.0.1)),
  follow_within n (onward f t) (onward h t) ts (λ r low high. onward_at (t.region == r) t.number (f r) (h r) (same r low high)) follow.1,
)

-- a chain that was popped goes on from those before
pub popped_follows : (lasts_then : List ℕ) (popped : List (List Held)) (chain : List Held) → AreInOrder lasts_then (of (λ (_ : List Held). 1) 1 (popped ++ chain ∷ []))
    → FollowOn (length lasts_then) (come_to (base_of lasts_then) (all_trucks popped)) chain
popped_follows lasts_then popped chain order =
    follow_back (length lasts_then) (base_of lasts_then) (all_trucks popped) chain
    (subst (FollowFrom lasts_then) (ap all_trucks (of_all (popped ++ chain ∷ [])) ∙ all_with popped chain) order)

pub follow_served : (b : Numbers) (n : ℕ) (f : ℕ → ℕ) (ts : List Held) → ((r : ℕ) → 0 < r → r ≤ n → IsServed b r) → FollowOn n f ts → AreServed b ts
follow_served b n f [] served follow = tt
follow_served b n f (t ∷ ts) served follow = (served t.region (omega (arith, follow.0.0.0)) follow.0.0.1, follow_served b n (onward f t) ts served follow.1)

-- the same history with more staged is like the same files
pub like_staged : (h : History) (es : List Entry) (F : Files) → IsLike h.kept F → IsLike (all_staged_in h es).kept F
like_staged h es F l = record { fit = l.fit; flushed = l.flushed; stored = l.stored; sure = l.sure; only = l.only; numbers = l.numbers }

module _ (found : Files) (first : List ℕ) (popped chain : List Held) (h : History) (es : List Entry) (held : AreHeld chain es) where
  all_more : AreHeld popped h.kept.durable → h.kept.staged ≡ [] → AreHeld (popped ++ chain) (h.kept.durable ++ (h.kept.staged ++ es))
  all_more all none = subst (λ (l : List Entry). AreHeld (popped ++ chain) (h.kept.durable ++ (l ++ es))) (sym none) (held_append popped chain h.kept.durable es all held)

  pub stands_more : {D : Type 0} (d e : Device D) (v w : DiskView) → Stands found first d v popped h → IsWhole e w (committed_in (all_staged_in h es)) → KeepsFew (numbers_of d) (numbers_of e) → Stands found first e w (popped ++ chain) (committed_in (all_staged_in h es))
  stands_more d e v w s whole kept = record {
    whole = whole;
    began = record { base = s.began.base; first = s.began.first };
    idle = refl;
    all = all_more s.all s.idle;
    none_may_go = s.none_may_go;
    few = λ n up. kept (n + 2 ^ 48) (s.few n up);
  }

  -- the names in each image
  bears_more : {D : Type 0} (d : Device D) (v w : DiskView) (s : Stands found first d v popped h) → Throughout (Bears h.kept.base (numbers_of d).next_store s.whole.file.name.number) 4 v w → BearsFew found w (all_staged_in h es)
  bears_more d v w s names = record {
    next_store = (numbers_of d).next_store;
    last = s.whole.file.name.number;
    names = λ J now.
        subst (λ (b : Files). Bears b (numbers_of d).next_store s.whole.file.name.number J) s.began.base
        (at_end (Bears h.kept.base (numbers_of d).next_store s.whole.file.name.number) 4 v w names J now);
    logs = λ n up.
        (let low = s.whole.keeps.few n (logs_up_to found first h n s.began up) in
        let was = length-append h.kept.durable h.kept.staged in
        let now = length-append h.kept.durable (h.kept.staged ++ es) in
        let more = length-append h.kept.staged es in
        omega (arith, low, was, now, more));
    stores = λ n up r. let low = stores_low (n + 2 ^ 48) (numbers_of d) h popped s.whole.counted s.idle s.all (s.few n up) r in omega (arith, low);
  }

  pub falls : {D : Type 0} (d e : Device D) (v w : DiskView) → IsTrueDisk v → (s : Stands found first d v popped h) → IsOrderly (all_staged_in h es).kept
      → ((r : ℕ) → 0 < r → r ≤ length first → IsServed (numbers_of d) r) → (numbers_of e).synced ≡ (numbers_of d).synced → (numbers_of e).stored ≡ (numbers_of d).stored → (numbers_of e).closed ≡ (numbers_of d).closed
      → Throughout (Leaves (numbers_of d).stored (numbers_of d).closed v.files es) 4 v w
      → Throughout (Bears h.kept.base (numbers_of d).next_store s.whole.file.name.number) 4 v w → Fell found first e w (popped ++ chain) (all_staged_in h es)
  falls d e v w sound s orderly served synced stored closed over names = record {
    files = v.files;
    like = like_staged h es v.files (s.whole.keeps.images v.files sound.reads).like;
    orderly = orderly;
    began = record { base = s.began.base; first = s.began.first };
    taken = length (popped ++ chain);
    within = le_refl (length (popped ++ chain));
    all = subst (λ (l : List Held). AreHeld l (h.kept.durable ++ (h.kept.staged ++ es))) (sym (take_all (length (popped ++ chain)) (popped ++ chain) (omega arith))) (all_more s.all s.idle);
    synced = λ r low high. let was = s.whole.counted.synced r (served r low high) in let now = ap (λ (l : List ℕ). get_or l r 0) synced in omega (arith, was, now);
    left = λ J now.
        subst (λ (p : List ℕ × List ℕ × List Entry). Leaves p.0 p.1 v.files p.2 J) (λ i. (sym stored i, sym closed i, ap (λ (l : List Entry). l ++ es) (sym s.idle) i))
        (at_end (Leaves (numbers_of d).stored (numbers_of d).closed v.files es) 4 v w over J now);
    names = bears_more d v w s names;
  }

  -- what recovered with a beginning of the popped ones does so with a beginning of more
  pub recovers_more : (J : Files) → RecoversHeld found popped J → RecoversHeld found (popped ++ chain) J
  recovers_more J r = record { entries = r.entries ++ es; held = held_append popped chain r.entries es r.held held; recovers = longer found r.entries es J r.recovers }

  recovers_now : {D : Type 0} (d : Device D) (v : DiskView) → IsTrueDisk v → Stands found first d v popped h → (J : Files) → Leaves (numbers_of d).stored (numbers_of d).closed v.files es J → RecoversHeld found (popped ++ chain) J
  recovers_now d v sound s J leaves = record {
    entries = h.kept.durable ++ es;
    held = held_append popped chain h.kept.durable es s.all held;
    recovers = subst (λ (b : Files). RecoversSome b (h.kept.durable ++ es) J) s.began.base
        (let like = (s.whole.keeps.images v.files sound.reads).like in from_base h.kept.base v.files h.kept.durable es J (like_recovers h.kept v.files like) (like_lasts h.kept v.files like s.whole.keeps.orderly) leaves.recovers);
  }

  pub since_more : {D : Type 0} (d : Device D) (v w : DiskView) (start : ℕ) → IsTrueDisk v → Stands found first d v popped h → Throughout (Leaves (numbers_of d).stored (numbers_of d).closed v.files es) 4 v w
      → Since start (RecoversHeld found popped) v → Since start (RecoversHeld found (popped ++ chain)) w
  since_more d v w start sound s over since =
      since_on start (RecoversHeld found (popped ++ chain)) 4 v w (since_weaker start (RecoversHeld found popped) (RecoversHeld found (popped ++ chain)) v recovers_more since)
      (weaker (Leaves (numbers_of d).stored (numbers_of d).closed v.files es) (RecoversHeld found (popped ++ chain)) 4 v w (recovers_now d v sound s) over)

take_front : (n : ℕ) (xs ys : List Held) → n ≤ length xs → take n (xs ++ ys) ≡ take n xs
take_front zero xs ys low = refl
take_front (suc n) [] ys low = absurd (omega (arith, low))
take_front (suc n) (x ∷ xs) ys low = ap (λ (l : List Held). x ∷ l) (take_front n xs ys (omega (arith, low)))

-- a chain more is popped of a broken log
pub fell_more : {D : Type 0} (found : Files) (first : List ℕ) (d : Device D) (disk : DiskView) (popped chain : List Held) (h : History) → Fell found first d disk popped h → Fell found first d disk (popped ++ chain) h
fell_more found first d disk popped chain h f = record {
  files = f.files;
  like = f.like;
  orderly = f.orderly;
  began = f.began;
  taken = f.taken;
  within = omega (arith, f.within, length-append popped chain);
  all = subst (λ (l : List Held). AreHeld l (h.kept.durable ++ h.kept.staged)) (sym (take_front f.taken popped chain f.within)) f.all;
  synced = f.synced;
  left = f.left;
  names = f.names;
}

pub rose_before : (first before now : ℕ) → first ≤ before → Rose before now → Rose first now
rose_before first before now le rose = omega (arith, le, rose)

-- ---- what a call answered

pub on_ok : {A E : Type 0} {P : Type 0} (r : Result A E) → OnOk r P → (IsErr r → ⊥) → P
on_ok (Ok a) p none = p
on_ok (Err e) p none = absurd (none refl)

pub on_err : {A E : Type 0} {P : Type 0} (r : Result A E) → OnErr r P → IsErr r → P
on_err (Ok a) p is = absurd (cc is)
on_err (Err e) p is = p

-- ---- numbers that rise

onward_later : (b : Bool) (n k : ℕ) → k ≤ n → k ≤ (if b then n else k)
onward_later true n k le = le
onward_later false n k le = omega arith

head_later : (last : ℕ → ℕ) (t : Held) (r : ℕ) → t.number ≡ last t.region + 1 → last r ≤ onward last t r
head_later last t r is = elim (cases_eq t.region r) as (λ _. last r ≤ onward last t r) [
  | inl here ↦ (let at : last t.region ≡ last r = ap last here in onward_later (t.region == r) t.number (last r) (omega (arith, is, at)))
  | inr other ↦ (let no : (t.region == r) ≡ false = grind (arith, nat_tests) in subst (λ (b : Bool). last r ≤ (if b then t.number else last r)) (sym no) (omega arith))
]

pub come_later : (n : ℕ) (last : ℕ → ℕ) (ts : List Held) (r : ℕ) → FollowOn n last ts → last r ≤ come_to last ts r
come_later n last [] r f = omega arith
come_later n last (t ∷ ts) r f = let first = head_later last t r f.0.1 in let rest = come_later n (onward last t) ts r f.1 in omega (arith, first, rest)

pub told_later : (n : ℕ) (a b : Numbers) → ((r : ℕ) → 0 < r → r ≤ n → get_or a.synced r 0 ≤ get_or b.synced r 0) → b.stored ≡ a.stored → b.closed ≡ a.closed → NoMore (told_numbers n a) (told_numbers n b)
told_later n a b synced stored closed i = elim (cases_lt i n) as (λ _. get_or (told_numbers n a) i 0 ≤ get_or (told_numbers n b) i 0) [
  | inl low ↦ omega (arith, told_synced n a i low, told_synced n b i low, synced (i + 1) (omega arith) (omega (arith, low)))
  | inr high ↦ omega (arith, same_behind n a b stored closed i (omega (arith, high)))
]
  where
    same_behind : (n : ℕ) (a b : Numbers) → b.stored ≡ a.stored → b.closed ≡ a.closed → (i : ℕ) → n ≤ i → get_or (told_numbers n a) i 0 ≡ get_or (told_numbers n b) i 0
    same_behind n a b stored closed i at = elim (cases_lt i (n + n)) as (λ _. get_or (told_numbers n a) i 0 ≡ get_or (told_numbers n b) i 0) [
      | inl low ↦ told_stored n a i at low ∙ (ap (λ (l : List ℕ). get_or l ((i - n) + 1) 0) (sym stored) ∙ sym (told_stored n b i at low))
      | inr high ↦ elim (cases_lt i ((n + n) + n)) as (λ _. get_or (told_numbers n a) i 0 ≡ get_or (told_numbers n b) i 0) [
        | inl low ↦ told_closed n a i (omega (arith, high)) low ∙ (ap (λ (l : List ℕ). get_or l (((i - n) - n) + 1) 0) (sym closed) ∙ sym (told_closed n b i (omega (arith, high)) low))
        | inr past ↦ told_past n a i (omega (arith, past)) ∙ sym (told_past n b i (omega (arith, past)))
      ]
    ]

-- where none of the numbers has fallen, none that is told has
pub told_none_fell : (n : ℕ) (a b : Numbers) → NoneFell a b → NoMore (told_numbers n a) (told_numbers n b)
told_none_fell n a b none i = elim (cases_lt i n) as (λ _. get_or (told_numbers n a) i 0 ≤ get_or (told_numbers n b) i 0) [
  | inl low ↦ omega (arith, told_synced n a i low, told_synced n b i low, none.synced (i + 1))
  | inr high ↦ elim (cases_lt i (n + n)) as (λ _. get_or (told_numbers n a) i 0 ≤ get_or (told_numbers n b) i 0) [
    | inl low ↦ omega (arith, told_stored n a i (omega (arith, high)) low, told_stored n b i (omega (arith, high)) low, none.stored ((i - n) + 1))
    | inr higher ↦ elim (cases_lt i ((n + n) + n)) as (λ _. get_or (told_numbers n a) i 0 ≤ get_or (told_numbers n b) i 0) [
      | inl low ↦ omega (arith, told_closed n a i (omega (arith, higher)) low, told_closed n b i (omega (arith, higher)) low, none.closed (((i - n) - n) + 1))
      | inr past ↦ omega (arith, told_past n a i (omega (arith, past)), told_past n b i (omega (arith, past)))
    ]
  ]
]
