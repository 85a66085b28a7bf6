-- What the files hold besides, once a service is closed.
use Rattle.std.proofs.Common.{◌≡◌, ◌⊎◌, inl, inr, ℕ, zero, suc, ◌+◌, ◌^◌, ◌<◌, ◌≤◌, Bool, true, false, true≢false, List, [], ◌∷◌, ◌++◌, length, take, drop, Contains, Some, refl, sym, ap, ◌∙◌, subst, arith, take-append-drop}
use Rattle.std.specs.Prelude.{◌↔◌}
use Rattle.std.proofs.Math.Logic.{∥∥₁_map, ∥∥₁_map₂}
use Rattle.std.proofs.lemmas.Bool.{cases_lt}
use Rattle.std.proofs.lemmas.List.{append-nil}
use Rattle.std.proofs.lemmas.List.Elements.{Contains-append_left, Contains-append_right, Contains-append_cases}
use Rattle.log_model.specs.declared.name.Name.{Name}
use Rattle.log_model.specs.declared.name.NameKind.TheVariants as kinds
use Rattle.cell_model.specs.Cell.{Cell}
use Rattle.log_model.specs.Entry.{Entry}
use Rattle.log_model.specs.Files.{Files, content, IsFit, IsSound, IsPresent, IsLogFile, IsLastLog}
use Rattle.log_model.specs.Recovered.{IsRecovered, IsLast, IsFlushed, HasFamily, IsWhollyFlushed, RecoversAlike}
use Rattle.recovery_laws.specs.Change.{RecoversWith, LastsWith, last_of}
use Rattle.recovery_laws.specs.Kept.{IsOrderly}
use Rattle.recovery_laws.proofs.Lists.{none_in, first_or_later, is_first, is_later}
use Rattle.recovery_laws.proofs.Logs.{one_list}
use Rattle.recovery_laws.proofs.Rising.{last_is, last_of-append}
use Rattle.recovery_laws.proofs.Numbers.{one_last}
use Rattle.recovery_laws.proofs.Likes.{like_recovers, with_both}
use Rattle.recovery_laws.proofs.Lasts.{like_lasts}
use Rattle.disk_images.specs.Crash.{DiskView, IsImageNow, Since}
use Rattle.disk_images.proofs.Moments.{since_weaker}
use Rattle.disk_images.specs.Calls.{IsTrueDisk}
use Rattle.log_file.proofs.Committed.{ended_has}
use Rattle.append_ring.specs.Rules.{base_of}
use Rattle.log_trucks.specs.Held.{Held, AreHeld}
use Rattle.log_ledger.specs.History.{History, ClosedLog}
use Rattle.log_device.specs.declared.device.Device.{Device}
use Rattle.log_device.specs.Keeps.{log_name}
use Rattle.log_device.specs.Whole.{IsBroken}
use Rattle.log_device.proofs.Bearing.{sound_by}
use Rattle.log_halves.specs.Trucks.{FollowFrom}
use Rattle.log_halves.specs.Order.{follow_front}
use Rattle.log_halves.specs.Halves.{BeganWith, AreNumbersUpTo, BearsFew, Stands, Fell, RecoversHeld}
use Rattle.log_service.specs.Closed.{LeavesFiles}
use Rattle.log_halves.specs.Moments.{OthersSince}
use Rattle.log_halves.proofs.Bounds.{last_low, held_entry, held_few, left_most}
use Rattle.log_halves.proofs.Tied.{bears_now}

-- files that recover with entries of other regions recover alike
alike_with : (found J : Files) (more : List Entry) (r last : ℕ) → IsFit J → RecoversWith found more J → LastsWith found more J → IsLast found r last → ((e : Entry) → Contains more e → e.region ≡ r → ⊥) → RecoversAlike found J r
alike_with found J more r last fit recovers lasts_too was none = record {
  fit = fit;
  content = λ v p. (λ h. (recovers r v p).1 (inl h), λ h. elim ((recovers r v p).0 h) as (λ _. IsRecovered found r v p) [ inl old ↦ old | inr put ↦ absurd (none put.0 put.1 put.2) ]);
  last = λ n. (
    λ is. subst (IsLast J r) (still n) (lasts_too r n is),
    λ is. subst (IsLast found r) (one_last J r last n (subst (IsLast J r) (still last) (lasts_too r last was)) is) was,
  );
}
  where
    still : (n : ℕ) → last_of r n more ≡ n
    still n = elim (last_is r n more) as (λ _. last_of r n more ≡ n) [ inl e ↦ absurd (none e.0 e.1 e.2) | inr same ↦ same ]

all_low : (flushed : List ℕ → ℕ) (n : ℕ) (x : Cell) (xs : List Cell) → n ≤ flushed x.family → ((c : Cell) → Contains xs c → n ≤ flushed c.family) → (c : Cell) → Contains (x ∷ xs) c → n ≤ flushed c.family
all_low flushed n x xs first rest c (zero, lt, is) = subst (λ (d : Cell). n ≤ flushed d.family) is first
all_low flushed n x xs first rest c (suc k, lt, is) = rest c (k, omega (arith, lt), is)

-- one of these cells is above what is flushed of its family, or none is
any_above : (flushed : List ℕ → ℕ) (n : ℕ) (cs : List Cell) → ((c : Cell) × Contains cs c × (flushed c.family < n)) ⊎ ((c : Cell) → Contains cs c → n ≤ flushed c.family)
any_above flushed n [] = inr (λ c has. absurd (omega (arith, has.1)))
any_above flushed n (x ∷ xs) = elim (cases_lt (flushed x.family) n) as (λ _. ((c : Cell) × Contains (x ∷ xs) c × (flushed c.family < n)) ⊎ ((c : Cell) → Contains (x ∷ xs) c → n ≤ flushed c.family)) [
  | inl above ↦ inl (x, (0, omega arith, refl), above)
  | inr low ↦ elim (any_above flushed n xs) as (λ _. ((c : Cell) × Contains (x ∷ xs) c × (flushed c.family < n)) ⊎ ((c : Cell) → Contains (x ∷ xs) c → n ≤ flushed c.family)) [
    | inl found ↦ inl (found.0, (suc found.1.0, omega (arith, found.1.1), found.1.2), found.2)
    | inr none ↦ inr (all_low flushed n x xs (omega (arith, low)) none)
  ]
]

-- one of these entries has a cell that isn't flushed, where not all are flushed
unflushed : (flushed : ℕ → List ℕ → ℕ) (es : List Entry) → (IsWhollyFlushed flushed es → ⊥) → (e : Entry) × (f : List ℕ) × Contains es e × HasFamily e f × (flushed e.region f < e.number)
unflushed flushed [] some = absurd (some (λ e f has of. absurd (none_in e has)))
unflushed flushed (x ∷ xs) some = elim (any_above (flushed x.region) x.number x.batch.cells) as (λ _. (e : Entry) × (f : List ℕ) × Contains (x ∷ xs) e × HasFamily e f × (flushed e.region f < e.number)) [
  | inl found ↦ (x, found.0.family, is_first x xs, (found.0, found.1, refl), found.2)
  | inr low ↦
      let rest = unflushed flushed xs (λ all. some (λ e f has of. elim (first_or_later x xs e has) as (λ _. e.number ≤ flushed e.region f) [
        | inl is ↦ (let on : HasFamily x f = subst (λ (d : Entry). HasFamily d f) (sym is) of in
            let at = low on.0 on.1 in
            subst (λ (d : Entry). d.number ≤ flushed d.region f) is (subst (λ (g : List ℕ). x.number ≤ flushed x.region g) on.2 at))
        | inr later ↦ all e f later of
      ])) in
      (rest.0, rest.1, is_later x xs rest.0 rest.2, rest.3, rest.4)
]

module _ {D : Type 0} (found : Files) (first : List ℕ) (few : length first ≤ 64) (d : Device D) (disk : DiskView) (popped : List Held) (h : History) (follow : FollowFrom first popped) where
  -- images are sound, whose names go on from those found
  sound_still : BeganWith found first h → IsOrderly h.kept → BearsFew found disk h → (front : List Held) → FollowFrom first front → AreHeld front (h.kept.durable ++ h.kept.staged)
      → (J : Files) → IsImageNow disk J → IsFit J → IsSound found → AreNumbersUpTo (2 ^ 61 + 1) found → IsSound J
  sound_still began orderly bears front f held J now fit sound up =
      let many = held_few (length first) (base_of first) front (h.kept.durable ++ h.kept.staged) f held in
      let most = left_most (length first) (base_of first) in
      sound_by found J bears.next_store bears.last sound (omega (arith, bears.logs (2 ^ 61 + 1) up, many, most, few)) (λ r. omega (arith, bears.stores (2 ^ 61 + 1) up r)) fit (bears.names J now)

  -- a region that no truck is of recovers alike
  others_alike : BeganWith found first h → IsOrderly h.kept → (front : List Held) → FollowFrom first front → (es : List Entry) → AreHeld front es → (more : List Entry) → ((e : Entry) → Contains more e → Contains es e)
      → (J : Files) → IsFit J → RecoversWith h.kept.base more J → LastsWith h.kept.base more J → (r : ℕ) → length first < r → RecoversAlike found J r
  others_alike began orderly front f es held more among J fit recovers lasts_too r over =
      alike_with found J more r (h.kept.first r) fit (subst (λ (b : Files). RecoversWith b more J) began.base recovers) (subst (λ (b : Files). LastsWith b more J) began.base lasts_too)
      (subst (λ (b : Files). IsLast b r (h.kept.first r)) began.base (orderly.begun r))
      (λ e has is. let low = held_entry (length first) (base_of first) front es e f held (among e has) in omega (arith, low.0, is, over))

  -- so it was at each moment since a start
  since_others : BeganWith found first h → IsOrderly h.kept → (start : ℕ) → Since start (RecoversHeld found popped) disk → OthersSince start found (length first) disk
  since_others began orderly start since =
      since_weaker start (RecoversHeld found popped) (λ J. (r : ℕ) → length first < r → RecoversAlike found J r) disk
      (λ J held r over.
      let m : ℕ = held.recovers.count in
      alike_with found J (take m held.entries) r (h.kept.first r) held.recovers.fit held.recovers.recovered held.recovers.last (subst (λ (b : Files). IsLast b r (h.kept.first r)) began.base (orderly.begun r))
      (λ e has is.
      let in_all = subst (λ (l : List Entry). Contains l e) (take-append-drop m held.entries) (Contains-append_left (take m held.entries) (drop m held.entries) e has) in
      let low = held_entry (length first) (base_of first) popped held.entries e follow held.held in_all in
      omega (arith, low.0, is, over)))
      since

  pub whole_leaves : IsTrueDisk disk → Stands found first d disk popped h → LeavesFiles found disk false (length first)
  whole_leaves true_disk s =
      let keeps = s.whole.keeps in
      let orderly = keeps.orderly in
      let all : AreHeld popped (h.kept.durable ++ h.kept.staged) = subst (λ (l : List Entry). AreHeld popped (h.kept.durable ++ l)) (sym s.idle) (subst (AreHeld popped) (sym (append-nil h.kept.durable)) s.all) in
      record {
        sound = λ J now sound up. sound_still s.began orderly (bears_now found first d disk popped h s) popped follow all J now (keeps.images J now).like.fit sound up;
        others = λ J r now over.
            (let like = (keeps.images J now).like in
            others_alike s.began orderly popped follow h.kept.durable s.all h.kept.durable (λ e has. has) J like.fit (like_recovers h.kept J like) (like_lasts h.kept J like orderly) r over);
        archived = λ unbroken name entries file kind not_last. elim (keeps.there name kind (present name entries file)) as (λ _. (e : Entry) × (f : List ℕ) × Contains entries e × HasFamily e f × ((n : ℕ) → IsFlushed disk.files e.region f n → n < e.number)) [
          | inl last ↦ absurd (not_last (last_one name kind (present name entries file) last))
          | inr c ↦ closed_one name entries file c.0 c.1 c.2
        ];
      }
    where
      present : (name : Name) (entries : List Entry) → IsLogFile disk.files name entries → IsPresent disk.files name
      present name entries file none = cc (sym none ∙ file.there)

      last_one : (name : Name) → name.kind ≡ kinds.Log → IsPresent disk.files name → name ≡ s.whole.file.name → IsLastLog disk.files name
      last_one name kind there is = record {
        kind = kind;
        there = there;
        greatest = λ other log in_files.
            (let up = (s.whole.keeps.images disk.files true_disk.reads).up_to other log in_files in
            let number = ap (λ (m : Name). m.number) is in
            omega (arith, up.1, number));
      }

      closed_one : (name : Name) (entries : List Entry) → IsLogFile disk.files name entries → (c : ClosedLog) → Contains h.logs c → log_name c.number ≡ name
          → (e : Entry) × (f : List ℕ) × Contains entries e × HasFamily e f × ((n : ℕ) → IsFlushed disk.files e.region f n → n < e.number)
      closed_one name entries file c has is =
          let closed = (s.whole.keeps.logs c has).0 in
          let text = ended_has (log_name c.number) c.entries (content disk.files (log_name c.number)) closed.each closed.file.reads in
          let same : c.entries ≡ entries = one_list disk.files (log_name c.number) c.entries entries (inl (Some (length c.entries), text)) (subst (λ (m : Name). IsLogFile disk.files m entries) (sym is) file) in
          let e = unflushed h.kept.flushed c.entries (s.none_may_go c has) in
          let flushed = (s.whole.keeps.images disk.files true_disk.reads).like.flushed e.0.region e.1 in
          (e.0, e.1, subst (λ (l : List Entry). Contains l e.0) same e.2, e.3, λ n is_flushed. elim is_flushed.reached as (λ _. n < e.0.number) [ inl to ↦ omega (arith, flushed.bound n to, e.4) | inr none ↦ omega (arith, none, e.4) ])

  pub fell_leaves : Fell found first d disk popped h → LeavesFiles found disk true (length first)
  fell_leaves f =
      let parted : take f.taken popped ++ drop f.taken popped ≡ popped = take-append-drop f.taken popped in
      let front : List Held = take f.taken popped in
      let in_row = follow_front (length first) (base_of first) front (drop f.taken popped) (subst (FollowFrom first) (sym parted) follow) in
      record {
        sound = λ J now sound up. sound_still f.began f.orderly f.names front in_row f.all J now (f.left J now).recovers.fit sound up;
        others = λ J r now over.
            (let left = f.left J now in
            let m : ℕ = left.recovers.count in
            let more : List Entry = h.kept.durable ++ take m h.kept.staged in
            let with = with_both h.kept.base f.files J h.kept.durable (take m h.kept.staged) (like_recovers h.kept f.files f.like) left.recovers.recovered in
            let lasts_too : LastsWith h.kept.base more J = λ q n is.
            subst (λ (x : ℕ). IsLast J q x) (sym (last_of-append q n h.kept.durable (take m h.kept.staged))) (left.recovers.last q (last_of q n h.kept.durable) (like_lasts h.kept f.files f.like f.orderly q n is)) in
            others_alike f.began f.orderly front in_row (h.kept.durable ++ h.kept.staged) f.all more (among m) J left.recovers.fit with lasts_too r over);
        archived = λ unbroken. absurd (cc unbroken);
      }
    where
      among : (m : ℕ) (e : Entry) → Contains (h.kept.durable ++ take m h.kept.staged) e → Contains (h.kept.durable ++ h.kept.staged) e
      among m e has = elim (Contains-append_cases h.kept.durable (take m h.kept.staged) e has) as (λ _. Contains (h.kept.durable ++ h.kept.staged) e) [
        | inl old ↦ Contains-append_left h.kept.durable h.kept.staged e old
        | inr new ↦ Contains-append_right h.kept.durable h.kept.staged e
            (subst (λ (l : List Entry). Contains l e) (take-append-drop m h.kept.staged) (Contains-append_left (take m h.kept.staged) (drop m h.kept.staged) e new))
      ]

-- ---- whether the device is broken or not

pub either_leaves : {D : Type 0} (found : Files) (first : List ℕ) → length first ≤ 64 → (d : Device D) (disk : DiskView) (popped : List Held) → FollowFrom first popped → IsTrueDisk disk → (broken : Bool) → (broken ≡ true) ↔ IsBroken d
    → ((IsBroken d → ⊥) → ∥ ((h : History) × Stands found first d disk popped h) ∥₁) → (IsBroken d → ∥ ((h : History) × Fell found first d disk popped h) ∥₁) → ∥ LeavesFiles found disk broken (length first) ∥₁
either_leaves found first few d disk popped follow true_disk true is whole fell = ∥∥₁_map (fell (is.0 refl)) (λ x. fell_leaves found first few d disk popped x.0 follow x.1)
either_leaves found first few d disk popped follow true_disk false is whole fell =
    ∥∥₁_map (whole (λ broken. true≢false (sym (is.1 broken)))) (λ x. whole_leaves found first few d disk popped x.0 follow true_disk x.1)

pub either_others : {D : Type 0} (found : Files) (first : List ℕ) → length first ≤ 64 → (d : Device D) (disk : DiskView) (popped : List Held) → FollowFrom first popped → (broken : Bool) → (broken ≡ true) ↔ IsBroken d
    → ((IsBroken d → ⊥) → ∥ ((h : History) × Stands found first d disk popped h) ∥₁) → (IsBroken d → ∥ ((h : History) × Fell found first d disk popped h) ∥₁) → (start : ℕ) → ∥ Since start (RecoversHeld found popped) disk ∥₁
    → ∥ OthersSince start found (length first) disk ∥₁
either_others found first few d disk popped follow true is whole fell start since =
    ∥∥₁_map₂ (fell (is.0 refl)) since (λ x so_far. since_others found first few d disk popped x.0 follow x.1.began x.1.orderly start so_far)
either_others found first few d disk popped follow false is whole fell start since =
    ∥∥₁_map₂ (whole (λ broken. true≢false (sym (is.1 broken)))) since (λ x so_far. since_others found first few d disk popped x.0 follow x.1.began x.1.whole.keeps.orderly start so_far)
