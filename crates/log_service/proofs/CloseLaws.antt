-- What stands in a device's half at the close is what the close hands on.
use Rattle.std.proofs.Common.{◌≡◌, ℕ, suc, ◌+◌, ◌-◌, ◌<◌, ◌≤◌, Bool, true, false, true≢false, List, [], ◌∷◌, ◌++◌, length, take, drop, get_or, refl, sym, ap, ◌∙◌, subst, arith, append_assoc, length-append, take-append-drop}
use Rattle.std.specs.Prelude.{◌↔◌}
use Rattle.std.proofs.Math.Logic.{∥∥₁_map, ∥∥₁_map₂}
use Rattle.std.proofs.lemmas.List.{append-nil}
use Rattle.std.proofs.lemmas.List.Elements.{Contains-append_left, filter-append}
use Rattle.cell_model.specs.Order.{Content}
use Rattle.log_model.specs.Entry.{Entry}
use Rattle.log_model.specs.Files.{Files}
use Rattle.log_model.specs.Recovered.{IsRecovered, IsContent, IsLast, entries_of, is_of}
use Rattle.recovery_laws.specs.Change.{RecoversWith, LastsWith, last_of}
use Rattle.recovery_laws.specs.Kept.{IsOrderly, lasts}
use Rattle.recovery_laws.proofs.Likes.{like_recovers, with_both, some_alike}
use Rattle.recovery_laws.proofs.Lasts.{like_lasts}
use Rattle.recovery_laws.proofs.Rising.{last_of-append}
use Rattle.disk_images.specs.Crash.{DiskView, IsImageNow, Since}
use Rattle.disk_images.proofs.Moments.{since_weaker}
use Rattle.std.specs.Prelude.{Option, Some}
use Rattle.std.proofs.lemmas.Option.{slice_get_within}
use Rattle.crossbeam_queue.specs.Passes.{view}
use Rattle.append_ring.specs.declared.pass.RingKey.{RingKey}
use Rattle.append_ring.specs.Rules.{base_of, of}
use Rattle.append_ring.specs.Parts.{EachThere, IsEqual}
use Rattle.append_ring.proofs.Places.{each_at}
use Rattle.log_berth.specs.Words.{NoMore}
use Rattle.log_halves.specs.declared.item.Item.{Item}
use Rattle.log_halves.specs.Items.{region_of, appended}
use Rattle.log_halves.specs.Numbers.{told_numbers, AreStoredSynced}
use Rattle.log_service.proofs.Numbers.{synced_low, stored_low, closed_low}
use Rattle.log_trucks.specs.Held.{Held, AreHeld}
use Rattle.log_ledger.specs.History.{History}
use Rattle.log_ledger.specs.Numbers.{IsServed}
use Rattle.log_device.specs.declared.device.Device.{Device}
use Rattle.log_device.specs.Leaves.{Leaves}
use Rattle.log_device.specs.Whole.{numbers_of, IsBroken}
use Rattle.log_device.proofs.Leaving.{leaves}
use Rattle.log_halves.specs.Trucks.{FollowFrom, of_held}
use Rattle.log_halves.specs.Order.{follow_front}
use Rattle.log_halves.specs.Halves.{BeganWith, Stands, Fell, RecoversHeld}
use Rattle.log_service.specs.Closed.{Image, Commits, CommitsRegion, CommitsSince, Pushed, synced_in, stored_in, closed_in}
use Rattle.log_service.proofs.PushedLaws.{appended_of, held_region, of_held-append, count_last, image_of}

held_length : (ts : List Held) (es : List Entry) → AreHeld ts es → length ts ≡ length es
held_length [] [] h = refl
held_length [] (e ∷ es) h = absurd h
held_length (t ∷ ts) [] h = absurd h
held_length (t ∷ ts) (e ∷ es) h = ap suc (held_length ts es h.1)

held_take : (ts : List Held) (xs ys : List Entry) → AreHeld ts (xs ++ ys) → AreHeld (take (length xs) ts) xs
held_take ts [] ys h = tt
held_take [] (x ∷ xs) ys h = absurd h
held_take (t ∷ ts) (x ∷ xs) ys h = (h.0, held_take ts xs ys h.1)

module _ (found : Files) (first : List ℕ) (r : ℕ) (low : 0 < r) (high : r ≤ length first) where
  last_then : (h : History) → BeganWith found first h → IsOrderly h.kept → IsLast found r (base_of first r)
  last_then h began orderly = subst (λ (p : Files × ℕ). IsLast p.0 r p.1) (λ i. (began.base i, began.first r low high i)) (orderly.begun r)

  -- the last number of durable entries
  counted : (h : History) → BeganWith found first h → (ts us : List Held) → FollowFrom first (ts ++ us) → AreHeld ts h.kept.durable → lasts h.kept.first h.kept.durable r ≡ base_of first r + length (entries_of r h.kept.durable)
  counted h began ts us follow held =
      ap (λ (n : ℕ). last_of r n h.kept.durable) (began.first r low high) ∙ count_last (length first) (base_of first) ts h.kept.durable r (follow_front (length first) (base_of first) ts us follow) held

  module _ {D : Type 0} (d : Device D) (disk : DiskView) (popped : List Held) (h : History) (follow : FollowFrom first popped) (c : Content) (pushed : List Entry) (all : AreHeld (of_held r popped) pushed)
      (content : IsContent (IsRecovered found r) c) (synced stored closed : ℕ) (synced_low : synced ≤ get_or (numbers_of d).synced r 0) (stored_low : stored ≤ get_or (numbers_of d).stored r 0) (closed_low : closed ≤ get_or (numbers_of d).closed r 0)
      (stored_synced : get_or (numbers_of d).stored r 0 ≤ get_or (numbers_of d).synced r 0) where
    pub whole_commits : Stands found first d disk popped h → IsServed (numbers_of d) r → Commits disk false r (base_of first r) c pushed synced stored closed
    whole_commits s served =
        let orderly = s.whole.keeps.orderly in
        let nil : popped ≡ popped ++ [] = sym (append-nil popped) in
        let follow_all = subst (FollowFrom first) nil follow in
        let count = counted h s.began popped [] follow_all s.all in
        let k : ℕ = length (entries_of r h.kept.durable) in
        let every : k ≡ length pushed = sym (held_length (of_held r popped) (entries_of r h.kept.durable) (held_region r popped h.kept.durable s.all)) ∙ held_length (of_held r popped) pushed all in
        let synced_is = s.whole.counted.synced r served in
        let left : (J : Files) → IsImageNow disk J → Leaves (numbers_of d).stored (numbers_of d).closed J [] J = λ J now.
        let shows = s.whole.keeps.images J now in
        leaves (numbers_of d).stored (numbers_of d).closed h.kept s.whole.file.name h.current J [] J s.whole.keeps.kind s.whole.keeps.region shows s.whole.counted.stored
        (λ e member. s.whole.counted.newer e (Contains-append_left h.current h.kept.staged e member)) (some_alike h.kept J J shows.like shows.like orderly) in
        record {
          images = λ J now.
              let shows = s.whole.keeps.images J now in
              let image = image_of found first r c pushed h.kept.durable popped [] J follow_all s.all (subst (λ (l : List Held). AreHeld (of_held r l) pushed) nil all) (last_then h s.began orderly) content shows.like.fit
              (subst (λ (b : Files). RecoversWith b h.kept.durable J) s.began.base (like_recovers h.kept J shows.like))
              (subst (λ (b : Files). LastsWith b h.kept.durable J) s.began.base (like_lasts h.kept J shows.like orderly)) in
              (k, image, omega (arith, synced_low, synced_is, count), omega (arith, stored_low, stored_synced, synced_is, count), (λ _. every));
          keeps_stored = λ J v p now recovers upto. (left J now).in_stores r v p recovers (omega (arith, upto, stored_low));
          keeps_closed = λ J name es e now last file member of.
              (let below = (left J now).in_last_log name es e last file member in
              let at = ap (λ (q : ℕ). get_or (numbers_of d).closed q 0) of in
              omega (arith, below, at, closed_low));
          bound = omega (arith, stored_low, stored_synced, synced_is, count, every);
          bound_synced = omega (arith, synced_low, synced_is, count, every);
        }

    pub fell_commits : Fell found first d disk popped h → Commits disk true r (base_of first r) c pushed synced stored closed
    fell_commits f =
        let parted : take f.taken popped ++ drop f.taken popped ≡ popped = take-append-drop f.taken popped in
        let front : List Held = take f.taken popped in
        let was : List Held = take (length h.kept.durable) front in
        let was_all : was ++ (drop (length h.kept.durable) front ++ drop f.taken popped) ≡ popped = sym (append_assoc was (drop (length h.kept.durable) front) (drop f.taken popped)) ∙ (ap (λ (l : List Held). l ++ drop f.taken popped) (take-append-drop (length h.kept.durable) front) ∙ parted) in
        let count = counted h f.began was (drop (length h.kept.durable) front ++ drop f.taken popped) (subst (FollowFrom first) (sym was_all) follow) (held_take front h.kept.durable h.kept.staged f.all) in
        let synced_is = f.synced r low high in
        record {
          images = λ J now.
              let left = f.left J now in
              let m : ℕ = left.recovers.count in
              let more : List Entry = h.kept.durable ++ take m h.kept.staged in
              let ts : List Held = take (length more) front in
              let us : List Held = drop (length more) front ++ drop f.taken popped in
              let ts_all : ts ++ us ≡ popped = sym (append_assoc ts (drop (length more) front) (drop f.taken popped)) ∙ (ap (λ (l : List Held). l ++ drop f.taken popped) (take-append-drop (length more) front) ∙ parted) in
              let whole : h.kept.durable ++ h.kept.staged ≡ more ++ drop m h.kept.staged = ap (λ (l : List Entry). h.kept.durable ++ l) (sym (take-append-drop m h.kept.staged)) ∙ sym (append_assoc h.kept.durable (take m h.kept.staged) (drop m h.kept.staged)) in
              let held = held_take front more (drop m h.kept.staged) (subst (AreHeld front) whole f.all) in
              let with = with_both h.kept.base f.files J h.kept.durable (take m h.kept.staged) (like_recovers h.kept f.files f.like) left.recovers.recovered in
              let lasts_too : LastsWith h.kept.base more J = λ q n is.
              subst (λ (x : ℕ). IsLast J q x) (sym (last_of-append q n h.kept.durable (take m h.kept.staged))) (left.recovers.last q (last_of q n h.kept.durable) (like_lasts h.kept f.files f.like f.orderly q n is)) in
              let image = image_of found first r c pushed more ts us J (subst (FollowFrom first) (sym ts_all) follow) held (subst (λ (l : List Held). AreHeld (of_held r l) pushed) (sym ts_all) all) (last_then h f.began f.orderly) content left.recovers.fit
              (subst (λ (b : Files). RecoversWith b more J) f.began.base with) (subst (λ (b : Files). LastsWith b more J) f.began.base lasts_too) in
              let longer = ap length (filter-append (is_of r) h.kept.durable (take m h.kept.staged)) in
              let sum = length-append (entries_of r h.kept.durable) (entries_of r (take m h.kept.staged)) in
              (length (entries_of r more), image, omega (arith, synced_low, synced_is, count, longer, sum), omega (arith, stored_low, stored_synced, synced_is, count, longer, sum), (λ broken. absurd (cc broken)));
          keeps_stored = λ J v p now recovers upto. (f.left J now).in_stores r v p recovers (omega (arith, upto, stored_low));
          keeps_closed = λ J name es e now last file member of.
              (let below = (f.left J now).in_last_log name es e last file member in
              let at = ap (λ (q : ℕ). get_or (numbers_of d).closed q 0) of in
              omega (arith, below, at, closed_low));
          bound = bounded stored was (drop (length h.kept.durable) front ++ drop f.taken popped) was_all (held_take front h.kept.durable h.kept.staged f.all) (omega (arith, stored_low, stored_synced, synced_is, count));
          bound_synced = bounded synced was (drop (length h.kept.durable) front ++ drop f.taken popped) was_all (held_take front h.kept.durable h.kept.staged f.all) (omega (arith, synced_low, synced_is, count));
        }
      where
        -- the durable ones are among those pushed
        bounded : (n : ℕ) (ts us : List Held) → ts ++ us ≡ popped → AreHeld ts h.kept.durable → n ≤ base_of first r + length (entries_of r h.kept.durable) → n ≤ base_of first r + length pushed
        bounded n ts us parts held le =
            let split = of_both ts us in
            let a = held_length (of_held r ts) (entries_of r h.kept.durable) (held_region r ts h.kept.durable held) in
            let b = held_length (of_held r popped) pushed all in
            let e = ap (λ (l : List Held). length (of_held r l)) parts in
            let s = ap length split in
            omega (arith, le, a, b, e, s, length-append (of_held r ts) (of_held r us))
          where
            of_both : (xs ys : List Held) → of_held r (xs ++ ys) ≡ of_held r xs ++ of_held r ys
            of_both xs ys = of_held-append r xs ys

-- at each moment since the start each image has the content at the start with the first of the entries pushed
pub since_commits : (found : Files) (first : List ℕ) (r : ℕ) (popped : List Held) (c : Content) (pushed : List Entry) (start : ℕ) (disk : DiskView) → FollowFrom first popped → AreHeld (of_held r popped) pushed
    → IsLast found r (base_of first r) → IsContent (IsRecovered found r) c → Since start (RecoversHeld found popped) disk → CommitsSince start disk r (base_of first r) c pushed
since_commits found first r popped c pushed start disk follow all last content since =
    since_weaker start (RecoversHeld found popped) (λ J. ∥ ((k : ℕ) × Image r (base_of first r) c pushed J k) ∥₁) disk
    (λ J h.
    let m : ℕ = h.recovers.count in
    let more : List Entry = take m h.entries in
    let ts : List Held = take (length more) popped in
    let us : List Held = drop (length more) popped in
    let parts : ts ++ us ≡ popped = take-append-drop (length more) popped in
    let held = held_take popped more (drop m h.entries) (subst (AreHeld popped) (sym (take-append-drop m h.entries)) h.held) in
    ∣ (
      length (entries_of r more),
      image_of found first r c pushed more ts us J (subst (FollowFrom first) (sym parts) follow) held (subst (λ (l : List Held). AreHeld (of_held r l) pushed) (sym parts) all) last content h.recovers.fit h.recovers.recovered h.recovers.last,
    ) ∣₁)
    since

-- what the close of a device's half hands on of one region, whether the device is broken or not
module _ {D : Type 0} (found : Files) (first : List ℕ) (d : Device D) (disk : DiskView) (popped : List Held) (follow : FollowFrom first popped) where
  abbrev pub WhereWhole : Type 0
  WhereWhole = (IsBroken d → ⊥) → ∥ ((h : History) × Stands found first d disk popped h) ∥₁

  abbrev pub WhereBroken : Type 0
  WhereBroken = IsBroken d → ∥ ((h : History) × Fell found first d disk popped h) ∥₁

  module _ (r : ℕ) (low : 0 < r) (high : r ≤ length first) (c : Content) (pushed : List Entry) (all : AreHeld (of_held r popped) pushed) (content : IsContent (IsRecovered found r) c) where
    pub either_commits : (broken : Bool) → (broken ≡ true) ↔ IsBroken d → WhereWhole → WhereBroken → IsServed (numbers_of d) r → (synced stored closed : ℕ) → synced ≤ get_or (numbers_of d).synced r 0 → stored ≤ get_or (numbers_of d).stored r 0
        → closed ≤ get_or (numbers_of d).closed r 0 → get_or (numbers_of d).stored r 0 ≤ get_or (numbers_of d).synced r 0 → ∥ Commits disk broken r (base_of first r) c pushed synced stored closed ∥₁
    either_commits true is whole fell served synced stored closed a b e le =
        ∥∥₁_map (fell (is.0 refl)) (λ x. fell_commits found first r low high d disk popped x.0 follow c pushed all content synced stored closed a b e le x.1)
    either_commits false is whole fell served synced stored closed a b e le =
        ∥∥₁_map (whole (λ broken. true≢false (sym (is.1 broken)))) (λ x. whole_commits found first r low high d disk popped x.0 follow c pushed all content synced stored closed a b e le x.1 served)

    pub either_since : (broken : Bool) → (broken ≡ true) ↔ IsBroken d → WhereWhole → WhereBroken → (start : ℕ) → ∥ Since start (RecoversHeld found popped) disk ∥₁ → ∥ CommitsSince start disk r (base_of first r) c pushed ∥₁
    either_since true is whole fell start since =
        ∥∥₁_map₂ (fell (is.0 refl)) since (λ x past. since_commits found first r popped c pushed start disk follow all (last_then found first r low high x.0 x.1.began x.1.orderly) content past)
    either_since false is whole fell start since =
        ∥∥₁_map₂ (whole (λ broken. true≢false (sym (is.1 broken)))) since
        (λ x past. since_commits found first r popped c pushed start disk follow all (last_then found first r low high x.0 x.1.began x.1.whole.keeps.orderly) content past)

  module _ (n : ℕ) (all_regions : n ≡ length first) (broken : Bool) (is : (broken ≡ true) ↔ IsBroken d) (whole : WhereWhole) (fell : WhereBroken) (items : List Item) (every : popped ≡ appended items)
      (passes : List (Option (RingKey Item))) (there : length passes ≡ n) (equal : EachThere (IsEqual region_of items) passes) (r : ℕ) (c : Content) (pushed : List Entry) (p : Pushed found passes r c pushed) where
    within : r ≤ length first
    within = omega (arith, slice_get_within passes (r - 1) (Some p.pass) p.is, p.above, there, all_regions)

    all_held : AreHeld (of_held r popped) pushed
    all_held =
        let one : of region_of p.pass.region items ≡ (view p.pass.pass).pushed = each_at (IsEqual region_of items) passes (r - 1) p.pass equal p.is in
        let mine : appended (view p.pass.pass).pushed ≡ of_held r popped =
        ap appended (sym one) ∙ (ap (λ (k : ℕ). appended (of region_of k items)) p.region ∙ (appended_of r items ∙ ap (of_held r) (sym every))) in
        subst (λ (l : List Held). AreHeld l pushed) mine p.entries

    pub region_commits : (words : List ℕ) → NoMore words (told_numbers n (numbers_of d)) → ((q : ℕ) → 0 < q → q ≤ length first → IsServed (numbers_of d) q) → AreStoredSynced (numbers_of d) → ∥ CommitsRegion disk broken n words first r c pushed ∥₁
    region_commits words low served stored =
        either_commits r p.above within c pushed all_held p.content broken is whole fell (served r p.above within) (synced_in words r) (stored_in n words r) (closed_in n words r)
        (synced_low n (numbers_of d) words r low p.above (omega (arith, within, all_regions))) (stored_low n (numbers_of d) words r low p.above (omega (arith, within, all_regions)))
        (closed_low n (numbers_of d) words r low p.above (omega (arith, within, all_regions))) (stored r)

    pub region_since : (start : ℕ) → ∥ Since start (RecoversHeld found popped) disk ∥₁ → ∥ CommitsSince start disk r (base_of first r) c pushed ∥₁
    region_since start since = either_since r p.above within c pushed all_held p.content broken is whole fell start since
