-- The ties of a region's lock, step by step.
use Rattle.std.proofs.Common.{◌≡◌, Bool, true, false, IsTrue, IsFalse, zero, suc, inl, inr, ℕ, ◌+◌, ◌-◌, ◌^◌, ◌<◌, ◌≤◌, get_or, List, [], ◌∷◌, ◌++◌, length, set, Contains, Some, None, Option, slice_get, refl, sym, ap, ◌∙◌, subst, arith, append-nil, length-append}
use Rattle.std.specs.Global.{Box}
use Rattle.std.proofs.lemmas.Option.{slice_get_within}
use Rattle.crossbeam_queue.specs.Passes.{view}
use Rattle.hand_register.specs.declared.known.Record.{Record}
use Rattle.hand_register.specs.Desks.{with_value, with_last, with_mark}
use Rattle.append_ring.specs.declared.knows.Knows.{Knows}
use Rattle.append_ring.specs.declared.pass.RingKey.{RingKey}
use Rattle.append_ring.specs.Rules.{HasPushed, base_of, end_of, next_or}
use Rattle.append_ring.specs.Parts.{last_pushed}
use Rattle.log_model.specs.Entry.{Entry, IsEntry, entry_frame}
use Rattle.seq_accounting.specs.Accounts.{AreFamiliesOf}
use Rattle.log_trucks.specs.Held.{Held, Haul, held_of, AreHeld, IsHeld, Carries}
use Rattle.std.specs.Arc.{arc_value}
use Rattle.region_model.specs.Journal.{Base, Caller, Outcome, Follows}
use Rattle.region_model.specs.Lines.{Line, edit_in, edits_in, last_in, handled_lines, with_outcome}
use Rattle.region_model.proofs.LineLaws.{length-with_outcome}
use Rattle.log_service.specs.log_halves.declared.item.Item.{Item}
use Rattle.log_service.specs.log_halves.declared.item.Item.TheVariants as items
use Rattle.log_service.specs.Items.{appended, number_of}
use Rattle.log_service.specs.Trucks.{IsSpelled, alone}
use Rattle.log_service.specs.Moves.{HadItems}
use Rattle.log_service.proofs.Committed.{held_append}
use Rattle.region_lock.specs.declared.job.Job.{Job}
use Rattle.region_lock.specs.Jobs.{IsJob, entry_under}
use Rattle.region_lock.specs.Parts.{IsPart, entries_in, AreOwn, AreOwned, EndsPending}
use Rattle.region_lock.proofs.Lists.{get_set, length_set}
use Rattle.region_lock.proofs.Ties.{appended-append, end_of-append, entries_in-append, entries_in-ended, own_begun, own_ended, owned_begun, owned_ended, last_of, number_at, ended_middle, marks_same, marks_clear, told_more, told_one, above_last}

held_same : (hs hs' : List Held) (es es' : List Entry) → hs' ≡ hs → es' ≡ es → AreHeld hs es → AreHeld hs' es'
held_same hs hs' es es' a b held = subst (λ (t : List Held). AreHeld t es') (sym a) (subst (AreHeld hs) (sym b) held)

-- a line is begun, and its entry pushed
pub part_begun : (flushes : List Caller) (r : ℕ) (base : Base) (xs : List Line) (mark : Option Caller) (ours : List (Record Line)) (theirs : List (Record ℕ)) (pass pass' : RingKey Item)
    (k : ℕ) (q : Record Line) (x : Line) (item : Item) → IsPart flushes r base xs mark ours theirs pass → HasPushed (view pass.pass) item (view pass'.pass) → pass'.region ≡ pass.region
    → slice_get ours k ≡ Some q → x.caller.handler ≡ k + 1 → x.number ≡ last_in base xs + 1 → AreHeld (appended (item ∷ [])) ((edit_in r x).entry ∷ []) → number_of item ≡ Some x.number
    → IsPart flushes r base (xs ++ x ∷ []) mark (set ours k (with_value q x)) theirs pass'
part_begun flushes r base xs mark ours theirs pass pass' k q x item p pushed region at mine number held drawn =
    let long : last_in base (xs ++ x ∷ []) ≡ last_in base xs + 1 = omega (arith, length-append xs (x ∷ [])) in
    let within : k < length ours = slice_get_within ours k q at in
    let long_held : appended (view pass'.pass).pushed ≡ appended (view pass.pass).pushed ++ appended (item ∷ []) = ap (λ (v : Knows Item). appended v.pushed) pushed ∙ appended-append (view pass.pass).pushed (item ∷ []) in
    let both = held_append (appended (view pass.pass).pushed) (appended (item ∷ [])) (entries_in r xs) ((edit_in r x).entry ∷ []) p.pushed held in
    record {
      pushed = held_same _ _ _ _ long_held (entries_in-append r xs (x ∷ [])) both;
      drawn = (λ i. end_of number_of (base_of (pushed i).lasts (region i)) (pushed i).pushed)
          ∙ end_of-append (base_of (view pass.pass).lasts pass.region) (view pass.pass).pushed item ∙ ap (λ (o : Option ℕ). next_or number_of (last_pushed number_of pass) o) drawn ∙ number ∙ sym long;
      own = own_begun ours xs k q x p.own at mine;
      owners = subst (λ (n : ℕ). AreOwned n (xs ++ x ∷ [])) (sym (length_set ours k (with_value q x))) (owned_begun (length ours) xs x p.owners (omega (arith, mine)) (omega (arith, mine, within)));
      told = told_more theirs (last_in base xs) (last_in base (xs ++ x ∷ [])) (omega (arith, long)) p.told;
      marks = marks_same ours mark k q (with_value q x) p.marks at refl;
      listed = p.listed;
    }

-- a handler's last line ends
pub part_ended : (flushes : List Caller) (r : ℕ) (base : Base) (xs : List Line) (mark : Option Caller) (ours : List (Record Line)) (theirs : List (Record ℕ)) (pass : RingKey Item)
    (k : ℕ) (q : Record Line) (ys : List Line) (x : Line) (o : Outcome) → IsPart flushes r base xs mark ours theirs pass → Follows base.last (edits_in r xs) → slice_get ours k ≡ Some q → q.list ≡ ys ++ x ∷ []
    → IsPart flushes r base (with_outcome x.number o xs) mark (set ours k (with_last q (record x { outcome = o }))) theirs pass
part_ended flushes r base xs mark ours theirs pass k q ys x o p follows at own =
    let long : last_in base (with_outcome x.number o xs) ≡ last_in base xs = ap (λ (n : ℕ). base.last + n) (length-with_outcome x.number o xs) in
    record {
      pushed = held_same _ _ _ _ refl (entries_in-ended r x.number o xs) p.pushed;
      drawn = p.drawn ∙ sym long;
      own = own_ended r base.last o ours xs k q ys x follows p.own at own;
      owners = subst (λ (n : ℕ). AreOwned n (with_outcome x.number o xs)) (sym (length_set ours k (with_last q (record x { outcome = o })))) (owned_ended (length ours) x.number o xs p.owners);
      told = told_more theirs (last_in base xs) (last_in base (with_outcome x.number o xs)) (omega (arith, long)) p.told;
      marks = marks_same ours mark k q (with_last q (record x { outcome = o })) p.marks at refl;
      listed = p.listed;
    }

-- an item that is no entry is pushed
pub part_asked : (flushes : List Caller) (r : ℕ) (base : Base) (xs : List Line) (mark : Option Caller) (ours : List (Record Line)) (theirs : List (Record ℕ)) (pass pass' : RingKey Item)
    (item : Item) → IsPart flushes r base xs mark ours theirs pass → HasPushed (view pass.pass) item (view pass'.pass) → pass'.region ≡ pass.region → appended (item ∷ []) ≡ [] → number_of item ≡ None
    → IsPart flushes r base xs mark ours theirs pass'
part_asked flushes r base xs mark ours theirs pass pass' item p pushed region none drawn = record {
  pushed = held_same _ _ _ _ (ap (λ (v : Knows Item). appended v.pushed) pushed ∙ appended-append (view pass.pass).pushed (item ∷ []) ∙ (λ i. appended (view pass.pass).pushed ++ none i) ∙ append-nil (appended (view pass.pass).pushed)) refl p.pushed;
  drawn = (λ i. end_of number_of (base_of (pushed i).lasts (region i)) (pushed i).pushed)
      ∙ end_of-append (base_of (view pass.pass).lasts pass.region) (view pass.pass).pushed item ∙ ap (λ (o : Option ℕ). next_or number_of (last_pushed number_of pass) o) drawn ∙ p.drawn;
  own = p.own;
  owners = p.owners;
  told = p.told;
  marks = p.marks;
  listed = p.listed;
}

-- nothing was pushed
pub part_full : (flushes : List Caller) (r : ℕ) (base : Base) (xs : List Line) (mark : Option Caller) (ours : List (Record Line)) (theirs : List (Record ℕ)) (pass pass' : RingKey Item)
    → IsPart flushes r base xs mark ours theirs pass → view pass'.pass ≡ view pass.pass → pass'.region ≡ pass.region → IsPart flushes r base xs mark ours theirs pass'
part_full flushes r base xs mark ours theirs pass pass' p same region = record {
  pushed = held_same _ _ _ _ (ap (λ (v : Knows Item). appended v.pushed) same) refl p.pushed;
  drawn = (λ i. end_of number_of (base_of (same i).lasts (region i)) (same i).pushed) ∙ p.drawn;
  own = p.own;
  owners = p.owners;
  told = p.told;
  marks = p.marks;
  listed = p.listed;
}

-- a hand is told the last number
pub part_told : (flushes : List Caller) (r : ℕ) (base : Base) (xs : List Line) (mark : Option Caller) (ours : List (Record Line)) (theirs : List (Record ℕ)) (pass : RingKey Item)
    (k : ℕ) (q : Record ℕ) → IsPart flushes r base xs mark ours theirs pass → slice_get theirs k ≡ Some q → IsPart flushes r base xs mark ours (set theirs k (with_value q (last_in base xs))) pass
part_told flushes r base xs mark ours theirs pass k q p at = record {
  pushed = p.pushed;
  drawn = p.drawn;
  own = p.own;
  owners = p.owners;
  told = told_one theirs (last_in base xs) k q p.told at;
  marks = p.marks;
  listed = p.listed;
}

own_same : (ours : List (Record Line)) (xs : List Line) (k n : ℕ) (q : Record Line) → AreOwn ours xs → slice_get ours k ≡ Some q → AreOwn (set ours k (with_mark q n)) xs
own_same ours xs k n q own at j u e = elim (get_set ours k j (with_mark q n) u e) [
  | inl t ↦ sym (ap (λ (w : Record Line). w.list) t.1) ∙ own k q at ∙ ap (λ (i : ℕ). handled_lines (i + 1) xs) (sym t.0)
  | inr t ↦ own j u t.1
]

-- it ends
pub part_unmarked : (flushes : List Caller) (r : ℕ) (base : Base) (xs : List Line) (mark : Option Caller) (ours : List (Record Line)) (theirs : List (Record ℕ)) (pass : RingKey Item)
    (k : ℕ) (q : Record Line) → IsPart flushes r base xs mark ours theirs pass → slice_get ours k ≡ Some q → 1 ≤ q.mark
    → IsPart flushes r base xs None (set ours k (with_mark q 0)) theirs pass
part_unmarked flushes r base xs mark ours theirs pass k q p at least = record {
  pushed = p.pushed;
  drawn = p.drawn;
  own = own_same ours xs k 0 q p.own at;
  owners = subst (λ (n : ℕ). AreOwned n xs) (sym (length_set ours k (with_mark q 0))) p.owners;
  told = p.told;
  marks = marks_clear ours mark k q (with_mark q 0) p.marks at least refl;
  listed = λ d is. absurd (cc is);
}

-- ---- a job's truck

entry_numbered : (e : Entry) (n : ℕ) → IsEntry e → 1 ≤ n → n < 2 ^ 48 → IsEntry (record e { number = n })
entry_numbered e n is least most = record { region_given = is.region_given; region = is.region; number_given = least; number = most; time = is.time; batch = is.batch }

-- its entry under the number that it gets
pub job_entry : (r n : ℕ) (j : Job) → IsJob r j → 1 ≤ n → n < 2 ^ 48 → IsEntry (entry_under r n j)
job_entry r n j is least most = entry_numbered (entry_under r is.number j) n is.carries.entry least most

-- a truck that got a number has the entry under it
pub carried : (r n : ℕ) (j : Job) (old new : Haul) → IsJob r j → old ≡ j.truck.value → new ≡ record old { number = n; bytes = new.bytes } → ((e : Entry) → old.bytes ≡ entry_frame e → new.bytes ≡ entry_frame (record e { number = n }))
    → 1 ≤ n → n < 2 ^ 48 → Carries new (entry_under r n j)
carried r n j old new is was now bytes least most = record {
  entry = job_entry r n j is least most;
  bytes = bytes (entry_under r is.number j) (ap (λ (h : Haul). h.bytes) was ∙ is.carries.bytes);
  region = is.carries.region ∙ sym (ap (λ (h : Haul). h.region) now ∙ ap (λ (h : Haul). h.region) was);
  number = sym (ap (λ (h : Haul). h.number) now);
  families = subst (AreFamiliesOf (arc_value j.batch).cells) (sym (ap (λ (h : Haul). h.families) now ∙ ap (λ (h : Haul). h.families) was)) is.carries.families;
}

pub spelled : (r n : ℕ) (j : Job) (old new : Haul) → IsJob r j → old ≡ j.truck.value → new ≡ record old { number = n; bytes = new.bytes } → ((e : Entry) → old.bytes ≡ entry_frame e → new.bytes ≡ entry_frame (record e { number = n }))
    → 1 ≤ n → n < 2 ^ 48 → IsSpelled (held_of new) × (new.behind ≡ [])
spelled r n j old new is was now bytes least most =
    let has = carried r n j old new is was now bytes least most in
    let behind : new.behind ≡ [] = ap (λ (h : Haul). h.behind) now ∙ ap (λ (h : Haul). h.behind) was ∙ is.alone in
    let it : (e : Entry) × Carries (alone (held_of new)) e = (entry_under r n j, record { entry = has.entry; bytes = has.bytes; region = has.region; number = has.number; families = has.families }) in
    (∣ it ∣₁, behind)

-- what it keeps is that entry
pub kept : (r n : ℕ) (j : Job) (old new : Haul) → IsJob r j → old ≡ j.truck.value → new ≡ record old { number = n; bytes = new.bytes } → ((e : Entry) → old.bytes ≡ entry_frame e → new.bytes ≡ entry_frame (record e { number = n }))
    → 1 ≤ n → n < 2 ^ 48 → IsHeld (held_of new) (entry_under r n j)
kept r n j old new is was now bytes least most =
    let has = carried r n j old new is was now bytes least most in
    record { region = sym has.region; number = sym has.number; bytes = has.bytes; entry = has.entry }

abbrev truck_in : Haul → Item → Haul
truck_in none (items.Append truck) = truck.value
truck_in none (items.Sync region number) = none

-- a job whose truck came back is one, under the number that it got
pub came_back : (r n : ℕ) (j : Job) (old new : Haul) (truck given : Box Haul) → items.Append truck ≡ items.Append given → given.value ≡ new → IsJob r j
    → old ≡ j.truck.value → new ≡ record old { number = n; bytes = new.bytes } → ((e : Entry) → old.bytes ≡ entry_frame e → new.bytes ≡ entry_frame (record e { number = n })) → 1 ≤ n → n < 2 ^ 48 → IsJob r (record j { truck = truck })
came_back r n j old new truck given same back is was now bytes least most =
    let value : truck.value ≡ new = ap (truck_in new) same ∙ back in
    record {
      number = n;
      carries = subst (λ (h : Haul). Carries h (entry_under r n j)) (sym value) (carried r n j old new is was now bytes least most);
      alone = ap (λ (h : Haul). h.behind) value ∙ (spelled r n j old new is was now bytes least most).1;
      draft = is.draft;
    }

-- of the lines after which one ended, that one alone has its number
only_one : (r last : ℕ) (pre post : List Line) (x x' y : Line) → x'.number ≡ x.number → Follows last (edits_in r (pre ++ x ∷ post)) → Contains (pre ++ x' ∷ post) y → y.number ≡ x.number → y ≡ x'
only_one r last [] post x x' y same f (zero, lt, e) number = sym e
only_one r last [] post x x' y same f (suc k, lt, e) number =
    let first : x.number ≡ last + 1 = f.0 in
    let above : last + 1 < y.number = above_last r (last + 1) post y f.1 (k, omega (arith, lt), e) in
    absurd (omega (arith, number))
only_one r last (p ∷ pre) post x x' y same f (zero, lt, e) number =
    let first : p.number ≡ last + 1 = f.0 in
    let here : x.number ≡ last + 1 + length pre + 1 = number_at r (last + 1) pre post x f.1 in
    let one : p.number ≡ y.number = ap (λ (z : Line). z.number) e in
    absurd (omega (arith, number))
only_one r last (p ∷ pre) post x x' y same f (suc k, lt, e) number = only_one r (last + 1) pre post x x' y same f.1 (k, omega (arith, lt), e) number

-- where a handler's last line stands
pub record Place (r : ℕ) (base : Base) (xs : List Line) (e : ℕ) (o : Outcome) (x : Line) : Type 0 where
  pub after : base.last < e
  pub within : e ≤ last_in base xs
  pub there : (y : Line) → Contains (with_outcome e o xs) y → y.number ≡ e → y ≡ record x { outcome = o }

pub place_of : (r : ℕ) (base : Base) (xs : List Line) (k : ℕ) (ours : List (Record Line)) (q : Record Line) (e : ℕ) (o : Outcome) → Follows base.last (edits_in r xs) → AreOwn ours xs → slice_get ours k ≡ Some q → (p : EndsPending q.list e) → Place r base xs e o p.last
place_of r base xs k ours q e o follows own at p =
    let l = last_of (k + 1) xs p.front p.last (sym (own k q at) ∙ p.is) in
    let here : Follows base.last (edits_in r (l.pre ++ p.last ∷ l.post)) = subst (λ (zs : List Line). Follows base.last (edits_in r zs)) l.whole follows in
    let number : p.last.number ≡ base.last + length l.pre + 1 = number_at r base.last l.pre l.post p.last here in
    let is : e ≡ base.last + length l.pre + 1 = sym p.number ∙ number in
    let now : with_outcome e o xs ≡ l.pre ++ (record p.last { outcome = o }) ∷ l.post = (λ i. with_outcome (sym p.number i) o (l.whole i)) ∙ ended_middle r base.last o l.pre l.post p.last here in
    let long : length xs ≡ length l.pre + suc (length l.post) = ap length l.whole ∙ length-append l.pre (p.last ∷ l.post) in
    record {
      after = omega (arith, is);
      within = omega (arith, is, long);
      there = λ y in_it num. only_one r base.last l.pre l.post p.last (record p.last { outcome = o }) y refl here (subst (λ (zs : List Line). Contains zs y) now in_it) (num ∙ sym p.number);
    }

middle : (pre post : List Line) (x d : Line) → get_or (pre ++ x ∷ post) (length pre) d ≡ x
middle [] post x d = refl
middle (y ∷ pre) post x d = middle pre post x d

pub last_is : (xs : List Line) (x d : Line) → get_or (xs ++ x ∷ []) (length (xs ++ x ∷ []) - 1) d ≡ x
last_is xs x d =
    let k : length (xs ++ x ∷ []) - 1 ≡ length xs = omega (arith, length-append xs (x ∷ [])) in
    ap (λ (i : ℕ). get_or (xs ++ x ∷ []) i d) k ∙ middle xs [] x d

-- a wish is pushed, or the ring was full
pub asked : (flushes : List Caller) (r : ℕ) (base : Base) (xs : List Line) (mark : Option Caller) (ours : List (Record Line)) (theirs : List (Record ℕ)) (pass pass' : RingKey Item)
    (region number : ℕ) (result : Bool) → IsPart flushes r base xs mark ours theirs pass
    → (IsTrue result → HasPushed (view pass.pass) (items.Sync region number) (view pass'.pass)) → (IsFalse result → (view pass'.pass ≡ view pass.pass) × HadItems 1024 (view pass.pass)) → pass'.region ≡ pass.region
    → IsPart flushes r base xs mark ours theirs pass'
asked flushes r base xs mark ours theirs pass pass' region number true p pushed full same = part_asked flushes r base xs mark ours theirs pass pass' (items.Sync region number) p (pushed refl) same refl refl
asked flushes r base xs mark ours theirs pass pass' region number false p pushed full same = part_full flushes r base xs mark ours theirs pass pass' p (full refl).0 same
