-- Where the evidence of turns is false: of a log whose first item came from no region, and of a log with a disk that hasn't done what is answered.
use Rattle.std.proofs.Common.{◌≡◌, inl, inr, ℕ, ◌+◌, ◌*◌, ◌<◌, ◌≤◌, ◌==◌, Bool, true, List, [], ◌∷◌, ◌++◌, length, get_or, refl, sym, ap, ◌∙◌, subst, arith}
use Rattle.std.specs.Prelude.{if◌then◌else◌, ◌-◌, ◌^◌, Option, Some, None, Ok, Err, IsTrue}
use Rattle.std.proofs.Math.Logic.{∥∥₁_elim}
use Rattle.std.proofs.lemmas.Bool.Decides.{nat_tests}
use Rattle.std.proofs.lemmas.List.{append-nil, nil_from_length}
use Rattle.crossbeam_queue.specs.Passes.{view}
use Rattle.append_ring.specs.declared.knows.Knows.{Knows}
use Rattle.append_ring.specs.Rules.{Possible, of, base_of}
use Rattle.recovery_laws.specs.Kept.{Kept, committed}
use Rattle.recovery_laws.proofs.Lists.{flushed_here}
use Rattle.disk_images.specs.declared.disk.Disk.{Ghosts as Disks}
use Rattle.log_berth.specs.declared.known.Known.{Known}
use Rattle.log_trucks.specs.Held.{Held}
use Rattle.log_ledger.specs.History.{family_in}
use Rattle.log_device.specs.declared.error.Rolled.{Rolled}
use Rattle.log_device.specs.Whole.{numbers_of}
use Rattle.log_halves.specs.declared.item.Item.{Item}
use Rattle.log_halves.specs.declared.item.Item.TheVariants as items
use Rattle.log_halves.specs.declared.starting.Written.{Written}
use Rattle.log_halves.specs.declared.name.ServiceNaming.{Ghosts}
use Rattle.log_halves.specs.declared.consumer.ConsumerHalf.{ConsumerHalf}
use Rattle.log_halves.specs.Items.{region_of, number_of, IsWholeItem, held_in}
use Rattle.log_halves.specs.Moves.{WasEmpty, WasFull}
use Rattle.log_halves.specs.Counts.{one_more, with_stores, flushed_by, rolled_by}
use Rattle.log_halves.specs.Numbers.{seen_synced}
use Rattle.log_halves.specs.Trucks.{FollowFrom, onward, come_to}
use Rattle.log_halves.specs.Chains.{all_trucks, AreInOrder}
use Rattle.log_halves.specs.Order.{follow_front}
use Rattle.log_halves.proofs.Numbers.{told_past}
use Rattle.log_halves.proofs.Chains.{follow_back, come_append}
use Rattle.log_halves.proofs.Committed.{of_all, come_later}
use Rattle.log_halves.proofs.ItemLaws.{all_with}
use Rattle.log_service.specs.Turns.{HasMovedItems, FoundEmpty, FoundTooLong, HasMovedAll, HasSynced, FoundNoChain, SawAllChains, HasRolledFile, HasFlushedFamily}

-- ---- the consumer's evidence, of a log whose ring let out an item of region 0

abbrev stray : List Item
stray = items.Sync 0 0 ∷ []

-- the rule of the ring lets no such item out, whatever it holds
pub never : (v : Knows Item) (held : List Item) → v.pops ≡ true → v.popped ≡ stray → Possible region_of number_of IsWholeItem (λ _ _. Unit {0}) v held → ⊥
never v held pops popped (views, pass, kept, here) =
    let reads = (kept.each pass v here).reads pops in
    let none : of region_of 0 v.popped ++ of region_of 0 held ≡ [] = ap (λ (xs : List Item). of region_of 0 xs ++ of region_of 0 held) reads.1 ∙ (kept.flows 0 ∙ kept.zeroth) in
    absurd (cc (subst (λ (xs : List Item). of region_of 0 xs ++ of region_of 0 held ≡ []) popped none))

not_empty : (v : Knows Item) → v.pops ≡ true → v.popped ≡ stray → WasEmpty v → ⊥
not_empty v pops popped (held, none, possible) = never v held pops popped possible

-- the name of such a log: all that came out is that item, and none is held
abbrev named : {N : Type 0} → Ghosts N → Ghosts N
named g = record (g) {
  came = λ xs held. (xs ≡ stray) × (held ≡ None);
  came_out = λ v w x pops was got. absurd (never v (x ∷ got.oldest.0) pops was.0 got.oldest.1);
  came_in = λ xs x was. absurd (cc was.1);
}

no_length : (xs : List Item) (n : ℕ) → [] ≡ xs ++ [] → length xs ≡ n → 0 < n → ⊥
no_length [] n none count some = omega (arith, count, some)
no_length (x ∷ xs) n none count some = absurd (cc none)

no_truck : (o : Option Item) {x : Item} → o ≡ None → o ≡ Some x → ⊥
no_truck o none some = absurd (cc (none, some))

module _ {N : Type 0} (g : Ghosts N) where
  -- whatever follows from what came out of both halves
  both : {X : Type 0} (a b : ConsumerHalf N (named g))
      → (((view a.consumer.pass).popped ≡ stray) × (a.held ≡ None) → ((view b.consumer.pass).popped ≡ stray) × (b.held ≡ None) → X → ⊥) → X → ⊥
  both a b so x = ∥∥₁_elim a.came (λ p q. absurd p) (λ old. ∥∥₁_elim b.came (λ p q. absurd p) (λ new. so old new x))

  pub none_moved : (n : ℕ) → 0 < n → HasMovedItems (named g) n → ⊥
  none_moved n some e = both e.old e.new (λ old new moved.
      let more : [] ≡ moved.more = cc (sym new.0 ∙ (moved.popped ∙ ap (λ (xs : List Item). xs ++ moved.more) old.0)) in
      let turn : [] ≡ e.items ++ [] = ap (λ (p : Option Item × List Item). held_in p.0 ++ p.1) {x = (None, [])} {y = (e.old.held, moved.more)} (λ i. (sym old.1 i, more i)) ∙ (moved.in_turn ∙ ap (λ (o : Option Item). e.items ++ held_in o) new.1) in
      no_length e.items n turn e.count some) e.moved

  pub none_found : FoundEmpty (named g) → ⊥
  none_found e = both e.old e.new (λ old new empty. not_empty (view e.new.consumer.pass) e.new.consumer.pops new.0 empty) e.empty

  pub none_long : FoundTooLong (named g) → ⊥
  none_long e = both e.old e.new (λ old new long. no_truck e.new.held new.1 long.1) e.long

  pub not_all : HasMovedAll (named g) → ⊥
  not_all e = both e.old e.new (λ old new moved. elim moved as (λ _. ⊥) [
    | inl empty ↦ not_empty (view e.new.consumer.pass) e.new.consumer.pops new.0 empty
    | inr many ↦ let were = ap (λ (xs : List Item). length xs) old.0 in let are = ap (λ (xs : List Item). length xs) new.0 in omega (arith, many, were, are)
  ]) e.moved

-- ---- the device's evidence, of any disk

onward_here : (f : ℕ → ℕ) (t : Held) → onward f t t.region ≡ t.number
onward_here f t = let yes : (t.region == t.region) ≡ true = grind (arith, nat_tests) in ap (λ (b : Bool). if b then t.number else f t.region) yes

-- a truck in order rises above the start
one_rises : (lasts : List ℕ) (front : List Held) (t : Held) (ts : List Held) → FollowFrom lasts (front ++ t ∷ ts) → (0 < t.region) × (t.region ≤ length lasts) × (base_of lasts t.region < come_to (base_of lasts) (front ++ t ∷ ts) t.region)
one_rises lasts front t ts follow =
    let n = length lasts in
    let first = come_to (base_of lasts) front in
    let rest = follow_back n (base_of lasts) front (t ∷ ts) follow in
    let low = come_later n (base_of lasts) front t.region (follow_front n (base_of lasts) front (t ∷ ts) follow) in
    let high = come_later n (onward first t) ts t.region rest.1 in
    let here : onward first t t.region ≡ t.number = onward_here first t in
    let all : come_to (base_of lasts) (front ++ t ∷ ts) t.region ≡ come_to (onward first t) ts t.region = ap (λ (f : ℕ → ℕ). f t.region) (come_append (base_of lasts) front (t ∷ ts)) in
    (omega (arith, rest.0.0.0), rest.0.0.1, omega (arith, low, high, here, all, rest.0.1))

-- a chain of at least one truck, committed after others
chain_rises : (lasts : List ℕ) (before after : List (List Held)) (chain : List Held) → after ≡ before ++ chain ∷ [] → 1 ≤ length chain → AreInOrder lasts after
    → (r : ℕ) × (0 < r) × (r ≤ length lasts) × (base_of lasts r < come_to (base_of lasts) (all_trucks after) r)
chain_rises lasts before after [] is some order = absurd (omega (arith, some))
chain_rises lasts before after (t ∷ ts) is some order =
    let all : all_trucks after ≡ all_trucks before ++ t ∷ ts = ap all_trucks is ∙ all_with before (t ∷ ts) in
    let up = one_rises lasts (all_trucks before) t ts (subst (FollowFrom lasts) all order) in
    (t.region, up.0, up.1, subst (λ (l : List Held). base_of lasts t.region < come_to (base_of lasts) l t.region) (sym all) up.2)

-- what the ring of chains let out was in order where it was empty at a moment
out_in_order : (lasts : List ℕ) (v : Knows (List Held)) → v.pops ≡ true → v.lasts ≡ lasts → WasFull 0 v → AreInOrder lasts v.popped
out_in_order lasts v pops is (held, none, (views, pass, kept, here)) =
    let reads = (kept.each pass v here).reads pops in
    let empty : held ≡ [] = nil_from_length held none in
    let out : kept.pushed 1 ≡ v.popped = sym (kept.flows 1) ∙ (ap (λ (l : List (List Held)). of (λ (_ : List Held). 1) 1 kept.popped ++ of (λ (_ : List Held). 1) 1 l) empty ∙ (append-nil (of (λ (_ : List Held). 1) 1 kept.popped) ∙ (of_all kept.popped ∙ sym reads.1))) in
    subst (λ (p : List ℕ × List (List Held)). AreInOrder p.0 p.1) {x = (kept.lasts, kept.pushed 1)} {y = (lasts, v.popped)} (λ i. ((sym reads.2 ∙ is) i, out i)) (kept.ordered 1)

module _ {D N : Type 0} (d : Disks D) (g : Ghosts N) where
  -- a commit, of a seat by which each synced word still stands at the start's number
  pub none_synced : (old new : Known) (n : ℕ) → ((r : ℕ) → 0 < r → r ≤ length g.lasts → seen_synced new r ≡ base_of g.lasts r) → HasSynced d g old new n → ⊥
  none_synced old new n still e =
      let up = chain_rises g.lasts (view e.before.consumer.pass).popped (view e.after.consumer.pass).popped e.chain e.popped (omega (arith, e.count, e.some)) e.in_order in
      omega (arith, still up.0 up.1 up.2, e.sees up.0 up.1 up.2, up.3)

  -- no chain there, of a seat that has seen a number at a word above the last one of the log's regions
  pub none_clean : (k : Known) (i : ℕ) → 3 * length g.lasts ≤ i → 0 < get_or k.seen i 0 → FoundNoChain d g k → ⊥
  none_clean k i past some e = omega (arith, e.below i, told_past e.half.regions (numbers_of e.half.device) i (omega (arith, past, e.half.all.0)), some)

  -- all chains committed, of a seat that has seen a region's synced word below the start's number
  pub none_drained : (k : Known) (r : ℕ) → 0 < r → r ≤ length g.lasts → seen_synced k r < base_of g.lasts r → SawAllChains d g k → ⊥
  none_drained k r above within low e =
      let v = view e.half.consumer.pass in
      let order = out_in_order g.lasts v e.half.consumer.pops e.half.from.1 e.empty in
      omega (arith, low, e.saw r above within, come_later (length g.lasts) (base_of g.lasts) (all_trucks v.popped) r order)

  -- a roll of a file without entries
  pub none_rolled : (n : ℕ) (rolled : Rolled) (k : Known) → rolled.entries ≡ 0 → HasRolledFile d g n (Ok rolled) k → ⊥
  none_rolled n rolled k none e = omega (arith, none, e.rolls.rolled.some)

  -- on a told disk a flush up to a number above the one that the seat has seen committed
  pub none_flushed : (r : ℕ) (family : Option (List ℕ)) (n : ℕ) (k : Known) → IsTrue d.told → 0 < r → r ≤ length g.lasts → seen_synced k r < n → HasFlushedFamily d g (length g.lasts) r family (Ok n) k → ⊥
  none_flushed r family n k told above within high e = ∥∥₁_elim (e.flushes.flush.flushed told) (λ p q. absurd p) (λ did.
      let new = did.1 in
      let cells = did.4 in
      let at : new.kept.flushed r cells.some.of ≡ n = ap (λ (o : Kept). o.flushed r cells.some.of) cells.flushed ∙ flushed_here (committed did.0.kept) r (family_in family) n r cells.some.of refl cells.some.for in
      let low = did.3.keeps.orderly.low r cells.some.of in
      let is = did.3.counted.synced r (e.half.served r above within) in
      omega (arith, high, at, low, is, e.sees.synced r above within))

-- ---- what is counted, below the end of the type

-- a store file was written, and the tally stays
uncounted_flush : (T E : Type 0) (t : T) (w : Written) → w.stores < 2 ^ 64 - 1 → w ≡ flushed_by {T = T} {E = E} (Ok t) w → ⊥
uncounted_flush T E t w low is = let same : w.stores ≡ one_more w.stores = ap (λ (v : Written). v.stores) is in omega (arith, low, same)

-- none was written, and the tally has one more
counted_refusal : (T E : Type 0) (e : E) (w : Written) → w.stores < 2 ^ 64 - 1 → with_stores w (one_more w.stores) ≡ flushed_by {T = T} {E = E} (Err e) w → ⊥
counted_refusal T E e w low is = let same : one_more w.stores ≡ w.stores = ap (λ (v : Written). v.stores) is in omega (arith, low, same)

-- a log file was closed, and the tally stays
uncounted_roll : (T E : Type 0) (t : T) (w : Written) → w.logs < 2 ^ 64 - 1 → w ≡ rolled_by {T = T} {E = E} (Ok t) w → ⊥
uncounted_roll T E t w low is = let same : w.logs ≡ one_more w.logs = ap (λ (v : Written). v.logs) is in omega (arith, low, same)
