-- What close hands on makes the replies lawful, and keeps receipts, flushes and rolls in each image.
use Rattle.std.proofs.Common.{◌≡◌, ℕ, zero, suc, ◌<◌, ◌≤◌, ◌⊎◌, Bool, true, false, List, [], ◌∷◌, ◌++◌, Contains, AllPairs, Some, None, refl, sym, ap, ◌∙◌, subst, arith, inl, inr}
use Rattle.std.proofs.lemmas.List.Elements.{All-from_recursion, All-contains, Contains-append_cases, Contains-append_left, Contains-append_right}
use Rattle.cell_model.specs.Batch.{Batch}
use Rattle.cell_model.specs.Order.{VersionKey, Payload}
use Rattle.log_model.specs.declared.name.Name.{Name}
use Rattle.log_model.specs.Entry.{Entry}
use Rattle.log_model.specs.Files.{Files, IsLogFile, IsLastLog}
use Rattle.log_model.specs.Recovered.{IsRecovered, IsStored}
use Rattle.region_model.specs.Journal.{Base, Edit, last_of, visible}
use Rattle.region_model.specs.Calls.{Put, Flush, Roll, PutOk, Reply, viewed}
use Rattle.region_model.specs.Lawful.{flushed_of, IsLawful, KeepsPlaces, StopsAtFault, InOrder}
use Rattle.region_model.specs.Crash.{Fits, Receipted}
use Rattle.disk_images.specs.Crash.{DiskView, IsImageNow}
use Rattle.cell_model.specs.Lists.{IsPrefix}
use Rattle.server_model.specs.Pass.{Pass, Naming}
use Rattle.server_model.specs.Steps.{IsRolled}
use Rattle.server_model.specs.Closing.{Region, last_in, IsClosedRegion, Survives, Handled, HasRun, Pairs, AllRun, IsListed, passes_of, replies_of}
use Rattle.server_model.proofs.JournalLaws.{prefix_trans, prefix_length, same_view, handled_has, handled_kept, pairs_all, pairs_append, contains_cons}
use Rattle.server_model.proofs.PassLaws.{Kept, runs_kept, runs_told, InTurn, runs_order}

-- ---- whose reply it is

first_or_later : {A : Type 0} → (y : A) (xs : List A) (x : A) → Contains (y ∷ xs) x → (y ≡ x) ⊎ Contains xs x
first_or_later y xs x (zero, lt, e) = inl e
first_or_later y xs x (suc k, lt, e) = inr (k, omega (arith, lt), e)

owner_of : (hs : List Handled) (x : Reply) → Contains (replies_of hs) x → (h : Handled) × Contains hs h × Contains h.replies x
owner_of [] x is = absurd (omega (arith, is.1))
owner_of (h ∷ hs) x is = elim (Contains-append_cases h.replies (replies_of hs) x is) [
  | inl first ↦ (h, (0, omega arith, refl), first)
  | inr later ↦ let o = owner_of hs x later in (o.0, contains_cons h hs o.0 o.1, o.2)
]

has_reply : (hs : List Handled) (h : Handled) (x : Reply) → Contains hs h → Contains h.replies x → Contains (replies_of hs) x
has_reply [] h x is it = absurd (omega (arith, is.1))
has_reply (g ∷ hs) h x is it = elim (first_or_later g hs h is) [
  | inl same ↦ Contains-append_left g.replies (replies_of hs) x (subst (λ (h : Handled). Contains h.replies x) (sym same) it)
  | inr later ↦ Contains-append_right g.replies (replies_of hs) x (has_reply hs h x later it)
]

pub has_pass : (hs : List Handled) (h : Handled) → Contains hs h → Contains (passes_of hs) h.pass
has_pass [] h is = absurd (omega (arith, is.1))
has_pass (g ∷ hs) h is = elim (first_or_later g hs h is) [
  | inl same ↦ (0, omega arith, ap (λ (h : Handled). h.pass) same)
  | inr later ↦ contains_cons g.pass (passes_of hs) h.pass (has_pass hs h later)
]

pub whose_pass : (hs : List Handled) (p : Pass) → Contains (passes_of hs) p → (h : Handled) × Contains hs h × (h.pass ≡ p)
whose_pass [] p is = absurd (omega (arith, is.1))
whose_pass (g ∷ hs) p is = elim (first_or_later g.pass (passes_of hs) p is) [
  | inl same ↦ (g, (0, omega arith, refl), same)
  | inr later ↦ let o = whose_pass hs p later in (o.0, contains_cons g hs o.0 o.1, o.2)
]

-- ---- a run of all handlers

pub run_of : (name : Naming) (time : ℕ) (hs : List Handled) (h : Handled) → AllRun name time hs → Contains hs h → HasRun name time h
run_of name time hs h a is = All-contains (HasRun name time) hs h (All-from_recursion (HasRun name time) hs a.each) is

pub kept_of : (name : Naming) (time : ℕ) (hs : List Handled) → AllRun name time hs → (x : Reply) → Contains (replies_of hs) x → (h : Handled) × Contains hs h × Kept name time x h.pass
kept_of name time hs a x is =
    let o = owner_of hs x is in
    let run = run_of name time hs o.0 a o.1 in
    (o.0, o.1, runs_kept name time run.0 o.0.pass o.0.replies run.2 x o.2)

all_order : (name : Naming) (time r : ℕ) (hs : List Handled) → AllRun name time hs → Pairs (λ a b. KeepsPlaces r a b × StopsAtFault a b) (replies_of hs)
all_order name time r [] a = tt
all_order name time r (h ∷ hs) a =
    pairs_append (λ a b. KeepsPlaces r a b × StopsAtFault a b) h.replies (replies_of hs)
    (weaker h.replies (runs_order name time a.each.0.0 h.pass h.replies r a.each.0.2))
    (all_order name time r hs (record { each = a.each.1; apart = a.apart.1 }))
    (λ x y is it. ((λ same. absurd (other x y is it same)), (λ same. absurd (other x y is it same))))
  where
    weaker : (xs : List Reply) → Pairs (InTurn r h.pass) xs → Pairs (λ a b. KeepsPlaces r a b × StopsAtFault a b) xs
    weaker [] p = tt
    weaker (x ∷ xs) p = ((λ y is. let o = p.0 y is in (o.places, o.faults)), weaker xs p.1)

    other : (x y : Reply) → Contains h.replies x → Contains (replies_of hs) y → x.handler ≡ y.handler → ⊥
    other x y is it same =
        let k = runs_kept name time a.each.0.0 h.pass h.replies a.each.0.2 x is in
        let o = kept_of name time hs (record { each = a.each.1; apart = a.apart.1 }) y it in
        a.apart.0 o.0 o.1 (sym k.handler ∙ same ∙ o.2.handler)

-- The replies of all handlers are lawful for the journal that close hands on.
pub lawful : (name : Naming) (time r : ℕ) (hs : List Handled) (x : Region) → AllRun name time hs → IsClosedRegion name r (passes_of hs) x
    → AllPairs InOrder (replies_of hs)
    → IsListed name r (replies_of hs)
    → IsLawful r x.base x.edits (replies_of hs)
lawful name time r hs x a closed order listed = record {
  order = order;
  answers = λ reply is. (kept_of name time hs a reply is).2.answers;
  places = pairs_all (KeepsPlaces r) (replies_of hs) (weaker (replies_of hs) (λ p q both. both.0) (all_order name time r hs a));
  scans = λ reply view from to p cells is call answer.
      let o = kept_of name time hs a reply is in
      let k = o.2.scans view r p from to cells call answer in
      let front : IsPrefix k.0 x.edits = prefix_trans k.0 (o.0.pass.known r).shown x.edits k.1 (closed.shown o.0.pass (has_pass hs o.0 o.1)) in
      let place : p ≡ last_of x.base.last k.0 = k.2 ∙ ap (λ (b : Base). last_of b.last k.0) (sym closed.base) in
      let here : cells ≡ viewed view (visible x.base.content k.0 p from to) = k.3 ∙ ap (λ (b : Base). viewed view (visible b.content k.0 p from to)) (sym closed.base) in
      let seen : visible x.base.content k.0 p from to ≡ visible x.base.content x.edits p from to =
      subst (λ p. visible x.base.content k.0 p from to ≡ visible x.base.content x.edits p from to) (sym place) (same_view x.base k.0 x.edits from to closed.journal.numbers front) in
      (omega (arith, place), omega (arith, place, prefix_length k.0 x.edits front), here ∙ ap (viewed view) seen);
  puts = λ reply n is on number.
      let o = kept_of name time hs a reply is in
      let k = o.2.puts r n on number in
      (k.0, handled_kept o.0.pass.handler x.edits k.0 (subst (λ l. Contains l k.0) (closed.own o.0.pass (has_pass hs o.0 o.1)) k.1), k.2, k.3);
  told = λ e is.
      let p = closed.owners e is in
      let h = whose_pass hs p.0 p.1 in
      let same : e.caller.handler ≡ h.0.pass.handler = sym p.2 ∙ sym (ap (λ (q : Pass). q.handler) h.2) in
      let own : Contains (h.0.pass.known r).own e = subst (λ l. Contains l e) (sym (closed.own h.0.pass (has_pass hs h.0 h.1))) (handled_has h.0.pass.handler x.edits e is same) in
      let run = run_of name time hs h.0 a h.1 in
      elim (runs_told name time run.0 h.0.pass h.0.replies run.2 r e own) [
        | inl before ↦ absurd (none e (subst (λ l. Contains l e) (run.1.own r) before))
        | inr told ↦ (told.0, has_reply hs h.0 told.0 h.1 told.1, told.2)
      ];
  faults = pairs_all StopsAtFault (replies_of hs) (weaker (replies_of hs) (λ p q both. both.1) (all_order name time r hs a));
  flushes = λ reply n is on number.
      let o = kept_of name time hs a reply is in
      let k = o.2.flushes r n on number in
      let least : x.base.last ≡ (name.bases r).last = ap (λ (b : Base). b.last) closed.base in
      (omega (arith, least, k.0), omega (arith, k.1, closed.synced_seen o.0.pass (has_pass hs o.0 o.1), closed.synced));
  busy = λ reply h c is on answer.
      let o = kept_of name time hs a reply is in
      let k = o.2.busy r h c on answer in
      (k.0, listed (record { handler = h; call = c }) k.1);
  spent = λ reply n is on answer.
      let o = kept_of name time hs a reply is in
      let k = o.2.spent r n on answer in
      (k.0, omega (arith, k.0, closed.limit, closed.spent o.0.pass n (has_pass hs o.0 o.1) k.1));
}
  where
    none : (e : Edit) → Contains [] e → ⊥
    none e is = omega (arith, is.1)

    weaker : {R : Reply → Reply → Type 0} → (xs : List Reply) → ((p q : Reply) → KeepsPlaces r p q × StopsAtFault p q → R p q) → Pairs (λ a b. KeepsPlaces r a b × StopsAtFault a b) xs → Pairs R xs
    weaker [] f p = tt
    weaker (y ∷ ys) f p = ((λ z is. f y z (p.0 z is)), weaker ys f p.1)

-- Each receipted number is in each image, and all edits are where the log isn't broken.
pub survives : (name : Naming) (time r : ℕ) (hs : List Handled) (x : Region) (disk : DiskView) (broken : Bool) → AllRun name time hs → IsClosedRegion name r (passes_of hs) x → Survives disk broken r x
    → (J : Files) → IsImageNow disk J → (m : ℕ) × Fits J r x.base x.edits m × ((n : ℕ) → Receipted r n (replies_of hs) → n ≤ m) × (broken ≡ false → m ≡ last_in x)
survives name time r hs x disk broken a closed s J image =
    let i = s.images J image in (
      i.0,
      i.1,
      (λ n receipt.
          let o = kept_of name time hs a receipt.0 receipt.1 in
          omega (arith, o.2.receipts r n receipt.2, closed.synced_seen o.0.pass (has_pass hs o.0 o.1), i.2)),
      i.4,
    )

-- What a flush of all families told is stored in each image.
pub flush_was_done : (name : Naming) (time r : ℕ) (hs : List Handled) (x : Region) (disk : DiskView) (broken : Bool) → AllRun name time hs → IsClosedRegion name r (passes_of hs) x → Survives disk broken r x
    → (reply : Reply) (n : ℕ) → Contains (replies_of hs) reply → reply.call ≡ Flush r None → flushed_of reply.answer ≡ Some n
    → (J : Files) (v : VersionKey) (p : Payload) → IsImageNow disk J → IsRecovered J r v p → v.number ≤ n → IsStored J r v p
flush_was_done name time r hs x disk broken a closed s reply n is call number J v p image recovered low =
    let o = kept_of name time hs a reply is in
    s.stored J v p image recovered (omega (arith, low, o.2.stored r n call number, closed.stored_seen o.0.pass (has_pass hs o.0 o.1)))

-- After a roll the log file of the greatest number has none of the entries that were durable before.
pub roll_was_done : (name : Naming) (time r : ℕ) (hs : List Handled) (x : Region) (disk : DiskView) (broken : Bool) → AllRun name time hs → IsClosedRegion name r (passes_of hs) x → Survives disk broken r x
    → (h : Handled) → Contains hs h → (front mid back : List Reply) (put roll : Reply) → h.replies ≡ front ++ put ∷ (mid ++ roll ∷ back)
    → (n : ℕ) (batch : Batch) → put.call ≡ Put r true batch → put.answer ≡ PutOk n → roll.call ≡ Roll → IsRolled roll.answer
    → (J : Files) (log : Name) (entries : List Entry) (e : Entry) → IsImageNow disk J → IsLastLog J log → IsLogFile J log entries → Contains entries e → e.region ≡ r → n < e.number
roll_was_done name time r hs x disk broken a closed s h is front mid back put roll split n batch call ans rolls rolled J log entries e image greatest file member on =
    let run = run_of name time hs h a is in
    let pairs = runs_order name time run.0 h.pass h.replies r run.2 in
    let o = at front (subst (Pairs (InTurn r h.pass)) split pairs) in
    omega (arith, o.rolls n batch call ans rolls rolled, closed.closed_seen h.pass (has_pass hs h is), s.closed J log entries e image greatest file member on)
  where
    at : (front : List Reply) → Pairs (InTurn r h.pass) (front ++ put ∷ (mid ++ roll ∷ back)) → InTurn r h.pass put roll
    at [] p = p.0 roll (Contains-append_right mid (roll ∷ back) roll (0, omega arith, refl))
    at (y ∷ ys) p = at ys p.1

-- ---- rolls, over the replies of all handlers

-- of a durable put and a later roll of its handler: the pass has seen a closed word at or above the put's number
abbrev pub RollCovers : List Handled → Reply → Reply → Type 0
RollCovers hs a b = (r n : ℕ) (batch : Batch) → a.handler ≡ b.handler → a.call ≡ Put r true batch → a.answer ≡ PutOk n → b.call ≡ Roll → IsRolled b.answer
    → (h : Handled) × Contains hs h × (n ≤ (h.pass.known r).closed)

pairs_each : (R : ℕ → Reply → Reply → Type 0) (xs : List Reply) → ((r : ℕ) → Pairs (R r) xs) → Pairs (λ a b. (r : ℕ) → R r a b) xs
pairs_each R [] h = tt
pairs_each R (x ∷ xs) h = ((λ y is r. (h r).0 y is), pairs_each R xs (λ r. (h r).1))

pub rolls_cover : (name : Naming) (time : ℕ) (all hs : List Handled) → ((h : Handled) → Contains hs h → Contains all h) → AllRun name time hs → Pairs (RollCovers all) (replies_of hs)
rolls_cover name time all [] sub a = tt
rolls_cover name time all (h ∷ hs) sub a =
    pairs_append (RollCovers all) h.replies (replies_of hs)
    (weaker h.replies (pairs_each (λ r. InTurn r h.pass) h.replies (λ r. runs_order name time a.each.0.0 h.pass h.replies r a.each.0.2)))
    (rolls_cover name time all hs (λ g is. sub g (contains_cons h hs g is)) (record { each = a.each.1; apart = a.apart.1 }))
    (λ x y is it r n batch same. absurd (other x y is it same))
  where
    weaker : (xs : List Reply) → Pairs (λ a b. (r : ℕ) → InTurn r h.pass a b) xs → Pairs (RollCovers all) xs
    weaker [] p = tt
    weaker (x ∷ xs) p = ((λ y is r n batch same put ok roll rolled. (h, sub h (0, omega arith, refl), (p.0 y is r).rolls n batch put ok roll rolled)), weaker xs p.1)

    other : (x y : Reply) → Contains h.replies x → Contains (replies_of hs) y → x.handler ≡ y.handler → ⊥
    other x y is it same =
        let k = runs_kept name time a.each.0.0 h.pass h.replies a.each.0.2 x is in
        let o = kept_of name time hs (record { each = a.each.1; apart = a.apart.1 }) y it in
        a.apart.0 o.0 o.1 (sym k.handler ∙ same ∙ o.2.handler)
