-- What images hold of the entries pushed, once a service is closed.
use Rattle.std.proofs.Common.{◌≡◌, ℕ, ◌+◌, ◌==◌, Bool, true, false, List, [], ◌∷◌, ◌++◌, length, take, refl, sym, ap, ◌∙◌, subst, arith, length-append}
use Rattle.std.specs.Prelude.{if◌then◌else◌, cond}
use Rattle.std.proofs.lemmas.Bool.Decides.{nat_tests}
use Rattle.cell_model.specs.Order.{Content}
use Rattle.log_model.specs.Entry.{Entry, entry_frame}
use Rattle.log_model.specs.LogText.{opened}
use Rattle.log_model.proofs.FrameLaws.{same_entry}
use Rattle.log_model.specs.Files.{Files, IsFit}
use Rattle.log_model.specs.Recovered.{IsRecovered, IsContent, IsLast, put_entries, entries_of}
use Rattle.recovery_laws.specs.Change.{RecoversWith, LastsWith, last_of}
use Rattle.recovery_laws.specs.Kept.{AreRising, raised}
use Rattle.recovery_laws.proofs.Contents.{content_with, rising_new}
use Rattle.recovery_laws.proofs.Numbers.{recovered_low}
use Rattle.std.specs.Global.{Box}
use Rattle.append_ring.specs.Rules.{base_of, of}
use Rattle.log_trucks.specs.Held.{Held, Haul, IsHeld, AreHeld, held_of}
use Rattle.log_halves.specs.declared.item.Item.{Item}
use Rattle.log_halves.specs.declared.item.Item.TheVariants as items
use Rattle.log_halves.specs.Items.{region_of, appended}
use Rattle.log_halves.specs.Trucks.{FollowOn, FollowFrom, onward, of_held}
use Rattle.log_halves.specs.Order.{follow_front}
use Rattle.log_service.specs.Closed.{Image}

-- a truck spells one entry
pub one_entry : (t : Held) (d e : Entry) → IsHeld t d → IsHeld t e → d ≡ e
one_entry t d e f g =
    let bytes : opened (entry_frame d) ++ 0 ∷ [] ≡ opened (entry_frame e) ++ 0 ∷ [] = ap (λ (l : List ℕ). opened l ++ 0 ∷ []) (sym f.bytes ∙ g.bytes) in
    (same_entry (opened (entry_frame d) ++ 0 ∷ []) (0 ∷ []) (0 ∷ []) d e (record { entry = f.entry; more = omega arith; is = refl }) (record { entry = g.entry; more = omega arith; is = bytes })).0

-- so trucks spell one list, and more trucks spell one that goes on
pub held_front : (xs ys : List Held) (es fs : List Entry) → AreHeld xs es → AreHeld (xs ++ ys) fs → (rest : List Entry) × (fs ≡ es ++ rest)
held_front [] ys [] fs f g = (fs, refl)
held_front [] ys (e ∷ es) fs f g = absurd f
held_front (x ∷ xs) ys [] fs f g = absurd f
held_front (x ∷ xs) ys (e ∷ es) [] f g = absurd g
held_front (x ∷ xs) ys (e ∷ es) (d ∷ fs) f g =
    let r = held_front xs ys es fs f.1 g.1 in
    (r.0, (λ i. one_entry x d e g.0 f.0 i ∷ r.1 i))

of_append_at : (b : Bool) (t : Held) (xs ys : List Held) → (if b then (t ∷ (xs ++ ys)) else (xs ++ ys)) ≡ (if b then (t ∷ xs) else xs) ++ ys
of_append_at true t xs ys = refl
of_append_at false t xs ys = refl

pub of_held-append : (r : ℕ) (xs ys : List Held) → of_held r (xs ++ ys) ≡ of_held r xs ++ of_held r ys
of_held-append r [] ys = refl
of_held-append r (t ∷ ts) ys = ap (λ (l : List Held). if t.region == r then (t ∷ l) else l) (of_held-append r ts ys) ∙ of_append_at (t.region == r) t (of_held r ts) (of_held r ys)

region_at : (b : Bool) (t : Held) (ts : List Held) (e : Entry) (es : List Entry) → IsHeld t e → AreHeld ts es → AreHeld (if b then (t ∷ ts) else ts) (cond b (e ∷ es) es)
region_at true t ts e es f g = (f, g)
region_at false t ts e es f g = g

-- the trucks of one region spell the entries of it
pub held_region : (r : ℕ) (ts : List Held) (es : List Entry) → AreHeld ts es → AreHeld (of_held r ts) (entries_of r es)
held_region r [] [] h = tt
held_region r [] (e ∷ es) h = absurd h
held_region r (t ∷ ts) [] h = absurd h
held_region r (t ∷ ts) (e ∷ es) h =
    subst (λ (b : Bool). AreHeld (if t.region == r then (t ∷ of_held r ts) else (of_held r ts)) (cond b (e ∷ entries_of r es) (entries_of r es))) (ap (λ (n : ℕ). n == r) h.0.region)
    (region_at (t.region == r) t (of_held r ts) e (entries_of r es) h.0 (held_region r ts es h.1))

same_step : (last : ℕ → ℕ) (t : Held) (e : Entry) → IsHeld t e → onward last t ≡ raised last e
same_step last t e h = λ i r. if (h.region i == r) then (h.number i) else (last r)

-- numbers that follow one another rise
pub rising_held : (n : ℕ) (last : ℕ → ℕ) (ts : List Held) (es : List Entry) → FollowOn n last ts → AreHeld ts es → AreRising last es
rising_held n last [] [] f h = tt
rising_held n last [] (e ∷ es) f h = absurd h
rising_held n last (t ∷ ts) [] f h = absurd h
rising_held n last (t ∷ ts) (e ∷ es) f h =
    let at : last t.region ≡ last e.region = ap last h.0.region in
    (omega (arith, f.0.1, h.0.number, at), subst (λ (l : ℕ → ℕ). AreRising l es) (same_step last t e h.0) (rising_held n (onward last t) ts es f.1 h.1))

count_at : (b : Bool) (number m : ℕ) (e : Entry) (es : List Entry) → (b ≡ true → number ≡ m + 1) → (if b then number else m) + length es ≡ m + length (cond b (e ∷ es) es)
count_at true number m e es is = let one = is refl in omega (arith, one)
count_at false number m e es is = refl

-- the last number is that of the start and one for each entry
pub count_last : (n : ℕ) (last : ℕ → ℕ) (ts : List Held) (es : List Entry) (r : ℕ) → FollowOn n last ts → AreHeld ts es → last_of r (last r) es ≡ last r + length (entries_of r es)
count_last n last [] [] r f h = omega arith
count_last n last [] (e ∷ es) r f h = absurd h
count_last n last (t ∷ ts) [] r f h = absurd h
count_last n last (t ∷ ts) (e ∷ es) r f h =
    let here : onward last t r ≡ (if e.region == r then e.number else last r) = λ i. same_step last t e h.0 i r in
    let more : last_of r (onward last t r) es ≡ onward last t r + length (entries_of r es) = count_last n (onward last t) ts es r f.1 h.1 in
    subst (λ (k : ℕ). last_of r k es ≡ k + length (entries_of r es)) here more
    ∙ count_at (e.region == r) e.number (last r) e (entries_of r es) (λ is. sym h.0.number ∙ (f.0.1 ∙ ap (λ (k : ℕ). last k + 1) (h.0.region ∙ (let same : e.region ≡ r = grind (arith, nat_tests, is) in same))))

pub take_front : {A : Type 0} (xs ys : List A) → take (length xs) (xs ++ ys) ≡ xs
take_front [] ys = let none : take 0 ys ≡ [] = refl in none
take_front (x ∷ xs) ys = ap (λ l. x ∷ l) (take_front xs ys)

-- An image that recovers to the files at the start with the entries of the first trucks has the region's content with the first of the entries pushed.
pub image_of : (found : Files) (first : List ℕ) (r : ℕ) (c : Content) (pushed more : List Entry) (ts us : List Held) (J : Files) → FollowFrom first (ts ++ us) → AreHeld ts more → AreHeld (of_held r (ts ++ us)) pushed
    → IsLast found r (base_of first r) → IsContent (IsRecovered found r) c → IsFit J → RecoversWith found more J → LastsWith found more J → Image r (base_of first r) c pushed J (length (entries_of r more))
image_of found first r c pushed more ts us J follow held all last content fit with lasts_too =
    let f = follow_front (length first) (base_of first) ts us follow in
    let split = held_front (of_held r ts) (of_held r us) (entries_of r more) pushed (held_region r ts more held) (subst (λ (l : List Held). AreHeld l pushed) (of_held-append r ts us) all) in
    let front : take (length (entries_of r more)) pushed ≡ entries_of r more = ap (take (length (entries_of r more))) split.1 ∙ take_front (entries_of r more) split.0 in
    let new = rising_new c (base_of first) r more (λ v p got. recovered_low found r (base_of first r) v p last ((content v p).0 got)) (rising_held (length first) (base_of first) ts more f held) in
    record {
      fit = fit;
      within = (let len = ap length split.1 in omega (arith, len, length-append (entries_of r more) split.0));
      content = subst (λ (es : List Entry). IsContent (IsRecovered J r) (put_entries c es)) (sym front) (content_with found J more r c with content new);
      last_is = subst (IsLast J r) (count_last (length first) (base_of first) ts more r f held) (lasts_too r (base_of first r) last);
    }

appended_at : (b : Bool) (truck : Box Haul) (xs : List Item) → appended (cond b (items.Append truck ∷ xs) xs) ≡ (if b then (held_of truck.value ∷ appended xs) else appended xs)
appended_at true truck xs = refl
appended_at false truck xs = refl

asked_at : (b : Bool) (region number : ℕ) (xs : List Item) → appended (cond b (items.Sync region number ∷ xs) xs) ≡ appended xs
asked_at true region number xs = refl
asked_at false region number xs = refl

-- the appends among a region's items are the region's trucks
pub appended_of : (r : ℕ) (xs : List Item) → appended (of region_of r xs) ≡ of_held r (appended xs)
appended_of r [] = refl
appended_of r (items.Append truck ∷ xs) =
    appended_at (truck.value.region == r) truck (of region_of r xs)
    ∙ ap (λ (l : List Held). if truck.value.region == r then (held_of truck.value ∷ l) else l) (appended_of r xs)
appended_of r (items.Sync region number ∷ xs) = asked_at (region == r) region number (of region_of r xs) ∙ appended_of r xs
