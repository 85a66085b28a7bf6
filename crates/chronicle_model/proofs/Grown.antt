-- What stays of a chronicle where its store's log is written on.
use Rattle.std.proofs.Common.{◌≡◌, ℕ, zero, suc, ◌<◌, ◌≤◌, ◌+◌, ◌⊎◌, true, List, [], ◌∷◌, ◌++◌, length, get_or, Contains, Option, Some, None, refl, sym, ap, ◌∙◌, subst, arith, inl, inr, append_assoc, append-nil, length-append}
use Rattle.std.specs.Prelude.{slice_get}
use Rattle.std.proofs.lemmas.Bool.{cases_lt, cases_order}
use Rattle.std.proofs.lemmas.Bool.Decides.{nat_tests}
use Rattle.std.proofs.lemmas.List.Elements.{Contains-append_right}
use Rattle.std.proofs.lemmas.Option.{slice_get-get_or, slice_get_within}
use Rattle.log_model.specs.Entry.{Entry}
use Rattle.log_model.specs.LogText.{FileKey, IsLogText}
use Rattle.log_model.specs.Files.{Files}
use Rattle.log_model.proofs.TextLaws.{one_text}
use Rattle.chronicle_model.specs.Chronicle.{bytes_of, LogIsThere, HasLog, Placed, StandsIn, ComesBefore, IsChronicle, Position, is_behind}
use Rattle.chronicle_model.specs.Growth.{LogsStay, LowerLogsStay, AppendsTo, Prolongs, IsGoingOn, IsReached, ChronicleIsOne, AppendingProlongs, LaterEntriesAreBehind, ReachedStays, SameLogsGoOn}
use Rattle.chronicle_model.proofs.Order.{here, front_before, begins_with, same_lists, all_pass}

abbrev key : ℕ → FileKey
key number = record { region = 0; number = number }

some_bytes : (a b : List ℕ) → Some a ≡ Some b → a ≡ b
some_bytes a b is = cc

pub not_there : (o : Option (List ℕ)) (bytes : List ℕ) → o ≡ None → o ≡ Some bytes → ⊥
not_there o bytes none some = absurd (cc (none, some))

pub moved_log : (old new : Files) (n : ℕ) (es : List Entry) (ended : Option ℕ) → bytes_of new n ≡ bytes_of old n → HasLog old n es ended → HasLog new n es ended
moved_log old new n es ended same log = (log.0, same ∙ log.1, log.2)

-- a log that reads as it did has the entries that it had
as_it_was : (old new : Files) (n : ℕ) (es : List Entry) (ended : Option ℕ) → bytes_of new n ≡ bytes_of old n → HasLog old n es ended
    → (more : List Entry) × (ended_now : Option ℕ) × HasLog new n (es ++ more) ended_now
as_it_was old new n es ended same log =
    ([], ended, subst (λ (l : List Entry). HasLog new n l ended) (sym (append-nil es)) (moved_log old new n es ended same log))

-- a log has one list of entries
pub one_log : (files : Files) (n : ℕ) (es ds : List Entry) (a b : Option ℕ) → HasLog files n es a → HasLog files n ds b → es ≡ ds
one_log files n es ds a b h g =
    let same : g.0 ≡ h.0 = some_bytes g.0 h.0 (sym g.1 ∙ h.1) in
    (one_text (key n) h.0 es ds a b h.2 (subst (λ (bytes : List ℕ). IsLogText (key n) bytes ds b) same g.2)).0

-- and one end
pub one_end : (files : Files) (n : ℕ) (es ds : List Entry) (a b : Option ℕ) → HasLog files n es a → HasLog files n ds b → a ≡ b
one_end files n es ds a b h g =
    let same : g.0 ≡ h.0 = some_bytes g.0 h.0 (sym g.1 ∙ h.1) in
    (one_text (key n) h.0 es ds a b h.2 (subst (λ (bytes : List ℕ). IsLogText (key n) bytes ds b) same g.2)).1

stays_in : (old new : Files) (x : Placed) → bytes_of new x.file ≡ bytes_of old x.file → StandsIn old x → StandsIn new x
stays_in old new x same s = record { entries = s.entries; ended = s.ended; log = moved_log old new x.file s.entries s.ended same s.log; at = s.at; place = s.place; is = s.is }

pub one_chronicle : ChronicleIsOne
one_chronicle files c d hc hd = same_lists c d hc.order hd.order (λ x is. (hd.exact x).1 ((hc.exact x).0 is)) (λ x is. (hc.exact x).1 ((hd.exact x).0 is))

-- an element at the front is the whole list's
front_get : (xs ys : List Entry) (i : ℕ) → i < length xs → slice_get (xs ++ ys) i ≡ slice_get xs i
front_get [] ys i lt = absurd (omega (arith, lt))
front_get (x ∷ xs) ys zero lt = refl
front_get (x ∷ xs) ys (suc i) lt = front_get xs ys i (omega (arith, lt))

module _ (n : ℕ) (old new : Files) (a : AppendsTo n old new) where
  had_at : (x : Placed) → x.file ≡ n → HasLog old x.file a.entries a.ended
  had_at x same = subst (λ (k : ℕ). HasLog old k a.entries a.ended) (sym same) a.had

  has_at : (x : Placed) → x.file ≡ n → HasLog new x.file (a.entries ++ a.more) a.ended_now
  has_at x same = subst (λ (k : ℕ). HasLog new k (a.entries ++ a.more) a.ended_now) (sym same) a.has

  none_above : (x : Placed) → n < x.file → StandsIn old x → ⊥
  none_above x high s = not_there (bytes_of old x.file) s.log.0 (a.highest x.file high) s.log.1

  -- an entry stays
  stands_on : (x : Placed) → StandsIn old x → StandsIn new x
  stands_on x s = elim (cases_order x.file n) as (λ _. StandsIn new x) [
    | inl same ↦
        let its : s.entries ≡ a.entries = one_log old x.file s.entries a.entries s.ended a.ended s.log (had_at x same) in
        let at : slice_get a.entries s.at ≡ Some x.entry = subst (λ (es : List Entry). slice_get es s.at ≡ Some x.entry) its s.is in
        record {
          entries = a.entries ++ a.more;
          ended = a.ended_now;
          log = has_at x same;
          at = s.at;
          place = s.place;
          is = front_get a.entries a.more s.at (slice_get_within a.entries s.at x.entry at) ∙ at;
        }
    | inr (inl low) ↦ stays_in old new x (a.lower x.file low) s
    | inr (inr high) ↦ absurd (none_above x high s)
  ]

  -- after the entries that the log had
  past_had : (x y : Placed) → x.file ≡ n → (s : StandsIn new x) → length a.entries ≤ s.at → StandsIn old y → ComesBefore y x
  past_had x y same s far t = elim (cases_order y.file n) as (λ _. ComesBefore y x) [
    | inl here ↦
        let its : t.entries ≡ a.entries = one_log old y.file t.entries a.entries t.ended a.ended t.log (had_at y here) in
        let within = slice_get_within t.entries t.at y.entry t.is in
        let length_is : length t.entries ≡ length a.entries = ap (λ (es : List Entry). length es) its in
        inr (here ∙ sym same, omega (arith, s.place, t.place, within, length_is, far))
    | inr (inl low) ↦ inl (omega (arith, low, same))
    | inr (inr high) ↦ absurd (none_above y high t)
  ]

  -- an entry is an old one, or comes after the old ones
  stood_or_later : (x : Placed) → StandsIn new x → StandsIn old x ⊎ ((y : Placed) → StandsIn old y → ComesBefore y x)
  stood_or_later x s = elim (cases_order x.file n) as (λ _. StandsIn old x ⊎ ((y : Placed) → StandsIn old y → ComesBefore y x)) [
    | inl same ↦ elim (cases_lt s.at (length a.entries)) as (λ _. StandsIn old x ⊎ ((y : Placed) → StandsIn old y → ComesBefore y x)) [
      | inl within ↦
          let its : s.entries ≡ a.entries ++ a.more = one_log new x.file s.entries (a.entries ++ a.more) s.ended a.ended_now s.log (has_at x same) in
          inl (record {
            entries = a.entries;
            ended = a.ended;
            log = had_at x same;
            at = s.at;
            place = s.place;
            is = sym (front_get a.entries a.more s.at within) ∙ subst (λ (es : List Entry). slice_get es s.at ≡ Some x.entry) its s.is;
          })
      | inr far ↦ inr (λ y t. past_had x y same s far t)
    ]
    | inr (inl low) ↦ inl (stays_in new old x (sym (a.lower x.file low)) s)
    | inr (inr high) ↦ inr (λ y t. elim (cases_lt n y.file) as (λ _. ComesBefore y x) [ inl above ↦ absurd (none_above y above t) | inr le ↦ inl (omega (arith, le, high)) ])
  ]

  higher_is : (k m : ℕ) → k < m → LogIsThere old m → k < n
  higher_is k m lt there = elim (cases_lt n m) as (λ _. k < n) [ inl above ↦ absurd (not_there (bytes_of old m) there.0 (a.highest m above) there.1) | inr le ↦ omega (arith, lt, le) ]

  still_there : (k : ℕ) → LogIsThere old k → LogIsThere new k
  still_there k there = elim (cases_order k n) as (λ _. LogIsThere new k) [
    | inl same ↦ subst (LogIsThere new) (sym same) (a.has.0, a.has.1)
    | inr (inl low) ↦ (there.0, a.lower k low ∙ there.1)
    | inr (inr high) ↦ absurd (not_there (bytes_of old k) there.0 (a.highest k high) there.1)
  ]

  has_more : (k : ℕ) (es : List Entry) (ended : Option ℕ) → HasLog old k es ended → (more : List Entry) × (ended_now : Option ℕ) × HasLog new k (es ++ more) ended_now
  has_more k es ended log = elim (cases_order k n) as (λ _. (more : List Entry) × (ended_now : Option ℕ) × HasLog new k (es ++ more) ended_now) [
    | inl same ↦
        let its : es ≡ a.entries = one_log old n es a.entries ended a.ended (subst (λ (j : ℕ). HasLog old j es ended) same log) a.had in
        let now : HasLog new n (es ++ a.more) a.ended_now = subst (λ (l : List Entry). HasLog new n (l ++ a.more) a.ended_now) (sym its) a.has in
        (a.more, a.ended_now, subst (λ (j : ℕ). HasLog new j (es ++ a.more) a.ended_now) (sym same) now)
    | inr (inl low) ↦ as_it_was old new k es ended (a.lower k low) log
    | inr (inr high) ↦ absurd (not_there (bytes_of old k) log.0 (a.highest k high) log.1)
  ]

  pub appended : Prolongs old new
  appended = record {
    begins = λ c d hc hd.
        begins_with c d hc.order hd.order (λ x is. (hd.exact x).1 (stands_on x ((hc.exact x).0 is)))
        (λ x is. elim (stood_or_later x ((hd.exact x).0 is)) as (λ _. Contains c x ⊎ ((y : Placed) → Contains c y → ComesBefore y x)) [
          | inl stood ↦ inl ((hc.exact x).1 stood)
          | inr later ↦ inr (λ y has. later y ((hc.exact y).0 has))
        ]);
    lower = λ k m lt there. a.lower k (higher_is k m lt there);
    there = still_there;
    longer = has_more;
  }

pub prolonged : AppendingProlongs
prolonged n old new a = appended n old new a

-- ---- each log reads the same

module _ (old new : Files) (stay : LogsStay old new) where
  still : (x : Placed) → StandsIn old x → StandsIn new x
  still x = stays_in old new x (stay x.file)

  stood : (x : Placed) → StandsIn new x → StandsIn old x
  stood x = stays_in new old x (sym (stay x.file))

  one_list : (c d : List Placed) → IsChronicle old c → IsChronicle new d → d ≡ c
  one_list c d hc hd = same_lists d c hd.order hc.order (λ x is. (hc.exact x).1 (stood x ((hd.exact x).0 is))) (λ x is. (hd.exact x).1 (still x ((hc.exact x).0 is)))

  those_prolong : Prolongs old new
  those_prolong = record {
    begins = λ c d hc hd. ([], one_list c d hc hd ∙ sym (append-nil c));
    lower = λ k m lt there. stay k;
    there = λ k there. (there.0, stay k ∙ there.1);
    longer = λ k es ended log. as_it_was old new k es ended (stay k) log;
  }

  those_go_on : IsGoingOn old → IsGoingOn new
  those_go_on on k es ended log highest = on k es ended (moved_log new old k es ended (sym (stay k)) log) (λ m lt. sym (stay m) ∙ highest m lt)

pub same_logs : SameLogsGoOn
same_logs old new stay = (those_prolong old new stay, those_go_on old new stay)

-- ---- in steps

-- where nothing is appended
pub appends_none : (n : ℕ) (files : Files) (es : List Entry) (ended : Option ℕ) → ((k : ℕ) → n < k → bytes_of files k ≡ None) → HasLog files n es ended → AppendsTo n files files
appends_none n files es ended highest log = record {
  highest = highest;
  lower = λ k low. refl;
  entries = es;
  ended = ended;
  had = log;
  more = [];
  ended_now = ended;
  has = subst (λ (l : List Entry). HasLog files n l ended) (sym (append-nil es)) log;
}

-- twice to one log, where others may have begun above it
pub appends_twice : (n : ℕ) (u v w : Files) → AppendsTo n u v → AppendsTo n v w → AppendsTo n u w
appends_twice n u v w first second =
    let same : second.entries ≡ first.entries ++ first.more = one_log v n second.entries (first.entries ++ first.more) second.ended first.ended_now second.had first.has in
    record {
      highest = first.highest;
      lower = λ k low. second.lower k low ∙ first.lower k low;
      entries = first.entries;
      ended = first.ended;
      had = first.had;
      more = first.more ++ second.more;
      ended_now = second.ended_now;
      has = subst (λ (l : List Entry). HasLog w n l second.ended_now) (ap (λ (l : List Entry). l ++ second.more) same ∙ append_assoc first.entries first.more second.more) second.has;
    }

-- and then this log and the lower ones stay
pub appends_and_stays : (n : ℕ) (u v w : Files) → AppendsTo n u v → LowerLogsStay (n + 1) v w → AppendsTo n u w
appends_and_stays n u v w first stay = record {
  highest = first.highest;
  lower = λ k low. stay k (omega (arith, low)) ∙ first.lower k low;
  entries = first.entries;
  ended = first.ended;
  had = first.had;
  more = first.more;
  ended_now = first.ended_now;
  has = moved_log v w n (first.entries ++ first.more) first.ended_now (stay n (omega arith)) first.has;
}

-- ---- positions

module _ (old new : Files) (c more : List Placed) (p : Position) (on : Prolongs old new) (was : IsChronicle old c) (is : IsChronicle new (c ++ more)) (x : Placed) (later : Contains more x) where
  stands : StandsIn new x
  stands = (is.exact x).0 (Contains-append_right c more x later)

  -- it is new
  none_stood : (y : Placed) → StandsIn old y → y.file ≡ x.file → y.place ≡ x.place → ⊥
  none_stood y s file place = elim (front_before c more y x is.order ((was.exact y).1 s) later) as (λ _. ⊥) [
    | inl lt ↦ omega (arith, lt, file)
    | inr both ↦ omega (arith, both.1, place)
  ]

  -- so its log isn't below another one
  no_higher : (m : ℕ) → x.file < m → LogIsThere old m → ⊥
  no_higher m low there = none_stood x (stays_in new old x (sym (on.lower x.file m low there)) stands) refl refl

  -- nor is it among the entries that the log had
  past_all : (es : List Entry) (ended : Option ℕ) → HasLog old x.file es ended → length es < x.place
  past_all es ended log = elim (cases_lt stands.at (length es)) as (λ _. length es < x.place) [
    | inl within ↦
        let y : Placed = record { file = x.file; place = x.place; entry = get_or es stands.at x.entry } in
        absurd (none_stood y (record { entries = es; ended = ended; log = log; at = stands.at; place = stands.place; is = slice_get-get_or es stands.at x.entry within }) refl refl)
    | inr far ↦ omega (arith, stands.place, far)
  ]

  not_lower : IsReached old p → x.file < p.file → ⊥
  not_lower (inl (m, lt, there)) low = no_higher m (omega (arith, low, lt)) there
  not_lower (inr (es, ended, log, le)) low = no_higher p.file low (log.0, log.1)

  in_its_log : IsReached old p → x.file ≡ p.file → p.entries < x.place
  in_its_log (inl (m, lt, there)) same = absurd (no_higher m (omega (arith, same, lt)) there)
  in_its_log (inr (es, ended, log, le)) same =
      let far = past_all es ended (subst (λ (k : ℕ). HasLog old k es ended) (sym same) log) in
      omega (arith, far, le)

  one_behind : IsReached old p → is_behind p x ≡ true
  one_behind reached = elim (cases_order x.file p.file) as (λ _. is_behind p x ≡ true) [
    | inl same ↦ let lt : p.entries < x.place = in_its_log reached same in grind (arith, nat_tests)
    | inr (inl low) ↦ absurd (not_lower reached low)
    | inr (inr high) ↦ grind (arith, nat_tests)
  ]

pub later_behind : LaterEntriesAreBehind
later_behind old new c more p on was is reached = all_pass (is_behind p) more (λ x later. one_behind old new c more p on was is x later reached)

pub reached_stays : ReachedStays
reached_stays old new p on (inl (m, lt, there)) = inl (m, lt, on.there m there)
reached_stays old new p on (inr (es, ended, log, le)) =
    let now = on.longer p.file es ended log in
    inr (es ++ now.0, now.1, now.2, omega (arith, le, length-append es now.0))
