-- What the history of a feed says of its next step, and the step of the history.
use Rattle.std.proofs.Common.{◌≡◌, ℕ, ◌+◌, ◌<◌, List, [], ◌∷◌, ◌++◌, length, drop, Option, Some, None, refl, sym, ap, subst, ◌∙◌, arith, length-append}
use Rattle.std.specs.Prelude.{IfNone}
use Rattle.std.specs.List.{between}
use Rattle.std.proofs.lemmas.List.{append-nil, append_assoc, drop-drop, length-drop}
use Rattle.std.proofs.lemmas.Slice.{between_to_end}
use Rattle.log_model.specs.Entry.{Entry}
use Rattle.log_model.specs.LogText.{FileKey, TextKey, in_version, Begins, IsLogText, IsDamaged}
use Rattle.entry_frame.specs.declared.frame.EntryRef.{EntryRef}
use Rattle.entry_frame.specs.declared.phase.Phase.{Phase}
use Rattle.entry_frame.specs.declared.phase.Phase.TheVariants.{Open, Ended, Damaged}
use Rattle.entry_frame.specs.declared.phase.FeedRefusal.{FeedRefusal}
use Rattle.entry_frame.specs.declared.phase.FeedRefusal.TheVariants as refusals
use Rattle.entry_frame.specs.declared.step.Step.{Step}
use Rattle.entry_frame.specs.declared.step.Step.TheVariants as steps
use Rattle.entry_frame.specs.Feed.{Feeding, HasNext, HasNoNext, passed, Stands, IsFed, IsDrained, IsOfPhase, IsMemoryOrDamage}
use Rattle.entry_frame.specs.Step.{IsNext}
use Rattle.entry_frame.proofs.ChainLaws.{Are, passed_begins, text_no_next}

stands_as : (feed : Feeding) (given : List ℕ) (taken : List Entry) (phase : Phase) → feed.phase ≡ phase → IsFed feed given taken → Stands phase feed.key feed.version feed.at feed.unread given taken
stands_as feed given taken phase is h = subst (λ (p : Phase). Stands p feed.key feed.version feed.at feed.unread given taken) is h.stands

pub damaged_by : (feed : Feeding) (given : List ℕ) (taken : List Entry) (at : ℕ) → feed.phase ≡ Damaged at → IsFed feed given taken → IsDamaged feed.key given at
damaged_by feed given taken at is h = let s = stands_as feed given taken (Damaged at) is h in subst (λ (x : List ℕ). IsDamaged feed.key x at) (append-nil given) (s.1 [])

pub ended_by : (feed : Feeding) (given : List ℕ) (taken : List Entry) (told : Option ℕ) → feed.phase ≡ Ended told → IsFed feed given taken → IsLogText feed.key given taken told
ended_by feed given taken told is h = let s = stands_as feed given taken (Ended told) is h in subst (λ (x : List ℕ). IsLogText feed.key x taken told) (append-nil given) (s [])

-- a feed that has ended has no entry more, nor has a damaged one
pub ended_is_drained : (feed : Feeding) (told : Option ℕ) → feed.phase ≡ Ended told → IsDrained feed
ended_is_drained feed told is = λ given taken h. text_no_next feed.key given taken told (ended_by feed given taken told is h)

pub damaged_is_drained : (feed : Feeding) (at : ℕ) → feed.phase ≡ Damaged at → IsDrained feed
damaged_is_drained feed at is = λ given taken h. (stands_as feed given taken (Damaged at) is h).0

-- ---- for those who feed

pub refused_by : (feed : Feeding) (given : List ℕ) (taken : List Entry) (refusal : FeedRefusal) → IsOfPhase refusal feed.phase → IsFed feed given taken → IsMemoryOrDamage feed.key given refusal
refused_by feed given taken refusals.Memory is h = tt
refused_by feed given taken (refusals.Damaged at) is h = damaged_by feed given taken at is h

pub none_is_drained : {P : Type 0} (entry : Option Entry) → IfNone entry P → ((e : Entry) → entry ≡ Some e → ⊥) → P
none_is_drained None h none = h
none_is_drained (Some e) h none = absurd (none e refl)

-- the next step of an open feed
pub next_of : (key : FileKey) (version : ℕ) (phase : Phase) (count at : ℕ) (items held : List ℕ) (read : ℕ) (self : Feeding) (given : List ℕ) (taken : List Entry) (step : Step)
    → record { key = key; version = version; phase = phase; count = count; at = at; unread = drop read items } ≡ self → phase ≡ Open → held ≡ items
    → ((given : List ℕ) (taken : List Entry) → count ≡ length taken → Are (in_version version key) taken → given ≡ passed (in_version version key) taken ++ between read (length held) held → at ≡ length (passed (in_version version key) taken) → IsNext key (between read (length held) held) given taken step)
    → IsFed self given taken → IsNext self.key self.unread given taken step
next_of key version phase count at items held read self given taken step view is_open same next fed =
    let feed : Feeding = record { key = key; version = version; phase = phase; count = count; at = at; unread = drop read items } in
    let h : IsFed feed given taken = subst (λ (x : Feeding). IsFed x given taken) (sym view) fed in
    let part : between read (length held) held ≡ drop read items = between_to_end held read (length held) (omega arith) ∙ ap (drop read) same in
    let s = stands_as feed given taken Open is_open h in
    let found : IsNext key (between read (length held) held) given taken step = next given taken h.count h.each (s.0 ∙ ap (λ (x : List ℕ). passed (in_version version key) taken ++ x) (sym part)) s.1 in
    subst (λ (x : Feeding). IsNext x.key x.unread given taken step) view (subst (λ (x : List ℕ). IsNext key x given taken step) part found)

pub wait_no_next : (key : FileKey) (unread given : List ℕ) (taken : List Entry) (place : Option ℕ) → IsNext key unread given taken (steps.Wait place) → HasNoNext key given taken
wait_no_next key unread given taken None h = h.0
wait_no_next key unread given taken (Some place) h = h.0

begins_last : (key : TextKey) (given rest : List ℕ) (ts : List Entry) (e : Entry) → Are key (ts ++ e ∷ []) → given ≡ passed key (ts ++ e ∷ []) ++ rest → Begins key given (ts ++ e ∷ []) rest
begins_last key given rest [] e each is = passed_begins key given rest e [] each is
begins_last key given rest (t ∷ ts) e each is = passed_begins key given rest t (ts ++ e ∷ []) each is

-- an entry that comes next is one more
pub entry_is_next : (key : FileKey) (unread given : List ℕ) (taken : List Entry) (version : ℕ) (entry : EntryRef) (used : ℕ) → used < length unread → (next : IsNext key unread given taken (steps.Entry version entry used)) → HasNext key given taken next.1
entry_is_next key unread given taken version entry used lt (known, e, each, ref, is) =
    (version, known, drop used unread, omega (arith, length-drop used unread, lt), begins_last (in_version version key) given (drop used unread) taken e each is)

pub used_within : (items held : List ℕ) (read used : ℕ) → held ≡ items → used < length (between read (length held) held) → used < length (drop read items)
used_within items held read used same lt = subst (λ (x : List ℕ). used < length x) (between_to_end held read (length held) (omega arith) ∙ ap (drop read) same) lt

-- ---- the history goes on

pub fed_ended : (key : FileKey) (version : ℕ) (phase : Phase) (count at : ℕ) (unread given : List ℕ) (taken : List Entry) (told : Option ℕ) → IsFed (record { key = key; version = version; phase = phase; count = count; at = at; unread = unread }) given taken
    → IsNext key unread given taken (steps.Ended told) → IsFed (record { key = key; version = version; phase = Ended told; count = count; at = at; unread = unread }) given (taken ++ [])
fed_ended key version phase count at unread given taken told h next =
    subst (λ (ts : List Entry). IsFed (record { key = key; version = version; phase = Ended told; count = count; at = at; unread = unread }) given ts) (sym (append-nil taken)) (record { count = h.count; known = h.known; each = h.each; within = h.within; stands = next })

pub fed_damaged : (key : FileKey) (version : ℕ) (phase : Phase) (count at : ℕ) (unread given : List ℕ) (taken : List Entry) (place : ℕ) → IsFed (record { key = key; version = version; phase = phase; count = count; at = at; unread = unread }) given taken
    → IsNext key unread given taken (steps.Damaged place) → IsFed (record { key = key; version = version; phase = Damaged place; count = count; at = at; unread = unread }) given (taken ++ [])
fed_damaged key version phase count at unread given taken place h next =
    subst (λ (ts : List Entry). IsFed (record { key = key; version = version; phase = Damaged place; count = count; at = at; unread = unread }) given ts) (sym (append-nil taken)) (record { count = h.count; known = h.known; each = h.each; within = h.within; stands = next })

pub fed_taken : (key : FileKey) (version now : ℕ) (phase : Phase) (count at read used : ℕ) (items given : List ℕ) (taken : List Entry) (entry : EntryRef) (own : Entry) → phase ≡ Open
    → IsFed (record { key = key; version = version; phase = phase; count = count; at = at; unread = drop read items }) given taken → used < length (drop read items)
    → (next : IsNext key (drop read items) given taken (steps.Entry now entry used)) → own ≡ next.1
    → IsFed (record { key = key; version = now; phase = phase; count = count + 1; at = at + used; unread = drop (read + used) items }) given (taken ++ own ∷ [])
fed_taken key version now phase count at read used items given taken entry own is_open h lt (known, e, each, ref, is) same =
    let feed : Feeding = record { key = key; version = version; phase = phase; count = count; at = at; unread = drop read items } in
    let after : Feeding = record { key = key; version = now; phase = phase; count = count + 1; at = at + used; unread = drop (read + used) items } in
    let s = stands_as feed given taken Open is_open h in
    let rest : drop used (drop read items) ≡ drop (read + used) items = drop-drop used read items in
    let left : length (drop (read + used) items) + used ≡ length (drop read items) = omega (arith, ap length (sym rest), length-drop used (drop read items), lt) in
    let whole : given ≡ passed (in_version now key) (taken ++ e ∷ []) ++ drop (read + used) items = is ∙ ap (λ (x : List ℕ). passed (in_version now key) (taken ++ e ∷ []) ++ x) rest in
    let place : at + used ≡ length (passed (in_version now key) (taken ++ e ∷ [])) =
    omega (arith, s.1, ap length s.0, ap length whole, length-append (passed (in_version version key) taken) (drop read items), length-append (passed (in_version now key) (taken ++ e ∷ [])) (drop (read + used) items), left) in
    subst (λ (x : Entry). IsFed after given (taken ++ x ∷ [])) (sym same)
    (record {
      count = omega (arith, h.count, length-append taken (e ∷ []));
      known = known;
      each = each;
      within = omega (arith, h.within, left);
      stands = subst (λ (p : Phase). Stands p key now (at + used) (drop (read + used) items) given (taken ++ e ∷ [])) (sym is_open) (whole, place);
    })

-- a text that has ended stays so
pub ended_goes_on : (feed : Feeding) (told : Option ℕ) → feed.phase ≡ Ended told → (given more : List ℕ) (taken : List Entry) → IsFed feed given taken → IsFed feed (given ++ more) taken
ended_goes_on feed told is given more taken h =
    let s = stands_as feed given taken (Ended told) is h in
    record {
      count = h.count;
      known = h.known;
      each = h.each;
      within = omega (arith, h.within, length-append given more);
      stands = subst (λ (p : Phase). Stands p feed.key feed.version feed.at feed.unread (given ++ more) taken) (sym is)
          (λ m. subst (λ (x : List ℕ). IsLogText feed.key x taken told) (sym (append_assoc given more m)) (s (more ++ m)));
    }

-- what is refused at once is refused whatever comes
pub refused_more : (feed : Feeding) (given more : List ℕ) (taken : List Entry) (refusal : FeedRefusal) → IsOfPhase refusal feed.phase → IsFed feed given taken → IsMemoryOrDamage feed.key (given ++ more) refusal
refused_more feed given more taken refusals.Memory is h = tt
refused_more feed given more taken (refusals.Damaged at) is h = (stands_as feed given taken (Damaged at) is h).1 more
