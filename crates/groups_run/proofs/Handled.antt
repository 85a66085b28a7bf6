-- All handlers of a script, before and after they have called several servers.
use Rattle.std.proofs.Common.{◌≡◌, ◌≢◌, ℕ, zero, suc, ◌+◌, ◌<◌, ◌≤◌, List, [], ◌∷◌, ◌++◌, length, map, max, All, Contains, Option, Some, None, refl, sym, ap, ap₂, ◌∙◌, subst, arith, vec_len, vec_capacity}
use Rattle.std.specs.List.{AllByRecursion}
use Rattle.std.proofs.lemmas.List.{map-append, length-map}
use Rattle.std.proofs.lemmas.List.Elements.{Contains-append_left, Contains-append_right}
use Rattle.region_model.specs.Calls.{Call, Reply}
use Rattle.script_model.specs.Calls.{Script, Asked, asked_of, asked_from, asked, asked_by, IsAmong, IsScript}
use Rattle.script_calls.specs.Calls.{call_of}
use Rattle.server_model.specs.Pass.{Pass as ThePass, Naming, IsFresh}
use Rattle.server_model.specs.Closing.{Handled, HasRun as HandlerRan, Pairs}
use Rattle.server_model.proofs.JournalLaws.{contains_cons}
use Rattle.run_model.specs.Closed.{IsNameFor}
use Rattle.run_model.specs.Spent.{first_spent, first_of}
use Rattle.run_model.specs.declared.spent.Spent.{Spent}
use Rattle.run_model.proofs.AskedLaws.{flush_listed}
use Rattle.run_model.proofs.SpentLaws.{first_append}
use Rattle.group_calls.specs.log_service.Places.{ServiceId}
use Rattle.group_calls.specs.region_lock.declared.naming.LockNaming.{Ghosts}
use Rattle.group_calls.specs.region_calls.declared.pass.Pass.{Pass}
use Rattle.group_calls.specs.region_calls.Passes.{knows}
use Rattle.group_calls.specs.script_handlers.Handled.{MayCallAll}
use Rattle.group_calls.specs.script_handlers.declared.handler.Handler.{Handler}
use Rattle.script_run.specs.declared.room.CallRoom.{CallRoom}
use Rattle.script_run.specs.Rooms.{calls_in, AreRooms, script_in}
use Rattle.script_run.specs.Ends.{first_of_all}
use Rattle.groups_model.specs.Groups.{IsGroup, replies_on}
use Rattle.groups_model.specs.Closed.{GroupHandled, all_replies, handled_on}
use Rattle.group_calls.specs.group_servers.Passes.{known_by, HasHandlerAt, IsPassAt}
use Rattle.group_calls.specs.declared.groups.GroupPass.{GroupPass}
use Rattle.group_calls.specs.Passes.{known, IsGroupPassOf}
use Rattle.group_calls.specs.Servers.{Servers}
use Rattle.group_calls.specs.Serving.{MayCallEach, most_calls}
use Rattle.groups_run.specs.Handing.{IsFreshAt, AreFresh, IsTaken, AreTaken, AllOfServers, known_on, lines_in, spent_in}
use Rattle.groups_run.specs.Ran.{AllThere, AreReady, HasRun, HaveRun, AreHandled}
use Rattle.groups_run.specs.Ended.{passes_on}
use Rattle.groups_run.specs.Ends.{lines_of}
use Rattle.groups_run.proofs.Runs.{AreOf, each_runs}

-- ---- a handler's passes

module _ {N : Type 0} {g : Ghosts N} where
  fresh_at : (n : ℕ) (place : Option ServiceId) (p : Option (Pass N g)) → place ≢ None → IsPassAt place p → IsFreshAt n p → IsFresh n (known_by p)
  fresh_at n None None there is fresh = absurd (there refl)
  fresh_at n None (Some p) there is fresh = absurd is
  fresh_at n (Some place) None there is fresh = absurd is
  fresh_at n (Some place) (Some p) there is fresh = fresh

  same_at : (h : ℕ) (place : Option ServiceId) (p : Option (Pass N g)) → place ≢ None → IsPassAt place p → HasHandlerAt h p → (known_by p).handler ≡ h
  same_at h None None there is same = absurd (there refl)
  same_at h None (Some p) there is same = absurd is
  same_at h (Some place) None there is same = absurd is
  same_at h (Some place) (Some p) there is same = same

  no_calls : (n : ℕ) (p : Option (Pass N g)) → IsFreshAt n p → (known_by p).calls ≡ 0
  no_calls n None fresh = refl
  no_calls n (Some p) fresh = fresh.calls

-- ---- before they run

-- a handler's calls may be made, being the script's
may_all : (script : Script) (names : ℕ → Naming) (h n : ℕ) (calls : List Call) → 1 ≤ h → ((k : ℕ) → IsNameFor script (names k)) → All (IsAmong script.regions) calls
    → ((a : Asked) → Contains (asked_of h n calls) a → Contains (asked script) a) → MayCallAll (MayCallEach names) h n calls
may_all script names h n [] some fits all sub = tt
may_all script names h n (c ∷ cs) some fits all sub = (
  record {
    numbered = some;
    each = λ k. record {
      among = subst (λ m. IsAmong m c) (sym (fits k).regions) (all 0 c (omega arith));
      listed = λ r is. subst (λ l. Contains l (record { handler = h; call = n })) (sym ((fits k).flushes r)) (flush_listed script r (record { handler = h; number = n; call = c }) (sub (record { handler = h; number = n; call = c }) (0, omega arith, refl)) is);
    };
  },
  may_all script names h (n + 1) cs some fits (λ i d low. all (suc i) d (omega (arith, low))) (λ a is. sub a (contains_cons (record { handler = h; number = n; call = c }) (asked_of h (n + 1) cs) a is)),
)

-- one more handler of a group, before those of greater numbers
least_more : (n m : ℕ) (x : Handled) (hs : List Handled) → x.pass.handler ≡ n → n < m → ((h : Handled) → Contains hs h → m ≤ h.pass.handler) → (h : Handled) → Contains (x ∷ hs) h → n ≤ h.pass.handler
least_more n m x hs is low least h (zero, lt, e) = omega (arith, ap (λ (k : Handled). k.pass.handler) e, is)
least_more n m x hs is low least h (suc i, lt, e) = omega (arith, low, least h (i, omega (arith, lt), e))

module _ {N1 N2 N3 N4 : Type 0} {g1 : Ghosts N1} {g2 : Ghosts N2} {g3 : Ghosts N3} {g4 : Ghosts N4} where
  fresh_on : (s : Servers) (n : ℕ) (p : GroupPass N1 N2 N3 N4 g1 g2 g3 g4) → AllThere s → IsGroupPassOf s p → AreFresh n p → (k : ℕ) → IsGroup s.count k → IsFresh n (known p k)
  fresh_on s n p there of fresh zero is = absurd (omega (arith, is.0))
  fresh_on s n p there of fresh (suc zero) is = fresh.first
  fresh_on s n p there of fresh (suc (suc zero)) is = fresh_at n s.second p.second (there.second (omega (arith, is.1))) of.second fresh.second
  fresh_on s n p there of fresh (suc (suc (suc zero))) is = fresh_at n s.third p.third (there.third (omega (arith, is.1))) of.third fresh.third
  fresh_on s n p there of fresh (suc (suc (suc (suc zero)))) is = fresh_at n s.fourth p.fourth (there.fourth (omega (arith, is.1))) of.fourth fresh.fourth
  fresh_on s n p there of fresh (suc (suc (suc (suc (suc k))))) is = absurd (omega (arith, is.1, there.some.1))

  same_on : (s : Servers) (h : ℕ) (p : GroupPass N1 N2 N3 N4 g1 g2 g3 g4) → AllThere s → IsGroupPassOf s p → (known p 1).handler ≡ h → AreOf s.count h (known p)
  same_on s h p there of one zero is = absurd (omega (arith, is.0))
  same_on s h p there of one (suc zero) is = one
  same_on s h p there of one (suc (suc zero)) is = same_at (knows p.first).handler s.second p.second (there.second (omega (arith, is.1))) of.second of.second_same ∙ one
  same_on s h p there of one (suc (suc (suc zero))) is = same_at (knows p.first).handler s.third p.third (there.third (omega (arith, is.1))) of.third of.third_same ∙ one
  same_on s h p there of one (suc (suc (suc (suc zero)))) is = same_at (knows p.first).handler s.fourth p.fourth (there.fourth (omega (arith, is.1))) of.fourth of.fourth_same ∙ one
  same_on s h p there of one (suc (suc (suc (suc (suc k))))) is = absurd (omega (arith, is.1, there.some.1))

  none_made : (n : ℕ) (p : GroupPass N1 N2 N3 N4 g1 g2 g3 g4) → AreFresh n p → most_calls (known p) ≡ 0
  none_made n p fresh = ap₂ max (ap₂ max fresh.first.calls (no_calls n p.second fresh.second)) (ap₂ max (no_calls n p.third fresh.third) (no_calls n p.fourth fresh.fourth))

  ready_each : (script : Script) (names : ℕ → Naming) (s : Servers) (n : ℕ) (rooms : List CallRoom) (hs : List (Handler (GroupPass N1 N2 N3 N4 g1 g2 g3 g4))) → 1 ≤ n → ((k : ℕ) → IsNameFor script (names k)) → AreRooms rooms
      → AreTaken n rooms hs → AllOfServers s hs → All (All (IsAmong script.regions)) (map calls_in rooms) → All (λ calls. length calls ≤ 16777216) (map calls_in rooms)
      → ((a : Asked) → Contains (asked_from n (map calls_in rooms)) a → Contains (asked script) a) → AreReady names s hs
  ready_each script names s n [] [] some fits empty taken all among few sub i d lt = absurd (omega (arith, lt))
  ready_each script names s n [] (h ∷ hs) some fits empty taken all among few sub i d lt = absurd taken
  ready_each script names s n (room ∷ rooms) [] some fits empty taken all among few sub i d lt = absurd taken
  ready_each script names s n (room ∷ rooms) (h ∷ hs) some fits empty taken all among few sub (suc i) d lt =
      ready_each script names s (n + 1) rooms hs (omega arith) fits empty.1 taken.1 all.1 (λ i d low. among (suc i) d (omega (arith, low))) (λ i d low. few (suc i) d (omega (arith, low)))
      (λ a is. sub a (Contains-append_right (asked_of n 1 (calls_in room)) (asked_from (n + 1) (map calls_in rooms)) a is)) i d (omega (arith, lt))
  ready_each script names s n (room ∷ rooms) (h ∷ hs) some fits empty taken all among few sub zero d lt =
      let t = taken.0 in
      let calls : map call_of h.calls.items ≡ calls_in room = ap (λ v. map call_of v.items) t.calls in
      let may = may_all script names n 1 (calls_in room) some fits (among 0 (calls_in room) (omega arith)) (λ a is. sub a (Contains-append_left (asked_of n 1 (calls_in room)) (asked_from (n + 1) (map calls_in rooms)) a is)) in
      let short : length (calls_in room) ≤ 16777216 = few 0 (calls_in room) (omega arith) in
      let len : length (calls_in room) ≡ length room.calls.items = length-map room.calls.items call_of in
      record {
        of = all.0;
        calls = none_made n h.pass t.fresh;
        none = (ap (λ v. v.items) t.replies ∙ empty.0.none, t.spent);
        room = subst (λ v. vec_len v ≤ vec_capacity h.replies) (sym t.calls) (subst (λ v. vec_len room.calls ≤ vec_capacity v) (sym t.replies) empty.0.room_there);
        few = omega (arith, short, len, ap vec_len t.calls, room.calls.ok);
        allowed = subst (λ k. MayCallAll (MayCallEach names) k 1 (map call_of h.calls.items)) (sym t.fresh.first.handler) (subst (MayCallAll (MayCallEach names) n 1) (sym calls) may);
      }

  -- the handlers of a script's rooms are ready
  pub all_ready : (names : ℕ → Naming) (s : Servers) (time regions : ℕ) (rooms : List CallRoom) (hs : List (Handler (GroupPass N1 N2 N3 N4 g1 g2 g3 g4))) → IsScript (script_in time regions rooms)
      → ((k : ℕ) → IsNameFor (script_in time regions rooms) (names k)) → AreRooms rooms → AreTaken 1 rooms hs → AllOfServers s hs → AreReady names s hs
  all_ready names s time regions rooms hs right fits empty taken all = ready_each (script_in time regions rooms) names s 1 rooms hs (omega arith) fits empty taken all right.calls_among right.calls_few (λ a is. is)

  -- ---- once they have run

  abbrev pub EachRan : (ℕ → Naming) → ℕ → Servers → List (Handler (GroupPass N1 N2 N3 N4 g1 g2 g3 g4)) → List (Handler (GroupPass N1 N2 N3 N4 g1 g2 g3 g4)) → Type 0
  EachRan names time s [] [] = Unit {0}
  EachRan names time s [] (x ∷ xs) = ⊥
  EachRan names time s (o ∷ os) [] = ⊥
  EachRan names time s (o ∷ os) (x ∷ xs) = HasRun names time s o x × EachRan names time s os xs

  each_ran : (names : ℕ → Naming) (time : ℕ) (s : Servers) (os xs : List (Handler (GroupPass N1 N2 N3 N4 g1 g2 g3 g4))) → HaveRun names time s os xs → EachRan names time s os xs
  each_ran names time s [] [] h = tt
  each_ran names time s [] (x ∷ xs) h = absurd (omega (arith, h.len))
  each_ran names time s (o ∷ os) [] h = absurd (omega (arith, h.len))
  each_ran names time s (o ∷ os) (x ∷ xs) h = (h.each 0 o (omega arith), each_ran names time s os xs record { len = omega (arith, h.len); each = λ i d lt. h.each (suc i) d (omega (arith, lt)) })

  all_of_each : (names : ℕ → Naming) (time : ℕ) (s : Servers) (os xs : List (Handler (GroupPass N1 N2 N3 N4 g1 g2 g3 g4))) → EachRan names time s os xs → AllOfServers s xs
  all_of_each names time s [] [] each = tt
  all_of_each names time s [] (x ∷ xs) each = absurd each
  all_of_each names time s (o ∷ os) [] each = tt
  all_of_each names time s (o ∷ os) (x ∷ xs) each = (each.0.of, all_of_each names time s os xs each.1)

  -- all are of the servers
  pub all_of : (names : ℕ → Naming) (time : ℕ) (s : Servers) (os xs : List (Handler (GroupPass N1 N2 N3 N4 g1 g2 g3 g4))) → HaveRun names time s os xs → AllOfServers s xs
  all_of names time s os xs ran = all_of_each names time s os xs (each_ran names time s os xs ran)

  -- what is handed on of them
  pub record IsHandled (groups : ℕ) (names : ℕ → Naming) (time n : ℕ) (rooms : List CallRoom) (xs : List (Handler (GroupPass N1 N2 N3 N4 g1 g2 g3 g4))) (hs : List GroupHandled) : Type 0 where
    pub each : (k : ℕ) → IsGroup groups k → AllByRecursion (HandlerRan (names k) time) (map (handled_on groups k) hs)
    pub least : (k : ℕ) → IsGroup groups k → (h : Handled) → Contains (map (handled_on groups k) hs) h → n ≤ h.pass.handler
    pub apart : (k : ℕ) → IsGroup groups k → Pairs (λ (a b : Handled). a.pass.handler ≢ b.pass.handler) (map (handled_on groups k) hs)
    pub calls : map asked_by (all_replies hs) ≡ asked_from n (map calls_in rooms)
    pub passes : (k : ℕ) → passes_on k hs ≡ known_on k xs
    pub lines : map lines_in xs ≡ map lines_of hs
    pub spent : first_spent (all_replies hs) ≡ first_of_all (map spent_in xs)

  handled_all : (names : ℕ → Naming) (s : Servers) (time n : ℕ) (rooms : List CallRoom) (os xs : List (Handler (GroupPass N1 N2 N3 N4 g1 g2 g3 g4))) → AllThere s → AreTaken n rooms os → AllOfServers s os
      → EachRan names time s os xs → (hs : List GroupHandled) × IsHandled s.count names time n rooms xs hs
  handled_all names s time n [] [] [] there taken all ran = ([], record { each = λ k is. tt; least = λ k is h has. absurd (omega (arith, has.1)); apart = λ k is. tt; calls = refl; passes = λ k. refl; lines = refl; spent = refl })
  handled_all names s time n [] [] (x ∷ xs) there taken all ran = absurd ran
  handled_all names s time n [] (o ∷ os) xs there taken all ran = absurd taken
  handled_all names s time n (room ∷ rooms) [] xs there taken all ran = absurd taken
  handled_all names s time n (room ∷ rooms) (o ∷ os) [] there taken all ran = absurd ran
  handled_all names s time n (room ∷ rooms) (o ∷ os) (x ∷ xs) there taken all ran = more (handled_all names s time (n + 1) rooms os xs there taken.1 all.1 ran.1)
    where
      more : (hs : List GroupHandled) × IsHandled s.count names time (n + 1) rooms xs hs → (hs : List GroupHandled) × IsHandled s.count names time n (room ∷ rooms) (x ∷ xs) hs
      more rest =
          let h = ran.0.handles in
          let t = taken.0 in
          let here : GroupHandled = record { passes = known x.pass; replies = h.replies } in
          let last : AreOf s.count n (known x.pass) = same_on s n x.pass there ran.0.of (h.handler ∙ t.fresh.first.handler) in
          let calls : map asked_by h.replies ≡ asked_of n 1 (calls_in room) = h.asked ∙ ap (λ k. asked_of k 1 (map call_of o.calls.items)) t.fresh.first.handler ∙ ap (λ v. asked_of n 1 (map call_of v.items)) t.calls in (
            here ∷ rest.0,
            record {
              each = λ k is. (
                (known o.pass k, subst (λ m. IsFresh m (known o.pass k)) (sym (last k is)) (fresh_on s n o.pass there all.0 t.fresh k is), each_runs s.count names time (known o.pass) h.replies (known x.pass) h.runs k),
                rest.1.each k is,
              );
              least = λ k is. least_more n (n + 1) (handled_on s.count k here) (map (handled_on s.count k) rest.0) (last k is) (omega arith) (rest.1.least k is);
              apart = λ k is. ((λ g has same. absurd (omega (arith, last k is, same, rest.1.least k is g has))), rest.1.apart k is);
              calls = map-append asked_by h.replies (all_replies rest.0) ∙ ap (λ (l : List Asked). l ++ map asked_by (all_replies rest.0)) calls ∙ ap (λ (l : List Asked). asked_of n 1 (calls_in room) ++ l) rest.1.calls;
              passes = λ k. ap (λ (l : List ThePass). known x.pass k ∷ l) (rest.1.passes k);
              lines = λ i. (sym h.lines_are) i ∷ rest.1.lines i;
              spent = first_append h.replies (all_replies rest.0) ∙ ap₂ first_of h.first_told rest.1.spent;
            },
          )

  -- what the handlers hand on, once they have run
  pub handled : (names : ℕ → Naming) (s : Servers) (time regions : ℕ) (rooms : List CallRoom) (os xs : List (Handler (GroupPass N1 N2 N3 N4 g1 g2 g3 g4))) → AllThere s → AreTaken 1 rooms os → AllOfServers s os
      → HaveRun names time s os xs → (hs : List GroupHandled) × IsHandled s.count names time 1 rooms xs hs
  handled names s time regions rooms os xs there taken all ran = handled_all names s time 1 rooms os xs there taken all (each_ran names time s os xs ran)

  pub are_handled : (names : ℕ → Naming) (s : Servers) (time regions : ℕ) (rooms : List CallRoom) (xs : List (Handler (GroupPass N1 N2 N3 N4 g1 g2 g3 g4))) (hs : List GroupHandled)
      → IsHandled s.count names time 1 rooms xs hs → AreHandled s.count names (script_in time regions rooms) hs
  are_handled names s time regions rooms xs hs is = record { calls = is.calls; runs = λ k there. record { each = is.each k there; apart = is.apart k there } }

  -- ---- lengths

  pub taken_length : (n : ℕ) (rooms : List CallRoom) (hs : List (Handler (GroupPass N1 N2 N3 N4 g1 g2 g3 g4))) → AreTaken n rooms hs → length hs ≡ length rooms
  taken_length n [] [] t = refl
  taken_length n [] (h ∷ hs) t = absurd t
  taken_length n (room ∷ rooms) [] t = absurd t
  taken_length n (room ∷ rooms) (h ∷ hs) t = omega (arith, taken_length (n + 1) rooms hs t.1)

  -- one more handler
  pub taken_push : (n : ℕ) (rooms : List CallRoom) (room : CallRoom) (hs : List (Handler (GroupPass N1 N2 N3 N4 g1 g2 g3 g4))) (h : Handler (GroupPass N1 N2 N3 N4 g1 g2 g3 g4)) → AreTaken n rooms hs
      → IsTaken (n + length rooms) room h → AreTaken n (rooms ++ room ∷ []) (hs ++ h ∷ [])
  taken_push n [] room [] h t is = (subst (λ k. IsTaken k room h) (omega arith) is, tt)
  taken_push n [] room (g ∷ hs) h t is = absurd t
  taken_push n (r ∷ rooms) room [] h t is = absurd t
  taken_push n (r ∷ rooms) room (g ∷ hs) h t is = (t.0, taken_push (n + 1) rooms room hs h t.1 (subst (λ k. IsTaken k room h) (omega arith) is))

  -- one more of the servers
  pub of_push : (s : Servers) (hs : List (Handler (GroupPass N1 N2 N3 N4 g1 g2 g3 g4))) (h : Handler (GroupPass N1 N2 N3 N4 g1 g2 g3 g4)) → AllOfServers s hs → IsGroupPassOf s h.pass → AllOfServers s (hs ++ h ∷ [])
  of_push s [] h all is = (is, tt)
  of_push s (g ∷ hs) h all is = (all.0, of_push s hs h all.1 is)
