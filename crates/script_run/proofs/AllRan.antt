-- All handlers of a script, once they have run.
use Rattle.std.proofs.Common.{◌≡◌, ◌≢◌, ℕ, zero, suc, ◌+◌, ◌≤◌, Bool, true, List, [], ◌∷◌, ◌++◌, length, map, All, Contains, Option, Some, None, refl, sym, ap, ap₂, ◌∙◌, subst, arith, vec_len, vec_capacity}
use Rattle.std.specs.List.{AllByRecursion}
use Rattle.std.proofs.lemmas.List.{map-append, length-map}
use Rattle.std.proofs.lemmas.List.Elements.{Contains-append_left, Contains-append_right}
use Rattle.region_model.specs.Calls.{Call}
use Rattle.script_model.specs.Calls.{Script, Asked, asked_of, asked_from, asked, asked_by, IsAmong, IsScript}
use Rattle.script_model.specs.Report.{ReplyLine}
use Rattle.script_calls.specs.Calls.{call_of}
use Rattle.server_model.specs.Pass.{Pass as ThePass, Naming, IsFresh}
use Rattle.server_model.specs.Closing.{Handled, HasRun as HandlerRan, passes_of, replies_of}
use Rattle.server_model.specs.Closing.{Pairs}
use Rattle.server_model.proofs.JournalLaws.{contains_cons}
use Rattle.run_model.specs.Closed.{IsNameFor}
use Rattle.run_model.proofs.AskedLaws.{flush_listed}
use Rattle.script_handlers.specs.log_service.Places.{ServiceId}
use Rattle.script_handlers.specs.region_lock.declared.naming.LockNaming.{Ghosts}
use Rattle.script_handlers.specs.region_calls.declared.pass.Pass.{Pass}
use Rattle.script_handlers.specs.region_calls.Passes.{knows, IsPassOf}
use Rattle.server_model.specs.Steps.{Does, Runs}
use Rattle.region_model.specs.Calls.{Reply}
use Rattle.script_handlers.specs.Calling.{MayCall}
use Rattle.script_handlers.specs.Handled.{MayCallAll, RunsBy}
use Rattle.script_run.specs.Rooms.{calls_in, AreRooms, script_in, IsTaken, AreTaken}
use Rattle.script_run.specs.Ran.{AllOfPlace, AreReady, HasRun, HaveRun, pass_of, lines_in, spent_in}
use Rattle.script_run.specs.Ends.{lines_of, first_of_all}
use Rattle.std.specs.List.{range_with_len}
use Rattle.log_model.specs.Files.{Files, IsSound}
use Rattle.disk_images.specs.Crash.{DiskView}
use Rattle.region_model.specs.Journal.{Base}
use Rattle.server_model.specs.Closing.{IsClosedRegion, Survives, Leaves}
use Rattle.run_model.specs.Closed.{ClosedAt, IsFound}
use Rattle.run_model.specs.Headline.{KeepsFound}
use Rattle.run_model.proofs.Lists.{mapped}
use Rattle.run_model.proofs.KeepsFound.{half_keeps, left_keeps, all_keep}
use Rattle.run_model.proofs.SpentLaws.{first_append, first_assoc}
use Rattle.run_model.specs.declared.spent.Spent.{Spent}
use Rattle.run_model.specs.Spent.{first_spent, first_of}
use Rattle.script_handlers.specs.wal_split.Moments.{During, WasOrAlike}
use Rattle.script_handlers.specs.region_calls.Bases.{AreBasesOf}
use Rattle.script_handlers.specs.region_calls.Closes.{IsLeft}
use Rattle.script_handlers.specs.region_calls.Seeds.{base_at}
use Rattle.script_handlers.specs.region_calls.Wordings.{region_of}
use Rattle.script_handlers.proofs.region_calls_laws.NamedSeeds.{base_of_region}
use Rattle.script_handlers.specs.region_calls.declared.closed.ClosedRegion.{ClosedRegion}
use Rattle.script_run.specs.Ends.{closed_at, HasClosed}
use Rattle.std.proofs.Math.Logic.{∥∥₁_map}
use Rattle.script_run.specs.declared.room.CallRoom.{CallRoom}
use Rattle.script_handlers.specs.declared.handler.Handler.{Handler}

-- ---- before they run

-- a handler's calls may be made, being the script's
may_all : (script : Script) (name : Naming) (h n : ℕ) (calls : List Call) → IsNameFor script name → All (IsAmong script.regions) calls
    → ((a : Asked) → Contains (asked_of h n calls) a → Contains (asked script) a) → MayCallAll (MayCall name) h n calls
may_all script name h n [] named all sub = tt
may_all script name h n (c ∷ cs) named all sub = (
  record {
    among = subst (λ k. IsAmong k c) (sym named.regions) (all 0 c (omega arith));
    listed = λ r is. subst (λ l. Contains l (record { handler = h; call = n })) (sym (named.flushes r)) (flush_listed script r (record { handler = h; number = n; call = c }) (sub (record { handler = h; number = n; call = c }) (0, omega arith, refl)) is);
  },
  may_all script name h (n + 1) cs named (λ i d low. all (suc i) d (omega (arith, low))) (λ a is. sub a (contains_cons (record { handler = h; number = n; call = c }) (asked_of h (n + 1) cs) a is)),
)

module _ {N : Type 0} {of : Ghosts N} where
  ready_each : (script : Script) (name : Naming) (place : ServiceId) (n : ℕ) (rooms : List CallRoom) (hs : List (Handler (Pass N of))) → IsNameFor script name → AreRooms rooms → AreTaken n rooms hs → AllOfPlace place hs
      → All (All (IsAmong script.regions)) (map calls_in rooms) → All (λ calls. length calls ≤ 16777216) (map calls_in rooms)
      → ((a : Asked) → Contains (asked_from n (map calls_in rooms)) a → Contains (asked script) a) → AreReady name place hs
  ready_each script name place n [] [] named empty taken all among few sub i d lt = absurd (omega (arith, lt))
  ready_each script name place n [] (h ∷ hs) named empty taken all among few sub i d lt = absurd taken
  ready_each script name place n (room ∷ rooms) [] named empty taken all among few sub i d lt = absurd taken
  ready_each script name place n (room ∷ rooms) (h ∷ hs) named empty taken all among few sub (suc i) d lt =
      ready_each script name place (n + 1) rooms hs named empty.1 taken.1 all.1 (λ i d low. among (suc i) d (omega (arith, low))) (λ i d low. few (suc i) d (omega (arith, low)))
      (λ a is. sub a (Contains-append_right (asked_of n 1 (calls_in room)) (asked_from (n + 1) (map calls_in rooms)) a is)) i d (omega (arith, lt))
  ready_each script name place n (room ∷ rooms) (h ∷ hs) named empty taken all among few sub zero d lt =
      let t = taken.0 in
      let calls : map call_of h.calls.items ≡ calls_in room = ap (λ v. map call_of v.items) t.calls in
      let may = may_all script name n 1 (calls_in room) named (among 0 (calls_in room) (omega arith)) (λ a is. sub a (Contains-append_left (asked_of n 1 (calls_in room)) (asked_from (n + 1) (map calls_in rooms)) a is)) in
      let short : length (calls_in room) ≤ 16777216 = few 0 (calls_in room) (omega arith) in
      let len : length (calls_in room) ≡ length room.calls.items = length-map room.calls.items call_of in
      record {
        of = all.0;
        calls = t.fresh.calls;
        none = (ap (λ v. v.items) t.replies ∙ empty.0.none, t.spent);
        room = subst (λ v. vec_len v ≤ vec_capacity h.replies) (sym t.calls) (subst (λ v. vec_len room.calls ≤ vec_capacity v) (sym t.replies) empty.0.room_there);
        few = omega (arith, short, len, ap vec_len t.calls, room.calls.ok);
        allowed = subst (λ k. MayCallAll (MayCall name) k 1 (map call_of h.calls.items)) (sym t.fresh.handler) (subst (MayCallAll (MayCall name) n 1) (sym calls) may);
      }

-- the handlers of a script's rooms are ready
pub all_ready : {N : Type 0} {of : Ghosts N} (name : Naming) (place : ServiceId) (time regions : ℕ) (rooms : List CallRoom) (hs : List (Handler (Pass N of))) → IsScript (script_in time regions rooms) → IsNameFor (script_in time regions rooms) name
    → AreRooms rooms → AreTaken 1 rooms hs → AllOfPlace place hs → AreReady name place hs
all_ready name place time regions rooms hs right named empty taken all = ready_each (script_in time regions rooms) name place 1 rooms hs named empty taken all right.calls_among right.calls_few (λ a is. is)

-- ---- once they have run

-- what a handler's calls made of its pass
runs_of : (name : Naming) (time : ℕ) (first : ThePass) (replies : List Reply) (last : ThePass) → RunsBy (λ (k : ThePass). k.handler) (Does name time) first replies last → Runs name time first replies last
runs_of name time first [] last run = run
runs_of name time first (reply ∷ replies) last run = (run.0, record { handler = run.1.handler; does = run.1.made }, runs_of name time run.0 replies last run.2)

abbrev pub EachRan : {N : Type 0} {of : Ghosts N} → Naming → ServiceId → ℕ → List (Handler (Pass N of)) → List (Handler (Pass N of)) → Type 0
EachRan name place time [] [] = Unit {0}
EachRan name place time [] (x ∷ xs) = ⊥
EachRan name place time (o ∷ os) [] = ⊥
EachRan name place time (o ∷ os) (x ∷ xs) = HasRun name place time o x × EachRan name place time os xs

each_ran : {N : Type 0} {of : Ghosts N} (name : Naming) (place : ServiceId) (time : ℕ) (os xs : List (Handler (Pass N of))) → HaveRun name place time os xs → EachRan name place time os xs
each_ran name place time [] [] h = tt
each_ran name place time [] (x ∷ xs) h = absurd (omega (arith, h.len))
each_ran name place time (o ∷ os) [] h = absurd (omega (arith, h.len))
each_ran name place time (o ∷ os) (x ∷ xs) h = (h.each 0 o (omega arith), each_ran name place time os xs record { len = omega (arith, h.len); each = λ i d lt. h.each (suc i) d (omega (arith, lt)) })

-- all are of the server
pub all_of : {N : Type 0} {of : Ghosts N} (name : Naming) (place : ServiceId) (time : ℕ) (os xs : List (Handler (Pass N of))) → HaveRun name place time os xs → AllOfPlace place xs
all_of {N} {of} name place time os xs ran = go os xs (each_ran name place time os xs ran)
  where
    go : (os xs : List (Handler (Pass N of))) → EachRan name place time os xs → AllOfPlace place xs
    go [] [] each = tt
    go [] (x ∷ xs) each = absurd each
    go (o ∷ os) [] each = tt
    go (o ∷ os) (x ∷ xs) each = (each.0.of, go os xs each.1)

-- what is handed on of them
pub record IsHandled {N : Type 0} {of : Ghosts N} (name : Naming) (time n : ℕ) (rooms : List CallRoom) (xs : List (Handler (Pass N of))) (hs : List Handled) : Type 0 where
  pub each : AllByRecursion (HandlerRan name time) hs
  pub least : (h : Handled) → Contains hs h → n ≤ h.pass.handler
  pub apart : Pairs (λ (a b : Handled). a.pass.handler ≢ b.pass.handler) hs
  pub calls : map asked_by (replies_of hs) ≡ asked_from n (map calls_in rooms)
  pub passes : passes_of hs ≡ map pass_of xs
  pub lines : map lines_in xs ≡ map lines_of hs
  pub spent : first_spent (replies_of hs) ≡ first_of_all (map spent_in xs)

no_member : {A : Type 0} (x : A) → Contains [] x → ⊥
no_member x is = omega (arith, is.1)

handled_all : {N : Type 0} {of : Ghosts N} (name : Naming) (place : ServiceId) (time n : ℕ) (rooms : List CallRoom) (os xs : List (Handler (Pass N of))) → AreTaken n rooms os → EachRan name place time os xs → (hs : List Handled) × IsHandled name time n rooms xs hs
handled_all name place time n [] [] [] taken ran = ([], record { each = tt; least = λ h is. absurd (no_member h is); apart = tt; calls = refl; passes = refl; lines = refl; spent = refl })
handled_all name place time n [] [] (x ∷ xs) taken ran = absurd ran
handled_all name place time n [] (o ∷ os) xs taken ran = absurd taken
handled_all name place time n (room ∷ rooms) [] xs taken ran = absurd taken
handled_all name place time n (room ∷ rooms) (o ∷ os) [] taken ran = absurd ran
handled_all {N} {of} name place time n (room ∷ rooms) (o ∷ os) (x ∷ xs) taken ran = more (handled_all name place time (n + 1) rooms os xs taken.1 ran.1)
  where
    more : (hs : List Handled) × IsHandled name time (n + 1) rooms xs hs → (hs : List Handled) × IsHandled name time n (room ∷ rooms) (x ∷ xs) hs
    more rest =
        let h = ran.0.handles in
        let t = taken.0 in
        let here : Handled = record { pass = knows x.pass; replies = h.replies } in
        let number : (knows x.pass).handler ≡ n = h.handler ∙ t.fresh.handler in
        let calls : map asked_by h.replies ≡ asked_of n 1 (calls_in room) = h.asked ∙ ap (λ k. asked_of k 1 (map call_of o.calls.items)) t.fresh.handler ∙ ap (λ v. asked_of n 1 (map call_of v.items)) t.calls in (
          here ∷ rest.0,
          record {
            each = ((knows o.pass, subst (λ k. IsFresh k (knows o.pass)) (sym number) t.fresh, runs_of name time (knows o.pass) h.replies (knows x.pass) h.runs), rest.1.each);
            least = λ g is. first_or g is;
            apart = ((λ g is same. absurd (omega (arith, number, same, rest.1.least g is))), rest.1.apart);
            calls = map-append asked_by h.replies (replies_of rest.0) ∙ ap (λ (l : List Asked). l ++ map asked_by (replies_of rest.0)) calls ∙ ap (λ (l : List Asked). asked_of n 1 (calls_in room) ++ l) rest.1.calls;
            passes = ap (λ (l : List ThePass). knows x.pass ∷ l) rest.1.passes;
            lines = λ i. (sym h.lines_are) i ∷ rest.1.lines i;
            spent = first_append h.replies (replies_of rest.0) ∙ ap₂ first_of h.first_told rest.1.spent;
          },
        )
      where
        first_or : (g : Handled) → Contains (record { pass = knows x.pass; replies = ran.0.handles.replies } ∷ rest.0) g → n ≤ g.pass.handler
        first_or g (zero, lt, e) = omega (arith, ap (λ (k : Handled). k.pass.handler) e, ran.0.handles.handler, taken.0.fresh.handler)
        first_or g (suc k, lt, e) = omega (arith, rest.1.least g (k, omega (arith, lt), e))

pub served : {N : Type 0} {of : Ghosts N} (name : Naming) (place : ServiceId) (time : ℕ) (rooms : List CallRoom) (os xs : List (Handler (Pass N of))) → AreTaken 1 rooms os → HaveRun name place time os xs → (hs : List Handled) × IsHandled name time 1 rooms xs hs
served name place time rooms os xs taken ran = handled_all name place time 1 rooms os xs taken (each_ran name place time os xs ran)

-- ---- lengths

pub taken_length : {N : Type 0} {of : Ghosts N} (n : ℕ) (rooms : List CallRoom) (hs : List (Handler (Pass N of))) → AreTaken n rooms hs → length hs ≡ length rooms
taken_length n [] [] t = refl
taken_length n [] (h ∷ hs) t = absurd t
taken_length n (room ∷ rooms) [] t = absurd t
taken_length n (room ∷ rooms) (h ∷ hs) t = omega (arith, taken_length (n + 1) rooms hs t.1)

-- one more handler
pub taken_push : {N : Type 0} {of : Ghosts N} (n : ℕ) (rooms : List CallRoom) (room : CallRoom) (hs : List (Handler (Pass N of))) (h : Handler (Pass N of)) → AreTaken n rooms hs → IsTaken (n + length rooms) room h → AreTaken n (rooms ++ room ∷ []) (hs ++ h ∷ [])
taken_push n [] room [] h t is = (subst (λ k. IsTaken k room h) (omega arith) is, tt)
taken_push n [] room (g ∷ hs) h t is = absurd t
taken_push n (r ∷ rooms) room [] h t is = absurd t
taken_push n (r ∷ rooms) room (g ∷ hs) h t is = (t.0, taken_push (n + 1) rooms room hs h t.1 (subst (λ k. IsTaken k room h) (omega arith) is))

-- all are of the server at this place, with one more of it
pub of_push : {N : Type 0} {of : Ghosts N} (place : ServiceId) (hs : List (Handler (Pass N of))) (h : Handler (Pass N of)) → AllOfPlace place hs → IsPassOf place h.pass → AllOfPlace place (hs ++ h ∷ [])
of_push place [] h all is = (is, tt)
of_push place (g ∷ hs) h all is = (all.0, of_push place hs h all.1 is)

-- ---- closed

at_map : (cs : List ClosedRegion) → map (λ (x : ClosedAt). x.region) (map closed_at cs) ≡ map (λ (x : ClosedRegion). x.region) cs
at_map [] = refl
at_map (c ∷ cs) = ap (λ (l : List ℕ). c.region ∷ l) (at_map cs)

-- the bases that a name tells are what the files recover to
pub bases_found : (files : Files) (bases : List Base) (name : Naming) (regions : ℕ) → AreBasesOf files 1 bases → length bases ≡ regions
    → ((r : ℕ) → 1 ≤ r → r ≤ regions → name.bases r ≡ base_at bases r) → (r : ℕ) → 1 ≤ r → r ≤ regions → IsFound files r (name.bases r)
bases_found files bases name regions are count picks r low high =
    let is = base_of_region files bases are r low (omega (arith, count, high)) in
    subst (IsFound files r) (sym (picks r low high)) (record { last = is.last; content = is.content })

pub closed_from : {N : Type 0} {of : Ghosts N} (name : Naming) (place : ServiceId) (time regions : ℕ) (rooms : List CallRoom) (os xs : List (Handler (Pass N of))) (files : Files) (left : DiskView) (cs : List ClosedRegion) (broken : Bool)
    (passes : List ThePass) (lines : List (List ReplyLine)) (spent : Option Spent)
    → IsScript (script_in time regions rooms) → IsNameFor (script_in time regions rooms) name → AreTaken 1 rooms os → HaveRun name place time os xs
    → passes ≡ map pass_of xs → lines ≡ map lines_in xs → spent ≡ first_of_all (map spent_in xs) → IsSound files
    → ((r : ℕ) → 1 ≤ r → r ≤ regions → IsFound files r (name.bases r))
    → map (λ (x : ClosedRegion). x.region) cs ≡ range_with_len 1 name.regions
    → ((x : ClosedRegion) → Contains cs x → IsClosedRegion name x.region passes (region_of x))
    → ((x : ClosedRegion) → Contains cs x → ∥ Survives left broken x.region (region_of x) ∥₁)
    → ∥ Leaves files left broken name.regions ∥₁
    → ((p : ThePass) → Contains passes p → p.broken ≡ true → broken ≡ true)
    → HasClosed (script_in time regions rooms) files left name cs lines spent broken
closed_from name place time regions rooms os xs files left cs broken passes lines spent right named taken ran are said told sound bases numbers closed survives leaves seen =
    let all = served name place time rooms os xs taken ran in
    let back : passes ≡ passes_of all.0 = are ∙ sym all.1.passes in
    record {
      handlers = all.0;
      closed = record {
        script_right = right;
        named = named;
        runs = record { each = all.1.each; apart = all.1.apart };
        calls = all.1.calls;
        numbers = at_map cs ∙ numbers ∙ ap (range_with_len 1) named.regions;
        regions = λ x is. let m = mapped closed_at cs x is in subst (λ (y : ClosedAt). IsClosedRegion name y.region (passes_of all.0) y.it) m.2 (subst (λ ps. IsClosedRegion name m.0.region ps (region_of m.0)) back (closed m.0 m.1));
        survives = λ x is. let m = mapped closed_at cs x is in subst (λ (y : ClosedAt). ∥ Survives left broken y.region y.it ∥₁) m.2 (survives m.0 m.1);
        leaves = subst (λ r. ∥ Leaves files left broken r ∥₁) named.regions leaves;
        seen_broken = λ p is. seen p (subst (λ ps. Contains ps p) (sym back) is);
        sound = sound;
        bases = bases;
      };
      lines = said ∙ all.1.lines;
      first_told = all.1.spent ∙ sym told;
    }

-- ---- not closed

pub opened_keeps : (found left : DiskView) → During (WasOrAlike found) found left → KeepsFound found left
opened_keeps found left during = half_keeps found left ∣ during ∣₁

pub left_of : (name : Naming) (found left : DiskView) (passes : List ThePass) (regions : ℕ) → 1 ≤ regions → name.regions ≡ regions
    → ((r : ℕ) → 1 ≤ r → r ≤ regions → IsFound found.files r (name.bases r))
    → (start : ℕ) → IsLeft name passes start left → ∥ Leaves found.files left true name.regions ∥₁ → KeepsFound found left
left_of name found left passes regions some same bases start each leaves =
    all_keep found left (left_keeps found.files left name passes name.regions true (omega (arith, some, same)) (λ r low high. ∥∥₁_map (each r low high) (λ x. (x.0, x.1, x.2))) leaves (λ r low high. bases r low (omega (arith, same, high))))

-- the first of several, and of one more
pub first_all_push : (os : List (Option Spent)) (o : Option Spent) → first_of_all (os ++ o ∷ []) ≡ first_of (first_of_all os) o
first_all_push [] None = refl
first_all_push [] (Some s) = refl
first_all_push (p ∷ os) o = ap (first_of p) (first_all_push os o) ∙ sym (first_assoc p (first_of_all os) o)
