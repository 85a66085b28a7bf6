-- One call more on a disk with fixed room.
use Rattle.std.proofs.Common.{◌≡◌, ◌≢◌, inl, inr, ℕ, ◌+◌, ◌-◌, ◌≤◌, ◌<◌, List, [], ◌∷◌, ◌++◌, length, get_or, Option, Some, None, is_some, Result, take, drop, refl, sym, ◌∙◌, ap, subst, arith, length-append, length-drop, take-append-drop}
use Rattle.std.proofs.lemmas.List.{take_all, take-append-le, drop-append-le, drop_at, take_more}
use Rattle.std.specs.FinMap as map
use Rattle.log_model.specs.declared.name.Name.{Name}
use Rattle.log_model.specs.Files.{Files, content, Reads, Same}
use Rattle.disk_images.specs.Crash.{DiskView, IsImageNow, Elapses, overwritten, Torn}
use Rattle.disk_images.specs.Calls.{Creates, Writes, Syncs, Renames, Renamed, Removes, Settles}
use Rattle.disk_fakes.specs.declared.safe_call.SafeCall.{SafeCall}
use Rattle.disk_fakes.specs.declared.safe_call.SafeCall.TheVariants.{Create, Write, Rename, Remove}
use Rattle.disk_fakes.specs.Order.{insert_here, insert_other, remove_here, remove_other}
use Rattle.disk_fakes.specs.Laws.{torn_over, torn_to}
use Rattle.disk_fakes.specs.Safe.{no_files, text_in, put_over, applied, files_after, Met, AreMet, view_in}
use Rattle.disk_fakes.specs.SafeLaws.{now_same, same_now}
use Rattle.disk_fakes.proofs.Steps.{on_all, looks_not}

text_grown : (arena more : List ℕ) (start len : ℕ) → start + len ≤ length arena → text_in (arena ++ more) start len ≡ text_in arena start len
text_grown arena more start len le =
    let from : start ≤ length arena = omega (arith, le) in
    let long : len ≤ length (drop start arena) = omega (arith, length-drop start arena, le) in
    ap (take len) (drop-append-le start arena more from) ∙ take-append-le len (drop start arena) more long

-- the bytes that were added
pub text_added : (arena more : List ℕ) → text_in (arena ++ more) (length arena) (length more) ≡ more
text_added arena more = ap (take (length more)) (drop_at arena more (length arena) refl) ∙ take_all (length more) more (omega arith)

-- a write whose bytes were added
pub written_is : (arena bytes : List ℕ) (files : Files) (name : Name) (at start len : ℕ) (c : List ℕ) → start ≡ length arena → len ≡ length bytes → Reads files name c
    → applied (arena ++ bytes) files (Write name at start len) ≡ map.insert files name (overwritten c at bytes)
written_is arena bytes files name at start len c start_is len_is reads =
    let text : text_in (arena ++ bytes) start len ≡ bytes = ap (λ (s : ℕ). text_in (arena ++ bytes) s len) start_is ∙ ap (λ (n : ℕ). text_in (arena ++ bytes) (length arena) n) len_is ∙ text_added arena bytes in
    ap (λ (b : List ℕ). put_over files name at b (content files name)) text ∙ ap (λ (o : Option (List ℕ)). put_over files name at bytes o) reads

applied_grown : (arena more : List ℕ) (files : Files) (call : SafeCall) → Met arena files call → applied (arena ++ more) files call ≡ applied arena files call
applied_grown arena more files (Create name) met = refl
applied_grown arena more files (Write name at start len) met = ap (λ (b : List ℕ). put_over files name at b (content files name)) (text_grown arena more start len met.1)
applied_grown arena more files (Rename from to) met = refl
applied_grown arena more files (Remove name) met = refl

met_grown : (arena more : List ℕ) (files : Files) (call : SafeCall) → Met arena files call → Met (arena ++ more) files call
met_grown arena more files (Create name) met = met
met_grown arena more files (Write name at start len) met = (met.0, omega (arith, met.1, length-append arena more), met.2)
met_grown arena more files (Rename from to) met = met
met_grown arena more files (Remove name) met = met

files_grown : (arena more : List ℕ) (files : Files) (calls : List SafeCall) → AreMet arena files calls → files_after (arena ++ more) files calls ≡ files_after arena files calls
files_grown arena more files [] met = refl
files_grown arena more files (call ∷ calls) met =
    ap (λ (f : Files). files_after (arena ++ more) f calls) (applied_grown arena more files call met.0) ∙ files_grown arena more (applied arena files call) calls met.1

are_met_grown : (arena more : List ℕ) (files : Files) (calls : List SafeCall) → AreMet arena files calls → AreMet (arena ++ more) files calls
are_met_grown arena more files [] met = tt
are_met_grown arena more files (call ∷ calls) met =
    (met_grown arena more files call met.0, subst (λ (f : Files). AreMet (arena ++ more) f calls) (sym (applied_grown arena more files call met.0)) (are_met_grown arena more (applied arena files call) calls met.1))

pub files_push : (arena : List ℕ) (files : Files) (calls : List SafeCall) (call : SafeCall) → files_after arena files (calls ++ call ∷ []) ≡ applied arena (files_after arena files calls) call
files_push arena files [] call = refl
files_push arena files (first ∷ calls) call = files_push arena (applied arena files first) calls call

met_push : (arena : List ℕ) (files : Files) (calls : List SafeCall) (call : SafeCall) → AreMet arena files calls → Met arena (files_after arena files calls) call → AreMet arena files (calls ++ call ∷ [])
met_push arena files [] call met now = (now, tt)
met_push arena files (first ∷ calls) call met now = (met.0, met_push arena (applied arena files first) calls call met.1 now)

met_front : (arena : List ℕ) (files : Files) (xs ys : List SafeCall) → AreMet arena files (xs ++ ys) → AreMet arena files xs
met_front arena files [] ys met = tt
met_front arena files (x ∷ xs) ys met = (met.0, met_front arena (applied arena files x) xs ys met.1)

pub met_first : (arena : List ℕ) (files : Files) (n : ℕ) (calls : List SafeCall) → AreMet arena files calls → AreMet arena files (take n calls)
met_first arena files n calls met = met_front arena files (take n calls) (drop n calls) (subst (λ (l : List SafeCall). AreMet arena files l) (sym (take-append-drop n calls)) met)

met_last : (arena : List ℕ) (files : Files) (calls : List SafeCall) (call : SafeCall) → AreMet arena files (calls ++ call ∷ []) → Met arena (files_after arena files calls) call
met_last arena files [] call met = met.0
met_last arena files (first ∷ calls) call met = met_last arena (applied arena files first) calls call met.1

-- the call at a place met its conditions
pub met_at : (arena : List ℕ) (files : Files) (n : ℕ) (calls : List SafeCall) (call : SafeCall) → take (n + 1) calls ≡ take n calls ++ call ∷ [] → AreMet arena files calls → Met arena (files_after arena files (take n calls)) call
met_at arena files n calls call is met = met_last arena files (take n calls) call (subst (λ (l : List SafeCall). AreMet arena files l) is (met_first arena files (n + 1) calls met))

module _ (arena more : List ℕ) (calls : List SafeCall) (call : SafeCall) (met : AreMet arena no_files calls) where
  pub noted_met : Met (arena ++ more) (files_after arena no_files calls) call → AreMet (arena ++ more) no_files (calls ++ call ∷ [])
  noted_met now =
      met_push (arena ++ more) no_files calls call (are_met_grown arena more no_files calls met)
      (subst (λ (f : Files). Met (arena ++ more) f call) (sym (files_grown arena more no_files calls met)) now)

  pub noted_files : files_after (arena ++ more) no_files (calls ++ call ∷ []) ≡ applied (arena ++ more) (files_after arena no_files calls) call
  noted_files = files_push (arena ++ more) no_files calls call ∙ ap (λ (f : Files). applied (arena ++ more) f call) (files_grown arena more no_files calls met)

  then_same : (t : ℕ) → t ≤ length calls → files_after (arena ++ more) no_files (take t (calls ++ call ∷ [])) ≡ files_after arena no_files (take t calls)
  then_same t le = ap (λ (l : List SafeCall). files_after (arena ++ more) no_files l) (take-append-le t calls (call ∷ []) le) ∙ files_grown arena more no_files (take t calls) (met_first arena no_files t calls met)

  pub noted_time : Elapses 1 (view_in arena calls) (view_in (arena ++ more) (calls ++ call ∷ []))
  noted_time = record {
    later = omega (arith, length-append calls (call ∷ []));
    by_most = omega (arith, length-append calls (call ∷ []));
    past = λ t J le there. (le, subst (λ (f : Files). Same f J) (then_same t le) there.1);
    kept = λ t J le there. (omega (arith, le, length-append calls (call ∷ [])), subst (λ (f : Files). Same f J) (sym (then_same t le)) there.1);
  }

-- a view after one call more
pub carried_over : (Q : DiskView → Type 0) (arena arena_now more : List ℕ) (calls calls_now : List SafeCall) (call : SafeCall) → arena_now ≡ arena ++ more → calls_now ≡ calls ++ call ∷ [] → Q (view_in (arena ++ more) (calls ++ call ∷ [])) → Q (view_in arena_now calls_now)
carried_over Q arena arena_now more calls calls_now call is are q =
    subst (λ (a : List ℕ). Q (view_in a calls_now)) (sym is) (subst (λ (l : List SafeCall). Q (view_in (arena ++ more) l)) (sym are) q)

pub stayed : (Q : DiskView → Type 0) (arena arena_now : List ℕ) (calls calls_now : List SafeCall) → arena_now ≡ arena → calls_now ≡ calls → Q (view_in arena calls) → Q (view_in arena_now calls_now)
stayed Q arena arena_now calls calls_now is are q = subst (λ (a : List ℕ). Q (view_in a calls_now)) (sym is) (subst (λ (l : List SafeCall). Q (view_in arena l)) (sym are) q)

module _ {T E : Type 0} (r : Result T E) (arena more : List ℕ) (calls : List SafeCall) (call : SafeCall) (met : AreMet arena no_files calls) where
  -- the images after the call
  after_call : (files : Files) → applied (arena ++ more) (files_after arena no_files calls) call ≡ files → (J : Files) → IsImageNow (view_in (arena ++ more) (calls ++ call ∷ [])) J → Same files J
  after_call files is J now = subst (λ (f : Files). Same f J) (noted_files arena more calls call met ∙ is) (now_same (arena ++ more) (calls ++ call ∷ []) J now)

  -- the files after the call
  there_now : (files : Files) (m : Name) → applied (arena ++ more) (files_after arena no_files calls) call ≡ files → content (files_after (arena ++ more) no_files (calls ++ call ∷ [])) m ≡ content files m
  there_now files m is = ap (λ (f : Files). content f m) (noted_files arena more calls call met ∙ is)

  before : IsImageNow (view_in arena calls) (files_after arena no_files calls)
  before = same_now arena calls (files_after arena no_files calls) (λ m. refl)

  pub creates : (name : Name) → applied (arena ++ more) (files_after arena no_files calls) call ≡ map.insert (files_after arena no_files calls) name [] → Creates name r (view_in arena calls) (view_in (arena ++ more) (calls ++ call ∷ []))
  creates name is =
      let old = files_after arena no_files calls in
      let new = map.insert old name [] in
      record {
        created = on_all r _ (there_now new name is ∙ insert_here old name []);
        either = inr (there_now new name is ∙ insert_here old name []);
        others = λ m other. there_now new m is ∙ insert_other old name m [] other;
        gone = λ m gone. absurd gone;
        formerly = λ n m former. absurd former;
        crash = λ J now. (old, before, record { elsewhere = λ m other. after_call new is J now m ∙ insert_other old name m [] other; here = inr (after_call new is J now name ∙ insert_here old name []) });
        time = noted_time arena more calls call met;
      }

  pub writes : (name : Name) (at : ℕ) (bytes c : List ℕ) → Reads (files_after arena no_files calls) name c → at ≤ length c
      → applied (arena ++ more) (files_after arena no_files calls) call ≡ map.insert (files_after arena no_files calls) name (overwritten c at bytes) → Writes name at bytes r (view_in arena calls) (view_in (arena ++ more) (calls ++ call ∷ []))
  writes name at bytes c reads le is =
      let old = files_after arena no_files calls in
      let new = map.insert old name (overwritten c at bytes) in
      let one : (d : List ℕ) → Reads old name d → c ≡ d = λ d was. cc (reads, was) in
      let here : content (files_after (arena ++ more) no_files (calls ++ call ∷ [])) name ≡ Some (overwritten c at bytes) = there_now new name is ∙ insert_here old name (overwritten c at bytes) in
      record {
        written = on_all r _ (λ d was. here ∙ ap (λ (l : List ℕ). Some (overwritten l at bytes)) (one d was));
        torn = λ d was. (overwritten c at bytes, here, subst (λ (l : List ℕ). Torn at (length bytes) l (overwritten c at bytes)) (one d was) (torn_over at c bytes le));
        others = λ m other. there_now new m is ∙ insert_other old name m (overwritten c at bytes) other;
        gone = λ m gone. absurd gone;
        formerly = λ n m former. absurd former;
        crash = λ J now. (
          old,
          before,
          record {
            elsewhere = λ m other not_former. after_call new is J now m ∙ insert_other old name m (overwritten c at bytes) other;
            here = torn_to at bytes c (content old name) (content J name) reads (after_call new is J now name ∙ insert_here old name (overwritten c at bytes)) le;
            formerly = λ m former. absurd former;
          },
        );
        time = noted_time arena more calls call met;
      }

  pub renames : (from to : Name) (c : List ℕ) → Reads (files_after arena no_files calls) from c → from ≢ to
      → applied (arena ++ more) (files_after arena no_files calls) call ≡ map.insert (map.remove (files_after arena no_files calls) from) to c → Renames from to r (view_in arena calls) (view_in (arena ++ more) (calls ++ call ∷ []))
  renames from to c reads apart is =
      let old = files_after arena no_files calls in
      let new = map.insert (map.remove old from) to c in
      let left : content new from ≡ None = insert_other (map.remove old from) to from c apart ∙ remove_here old from in
      let rest : (m : Name) → m ≢ from → m ≢ to → content new m ≡ content old m = λ m not_from not_to. insert_other (map.remove old from) to m c not_to ∙ remove_other old from m not_from in
      let there : content new to ≡ content old from = insert_here (map.remove old from) to c ∙ sym reads in
      let moved : Renamed from to old (files_after (arena ++ more) no_files (calls ++ call ∷ [])) = record { there = there_now new to is ∙ there; left = there_now new from is ∙ left } in
      record {
        renamed = on_all r _ moved;
        either = inl moved;
        others = λ m not_from not_to. there_now new m is ∙ rest m not_from not_to;
        gone = λ m gone. absurd gone;
        formerly = λ n m former. absurd former;
        crash = λ J now. (
          old,
          before,
          inr (record {
            name = from;
            borne = inl refl;
            there = after_call new is J now to ∙ there;
            left = after_call new is J now from ∙ left;
            elsewhere = λ m not_from not_to. after_call new is J now m ∙ rest m not_from not_to;
          }),
        );
        time = noted_time arena more calls call met;
      }

  pub removes : (name : Name) → applied (arena ++ more) (files_after arena no_files calls) call ≡ map.remove (files_after arena no_files calls) name → Removes name r (view_in arena calls) (view_in (arena ++ more) (calls ++ call ∷ []))
  removes name is =
      let old = files_after arena no_files calls in
      let new = map.remove old name in
      record {
        removed = on_all r _ (there_now new name is ∙ remove_here old name);
        either = inl (there_now new name is ∙ remove_here old name);
        others = λ m other. there_now new m is ∙ remove_other old name m other;
        gone = λ m gone. absurd gone;
        formerly = λ n m former. absurd former;
        crash = λ J now. (
          old,
          before,
          inr (record {
            here = after_call new is J now name ∙ remove_here old name;
            formerly = λ m former. absurd former;
            elsewhere = λ m other not_former. after_call new is J now m ∙ remove_other old name m other;
          }),
        );
        time = noted_time arena more calls call met;
      }

module _ {T E : Type 0} (r : Result T E) (arena : List ℕ) (calls : List SafeCall) where
  pub syncs : (name : Name) → Syncs name r (view_in arena calls) (view_in arena calls)
  syncs name = record {
    looks = looks_not (view_in arena calls);
    durable = on_all r _ (λ c reads J now. now_same arena calls J now name ∙ reads);
    left = on_all r _ (λ m former. absurd former);
    pinned = on_all r _ (λ m former. former);
  }

  pub settles : Settles r (view_in arena calls) (view_in arena calls)
  settles = record {
    looks = looks_not (view_in arena calls);
    pinned = on_all r _ (λ J m now. ap is_some (now_same arena calls J now m));
    none_gone = on_all r _ (λ m gone. gone);
    none_former = on_all r _ (λ n m former. former);
  }

-- the call that a loop has come to, from the front
module _ (arena arena_now : List ℕ) (calls calls_now : List SafeCall) (i : ℕ) (d : SafeCall) (arena_is : arena_now ≡ arena) (calls_is : calls_now ≡ calls) (lt : i < length calls_now) where
  one_more : take (i + 1) calls ≡ take i calls ++ get_or calls i d ∷ []
  one_more = take_more calls i d (omega (arith, lt, ap length calls_is))

  pub loop_met : (files : Files) → files ≡ files_after arena no_files (take i calls) → AreMet arena no_files calls → Met arena_now files (get_or calls_now i d)
  loop_met files is met =
      subst (λ (l : List SafeCall). Met arena_now files (get_or l i d)) (sym calls_is)
      (subst (λ (a : List ℕ). Met a files (get_or calls i d)) (sym arena_is)
      (subst (λ (f : Files). Met arena f (get_or calls i d)) (sym is) (met_at arena no_files i calls (get_or calls i d) one_more met)))

  pub loop_files : (files files_now : Files) → files ≡ files_after arena no_files (take i calls) → files_now ≡ applied arena_now files (get_or calls_now i d) → files_now ≡ files_after arena no_files (take (i + 1) calls)
  loop_files files files_now is now =
      now ∙ ap (λ (l : List SafeCall). applied arena_now files (get_or l i d)) calls_is ∙ ap (λ (a : List ℕ). applied a files (get_or calls i d)) arena_is
      ∙ ap (λ (f : Files). applied arena f (get_or calls i d)) is ∙ sym (files_push arena no_files (take i calls) (get_or calls i d)) ∙ ap (λ (l : List SafeCall). files_after arena no_files l) (sym one_more)

-- the same from the back
module _ (arena : List ℕ) (calls : List SafeCall) (left : ℕ) (call : SafeCall) (some : 0 < left) (le : left ≤ length calls) (is : call ≡ get_or calls (left - 1) call) where
  one_less : take left calls ≡ take (left - 1) calls ++ call ∷ []
  one_less = ap (λ (n : ℕ). take n calls) (omega (arith, some)) ∙ take_more calls (left - 1) call (omega (arith, some, le)) ∙ ap (λ (x : SafeCall). take (left - 1) calls ++ x ∷ []) (sym is)

  pub back_files : files_after arena no_files (take left calls) ≡ applied arena (files_after arena no_files (take (left - 1) calls)) call
  back_files = ap (λ (l : List SafeCall). files_after arena no_files l) one_less ∙ files_push arena no_files (take (left - 1) calls) call

  pub back_met : AreMet arena no_files calls → Met arena (files_after arena no_files (take (left - 1) calls)) call
  back_met met = met_last arena no_files (take (left - 1) calls) call (subst (λ (l : List SafeCall). AreMet arena no_files l) one_less (met_first arena no_files left calls met))
