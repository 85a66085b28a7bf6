-- The entries of calls, one list of calls after the other.
use Rattle.std.proofs.Common.{◌≡◌, ◌<◌, ◌≤◌, ℕ, suc, ◌+◌, ◌*◌, All, List, [], ◌∷◌, ◌++◌, map, length, take, get_or, sym, ap, subst, ◌∙◌, arith}
use Rattle.std.proofs.lemmas.List.{append_assoc, append-nil, length-append, length-map, map-append, map_more, get_or-map, take_more, take_all}
use Rattle.std.proofs.lemmas.Grind.{flat_map-append}
use Rattle.std.specs.List.{AllByRecursion, flat_map}
use Rattle.log_model.specs.Entry.{Entry, IsEntry, entry_frame}
use Rattle.region_model.specs.Calls.{Call, Put, Scan, Flush, Roll}
use Rattle.log_command.specs.Logged.{entries_from, calls_in, entries_in}
use Rattle.script_model.specs.Calls.{Script, IsScript, IsAmong}
use Rattle.script_calls.specs.Calls.{call_of}
use Rattle.script_calls.specs.declared.call.Call.{Call as CodeCall}
use Rattle.log_command.proofs.Framed.{Framed, FramedFew}

pub entries_append : (time n : ℕ) (xs ys : List Call) → entries_from time n (xs ++ ys) ≡ entries_from time n xs ++ entries_from time (n + length (entries_from time n xs)) ys
entries_append time n [] ys = let e : n ≡ n + 0 = omega arith in ap (λ (k : ℕ). entries_from time k ys) e
entries_append time n (Put r sync batch ∷ xs) ys =
    let e : n + 1 + length (entries_from time (n + 1) xs) ≡ n + suc (length (entries_from time (n + 1) xs)) = omega arith in
    ap (λ (es : List Entry). record { region = r; number = n; time = time; batch = batch } ∷ es)
    (entries_append time (n + 1) xs ys ∙ ap (λ (k : ℕ). entries_from time (n + 1) xs ++ entries_from time k ys) e)
entries_append time n (Scan view r from to ∷ xs) ys = entries_append time n xs ys
entries_append time n (Flush r family ∷ xs) ys = entries_append time n xs ys
entries_append time n (Roll ∷ xs) ys = entries_append time n xs ys

pub each_append : (xs ys : List Entry) → AllByRecursion IsEntry xs → AllByRecursion IsEntry ys → AllByRecursion IsEntry (xs ++ ys)
each_append [] ys first second = second
each_append (x ∷ xs) ys first second = (first.0, each_append xs ys first.1 second)

pub framed_append : (time : ℕ) (before mid after : List (List ℕ)) (xs ys : List Call) → Framed time before mid xs → Framed time mid after ys → Framed time before after (xs ++ ys)
framed_append time before mid after xs ys first second =
    let es : List Entry = entries_from time (length before + 1) xs in
    let len : length mid ≡ length before + length es = ap length first.framed ∙ length-append before (map entry_frame es) ∙ ap (λ (k : ℕ). length before + k) (length-map es entry_frame) in
    let n : length mid + 1 ≡ length before + 1 + length es = omega (arith, len) in
    let is : entries_from time (length before + 1) (xs ++ ys) ≡ es ++ entries_from time (length mid + 1) ys
    = entries_append time (length before + 1) xs ys ∙ ap (λ (k : ℕ). es ++ entries_from time k ys) (sym n) in
    let more : List Entry = entries_from time (length mid + 1) ys in
    record {
      framed = second.framed
          ∙ ap (λ (fs : List (List ℕ)). fs ++ map entry_frame more) first.framed
          ∙ append_assoc before (map entry_frame es) (map entry_frame more)
          ∙ ap (λ (fs : List (List ℕ)). before ++ fs) (sym (map-append entry_frame es more))
          ∙ ap (λ (all : List Entry). before ++ map entry_frame all) (sym is);
      entries = subst (λ (all : List Entry). AllByRecursion IsEntry all) (sym is) (each_append es more first.entries second.entries);
    }

pub framed_on : (time n most m : ℕ) (before mid after : List (List ℕ)) (xs ys zs : List Call) → FramedFew time before mid xs most → length mid ≡ n
    → after ≡ mid ++ map entry_frame (entries_from time (n + 1) ys) → AllByRecursion IsEntry (entries_from time (n + 1) ys) → length after ≤ n + m → zs ≡ xs ++ ys
    → FramedFew time before after zs (most + m)
framed_on time n most m before mid after xs ys zs so_far len is entries few all =
    let next : Framed time mid after ys = record {
      framed = subst (λ (k : ℕ). after ≡ mid ++ map entry_frame (entries_from time (k + 1) ys)) (sym len) is;
      entries = subst (λ (k : ℕ). AllByRecursion IsEntry (entries_from time (k + 1) ys)) (sym len) entries;
    } in
    record {
      each = subst (λ (cs : List Call). Framed time before after cs) (sym all) (framed_append time before mid after xs ys so_far.each next);
      few = omega (arith, so_far.few, len, few);
    }

-- the call at a place keeps what all of them do
pub among_at : (regions i : ℕ) (calls : List CodeCall) (call : CodeCall) → All (IsAmong regions) (map call_of calls) → i < length calls → call ≡ get_or calls i call → IsAmong regions (call_of call)
among_at regions i calls call all lt here =
    let more : i < length (map call_of calls) = omega (arith, lt, length-map calls call_of) in
    let is : get_or (map call_of calls) i (call_of call) ≡ call_of call = get_or-map call_of calls i call (call_of call) lt ∙ ap call_of (sym here) in
    subst (λ (c : Call). IsAmong regions c) is (all i (call_of call) more)

pub calls_more : (i : ℕ) (calls : List CodeCall) (call : CodeCall) → i < length calls → call ≡ get_or calls i call → map call_of (take (i + 1) calls) ≡ map call_of (take i calls) ++ call_of call ∷ []
calls_more i calls call lt here =
    map_more call_of calls i call lt ∙ ap (λ (c : CodeCall). map call_of (take i calls) ++ call_of c ∷ []) (sym here)

pub handlers_more : (i : ℕ) (handlers : List (List Call)) (calls : List Call) → i < length handlers → calls ≡ get_or handlers i calls
    → flat_map (λ (cs : List Call). cs) (take (i + 1) handlers) ≡ flat_map (λ (cs : List Call). cs) (take i handlers) ++ calls
handlers_more i handlers calls lt here =
    ap (λ (css : List (List Call)). flat_map (λ (cs : List Call). cs) css) (take_more handlers i calls lt)
    ∙ flat_map-append (λ (cs : List Call). cs) (take i handlers) (get_or handlers i calls ∷ [])
    ∙ ap (λ (cs : List Call). flat_map (λ (ds : List Call). ds) (take i handlers) ++ cs) (append-nil (get_or handlers i calls) ∙ sym here)

-- one more handler
pub handler_on : (script : Script) (time i n : ℕ) (mid after : List (List ℕ)) (calls : List Call) (items : List CodeCall) → IsScript script → time ≡ script.time
    → i < length script.handlers → calls ≡ get_or script.handlers i calls → map call_of items ≡ calls
    → FramedFew script.time [] mid (flat_map (λ (cs : List Call). cs) (take i script.handlers)) (i * 16777216) → length mid ≡ n
    → after ≡ mid ++ map entry_frame (entries_from time (n + 1) (map call_of items)) → AllByRecursion IsEntry (entries_from time (n + 1) (map call_of items)) → length after ≤ n + length items
    → FramedFew script.time [] after (flat_map (λ (cs : List Call). cs) (take (i + 1) script.handlers)) ((i + 1) * 16777216)
handler_on script time i n mid after calls items right at lt here view so_far len is entries few =
    let short : length calls ≤ 16777216 = subst (λ (cs : List Call). length cs ≤ 16777216) (sym here) (right.calls_few i calls lt) in
    let same : length items ≡ length calls = sym (length-map items call_of) ∙ ap length view in
    let sum : i * 16777216 + 16777216 ≡ (i + 1) * 16777216 = omega arith in
    subst (λ (most : ℕ). FramedFew script.time [] after (flat_map (λ (cs : List Call). cs) (take (i + 1) script.handlers)) most) sum
    (framed_on script.time n (i * 16777216) 16777216 [] mid after (flat_map (λ (cs : List Call). cs) (take i script.handlers)) (map call_of items) _
    so_far len (subst (λ (t : ℕ). after ≡ mid ++ map entry_frame (entries_from t (n + 1) (map call_of items))) at is)
    (subst (λ (t : ℕ). AllByRecursion IsEntry (entries_from t (n + 1) (map call_of items))) at entries) (omega (arith, few, same, short))
    (handlers_more i script.handlers calls lt here ∙ ap (λ (cs : List Call). flat_map (λ (ds : List Call). ds) (take i script.handlers) ++ cs) (sym view)))

pub handlers_done : (script : Script) (i most : ℕ) (frames : List (List ℕ)) → FramedFew script.time [] frames (flat_map (λ (cs : List Call). cs) (take i script.handlers)) most → length script.handlers ≤ i
    → (frames ≡ map entry_frame (entries_in script)) × AllByRecursion IsEntry (entries_in script)
handlers_done script i most frames so_far past =
    let whole : Framed script.time [] frames (calls_in script)
    = subst (λ (css : List (List Call)). Framed script.time [] frames (flat_map (λ (cs : List Call). cs) css)) (take_all i script.handlers past) so_far.each in
    (whole.framed, whole.entries)
