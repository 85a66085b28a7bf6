-- The calls of a history, played once more in a crash.
use Rattle.std.proofs.Common.{◌≡◌, inl, inr, ℕ, ◌≤◌, List, [], ◌∷◌, ◌++◌, length, Option, Some, None, Vec, is_some, take, drop, refl, sym, ◌∙◌, ap, subst, arith, length-take, take-append-drop}
use Rattle.std.specs.declared.alloc.Global.{Global}
use Rattle.log_model.specs.declared.name.Name.{Name}
use Rattle.log_model.specs.Files.{Files, content, IsAbsent, Reads, SameBut}
use Rattle.disk_images.specs.Crash.{DiskView, IsImageNow, overwritten}
use Rattle.disk_images.specs.Calls.{IsTrueDisk}
use Rattle.disk_fakes.specs.declared.op.Op.{Op}
use Rattle.disk_fakes.specs.declared.op.Op.TheVariants.{Create, Write, Sync, Rename, Remove, Settle}
use Rattle.disk_fakes.specs.History.{written, renamed, step, after, quiet, Meets, MeetAll, AreNamed, step-clock, after-clock}
use Rattle.disk_fakes.specs.Candidate.{IsPinned, IsSettled, IsCandidate, Carries, WritesWithin}
use Rattle.disk_fakes.specs.Laws.{text_of, reached, fair_after, fair_quiet}
use Rattle.disk_fakes.proofs.Steps.{after_push}
use Rattle.disk_fakes.proofs.Candidates.{create_done, create_lost, write_any, within_torn, sync_any, settle_any, in_image, apart, rename_done, rename_lost, remove_done, remove_lost}

met_parts : (v : DiskView) (ops : List Op) (op : Op) → MeetAll v (ops ++ op ∷ []) → MeetAll v ops × Meets (after v ops) op
met_parts v [] op met = (tt, met.0)
met_parts v (o ∷ ops) op met = let more = met_parts (step v o) ops op met.1 in ((met.0, more.0), more.1)

carries : (op : Op) (rest : List Op) (I J : Files) → ((v : DiskView) → IsTrueDisk v → Meets v op → IsCandidate v (op ∷ rest) I → IsCandidate (step v op) rest J) → Carries op rest I J
carries op rest I J one first done named met was =
    let parts = met_parts (quiet first) done op met in
    after_push (λ w. IsCandidate w rest J) (quiet first) done op (one (after (quiet first) done) (fair_after (quiet first) (fair_quiet first named) done parts.0) parts.1 was)

pub created : (name : Name) (rest : List Op) (I K : Files) → Reads K name [] → SameBut name I K → Carries (Create name) rest I K
created name rest I K reads others = carries (Create name) rest I K (λ v fair met was. create_done v fair rest I name met.0 met.1 met.2 was K reads others)

pub not_created : (name : Name) (rest : List Op) (I : Files) → (¬ IsPinned rest name) × (¬ IsSettled rest) → Carries (Create name) rest I I
not_created name rest I free = carries (Create name) rest I I (λ v fair met was. create_lost v fair rest I name met.0 met.1 met.2 was free.0 free.1)

pub wrote : (name : Name) (at : ℕ) (b : Vec ℕ Global) (rest : List Op) (I K : Files) (piece : List ℕ)
    → WritesWithin name at piece I K → length piece ≤ length b.items → (IsPinned rest name → piece ≡ b.items) → Carries (Write name at b) rest I K
wrote name at b rest I K piece within le whole = carries (Write name at b) rest I K (λ v fair met was.
    let text = reached (content v.files name) at met in
    subst (λ (o : Option (List ℕ)). IsCandidate (written v name at b.items o) rest K) (sym text.1)
    (write_any v fair rest I name at b.items text.0 text.1 K within.others (Write name at b) was
    (within_torn name at (length b.items) piece I K le within (content I name) refl)
    (λ pin.
    let here : Reads I name text.0 = (was.pinned name (ap is_some text.1) (inr pin)).0 ∙ text.1 in
    subst (λ (l : List ℕ). Reads K name (overwritten text.0 at l)) (whole pin) (within.written text.0 here text.2))))

pub synced : (name : Name) (rest : List Op) (I : Files) → Carries (Sync name) rest I I
synced name rest I = carries (Sync name) rest I I (λ v fair met was. sync_any v fair rest I name met was)

pub settled : (rest : List Op) (I : Files) → Carries Settle rest I I
settled rest I = carries Settle rest I I (λ v fair met was. settle_any v fair rest I was)

pub moved : (from to : Name) (rest : List Op) (I between K : Files) (copy : List ℕ)
    → ((c : List ℕ) → Reads I from c → copy ≡ c) → Reads between to copy → SameBut to I between → IsAbsent K from → SameBut from between K → Carries (Rename from to) rest I K
moved from to rest I between K copy is put others left rest_others = carries (Rename from to) rest I K (λ v fair met was.
    let text = text_of (content v.files from) met.0 in
    let same = is text.0 (in_image v fair rest I from to text.0 text.1 met.1 met.2 met.3 was) in
    let not_same = apart v fair rest I from to text.0 text.1 met.1 met.2 met.3 was in
    subst (λ (o : Option (List ℕ)). IsCandidate (renamed v from to o) rest K) (sym text.1)
    (rename_done v fair rest I from to text.0 text.1 met.1 met.2 met.3 was K
    (rest_others to (λ is_from. not_same (sym is_from)) ∙ put ∙ ap (λ (l : List ℕ). Some l) same) left (λ m not_from not_to. rest_others m not_from ∙ others m not_to)))

pub not_moved : (from to : Name) (rest : List Op) (I : Files) → (¬ IsPinned rest to) × (¬ IsSettled rest) → Carries (Rename from to) rest I I
not_moved from to rest I free = carries (Rename from to) rest I I (λ v fair met was.
    let text = text_of (content v.files from) met.0 in
    subst (λ (o : Option (List ℕ)). IsCandidate (renamed v from to o) rest I) (sym text.1)
    (rename_lost v fair rest I from to text.0 text.1 met.1 met.2 met.3 was free.0 free.1))

pub removed : (name : Name) (rest : List Op) (I K : Files) → IsAbsent K name → SameBut name I K → Carries (Remove name) rest I K
removed name rest I K absent others = carries (Remove name) rest I K (λ v fair met was. remove_done v fair rest I name met was K absent others)

pub not_removed : (name : Name) (rest : List Op) (I : Files) → ¬ IsSettled rest → Carries (Remove name) rest I I
not_removed name rest I free = carries (Remove name) rest I I (λ v fair met was. remove_lost v fair rest I name met was free)

-- before the first call
pub at_first : (files J : Files) (rest : List Op) → AreNamed files → J ≡ files → IsCandidate (quiet files) rest J
at_first files J rest named same = subst (IsCandidate (quiet files) rest) (sym same) (record {
  now = λ m. refl;
  pinned = λ n there pin. (refl, λ m former. absurd former);
  settled = λ settled m. refl;
  named = named;
})

pub met_front : (v : DiskView) (xs ys : List Op) → MeetAll v (xs ++ ys) → MeetAll v xs
met_front v [] ys met = tt
met_front v (x ∷ xs) ys met = (met.0, met_front (step v x) xs ys met.1)

pub met_take : (v : DiskView) (n : ℕ) (ops : List Op) → MeetAll v ops → MeetAll v (take n ops)
met_take v n ops met = met_front v (take n ops) (drop n ops) (subst (MeetAll v) (sym (take-append-drop n ops)) met)

step_keeps : (v : DiskView) (op : Op) (t : ℕ) (J : Files) → t ≤ v.clock → v.image t J → (step v op).image t J
step_keeps v (Create name) t J le there = inl (le, there)
step_keeps v (Write name at bytes) t J le there = elim (content v.files name) as (λ o. (written v name at bytes.items o).image t J) [ None ↦ inl (le, there) | Some c ↦ inl (le, there) ]
step_keeps v (Sync name) t J le there = inl (le, there)
step_keeps v (Rename from to) t J le there = elim (content v.files from) as (λ o. (renamed v from to o).image t J) [ None ↦ inl (le, there) | Some c ↦ inl (le, there) ]
step_keeps v (Remove name) t J le there = inl (le, there)
step_keeps v Settle t J le there = inl (le, there)

keeps : (v : DiskView) (ops : List Op) (t : ℕ) (J : Files) → t ≤ v.clock → v.image t J → (after v ops).image t J
keeps v [] t J le there = there
keeps v (op ∷ ops) t J le there = keeps (step v op) ops t J (omega (arith, le, step-clock v op)) (step_keeps v op t J le there)

after_all : (Q : DiskView → Type 0) (v : DiskView) (xs ys : List Op) → Q (after (after v xs) ys) → Q (after v (xs ++ ys))
after_all Q v [] ys q = q
after_all Q v (x ∷ xs) ys q = after_all Q (step v x) xs ys q

-- an image after the first calls is one at that moment
pub at_moment : (first : Files) (ops : List Op) (moment : ℕ) (J : Files) → moment ≤ length ops → IsImageNow (after (quiet first) (take moment ops)) J → (after (quiet first) ops).image moment J
at_moment first ops moment J le now =
    let v = after (quiet first) (take moment ops) in
    let clock : v.clock ≡ moment = omega (arith, after-clock (quiet first) (take moment ops), length-take moment ops, le) in
    let there : v.image moment J = subst (λ (t : ℕ). v.image t J) clock now in
    subst (λ (l : List Op). (after (quiet first) l).image moment J) (take-append-drop moment ops)
    (after_all (λ w. w.image moment J) (quiet first) (take moment ops) (drop moment ops) (keeps v (drop moment ops) moment J (omega (arith, clock)) there))
