-- What writes after a front leave.
use Rattle.std.proofs.Common.{◌≡◌, ℕ, ◌≤◌, List, ◌++◌, length, take, drop, Option, Some, None, refl, sym, ◌∙◌, ap, arith, length-append, take-append-drop}
use Rattle.std.proofs.lemmas.List.{take_at, take-take}
use Rattle.log_model.specs.declared.name.Name.{Name}
use Rattle.log_model.specs.Files.{Files, content, Reads}
use Rattle.disk_images.specs.Crash.{DiskView, IsImageNow, OnlyAt, TornFile, Throughout, overwritten}
use Rattle.disk_images.specs.Calls.{Writes, Syncs}
use Rattle.disk_images.specs.Gate.{IsFronted, IsFilled}
use Rattle.disk_images.proofs.Moments.{in_one_call}
use Rattle.disk_images.proofs.Torn.{written_image, only_unchanged}
use Rattle.disk_images.proofs.Pieces.{overwritten_end}

-- a text whose first bytes are those of another one begins with what that one begins with, up to there
same_front : (front rest new : List ℕ) (at : ℕ) → length front ≤ at → take at new ≡ take at (front ++ rest) → take (length front) new ≡ front
same_front front rest new at le same = sym (take-take (length front) at new le) ∙ ap (take (length front)) same ∙ take-take (length front) at (front ++ rest) le ∙ take_at front rest (length front) refl

pub front_kept : (front : List ℕ) (at n : ℕ) (old new : Option (List ℕ)) → length front ≤ at → IsFronted front old → TornFile at n old new → IsFronted front new
front_kept front at n None new le has torn = absurd (cc (has.2))
front_kept front at n (Some c) new le has torn =
    let is : c ≡ front ++ has.1 = (let same : c ≡ has.0 = cc (has.2) in same ∙ has.3) in
    let first = same_front front has.1 torn.0 at le (torn.2.before ∙ ap (take at) is) in
    (torn.0, drop (length front) torn.0, torn.1, sym (take-append-drop (length front) torn.0) ∙ ap (λ (l : List ℕ). l ++ drop (length front) torn.0) first)

module _ (name : Name) (front text : List ℕ) (v w : DiskView) (filled : IsFilled v name front text) where
  still_fronted : (J : Files) → IsImageNow v J → OnlyAt name (IsFronted front) v J
  still_fronted J now = only_unchanged name (IsFronted front) v J filled.fronted now

  module _ {T E : Type 0} {result : Rattle.std.specs.Prelude.Result T E} (at : ℕ) (bytes : List ℕ) (ends : at ≡ length text) (writes : Writes name at bytes result v w) where
    now_fronted : (J : Files) → IsImageNow w J → OnlyAt name (IsFronted front) v J
    now_fronted J now =
        let torn = written_image name at (length bytes) v w filled.unmoved writes.crash J now in
        record { base = torn.base; was = torn.was; elsewhere = torn.elsewhere; here = front_kept front at (length bytes) (content torn.base name) (content J name) (omega (arith, filled.behind, ends)) (filled.fronted torn.base torn.was) torn.here }

    pub write_moment : Throughout (OnlyAt name (IsFronted front) v) 1 v w
    write_moment = in_one_call (OnlyAt name (IsFronted front) v) v w still_fronted writes.time now_fronted

    pub filled_on : ((c : List ℕ) → Reads v.files name c → Reads w.files name (overwritten c at bytes)) → IsFilled w name front (text ++ bytes)
    filled_on written = record {
      reads = written text filled.reads ∙ ap (λ (b : List ℕ). Some b) (overwritten_end text bytes at ends);
      fronted = λ J now. (now_fronted J now).here;
      unmoved = λ m former. filled.unmoved m (writes.formerly name m former);
      behind = omega (arith, filled.behind, length-append text bytes);
    }

  pub sync_moment : {T E : Type 0} {result : Rattle.std.specs.Prelude.Result T E} → Syncs name result v w → Throughout (OnlyAt name (IsFronted front) v) 1 v w
  sync_moment syncs = in_one_call (OnlyAt name (IsFronted front) v) v w still_fronted syncs.looks.time (λ J now. still_fronted J (syncs.looks.crash J now))
