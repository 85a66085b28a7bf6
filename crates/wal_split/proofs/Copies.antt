-- How far entries are copied.
use Rattle.std.proofs.Common.{◌≡◌, inl, inr, ℕ, ◌+◌, ◌*◌, ◌<◌, List, [], ◌∷◌, ◌++◌, length, take, drop, get_or, Contains, Option, None, refl, sym, ap, ◌∙◌, subst, arith}
use Rattle.std.proofs.lemmas.List.{take_more, take-append-drop}
use Rattle.std.proofs.lemmas.List.Elements.{Contains-append_left}
use Rattle.log_model.specs.declared.name.Name.{Name}
use Rattle.log_model.specs.Entry.{Entry}
use Rattle.log_model.specs.Files.{content}
use Rattle.disk_images.specs.Crash.{DiskView, Throughout, OnlyAt}
use Rattle.disk_images.specs.OneFile.{Touches, IsDurableFile}
use Rattle.disk_images.proofs.Moments.{at_once, more_time}
use Rattle.disk_images.proofs.Torn.{then_only, only_weaker, only_unchanged}
use Rattle.recovery_laws.specs.Change.{HasText, HasEntries}
use Rattle.log_file.specs.Open.{OpenLog, IsOpen, IsStaged, HasEither}
use Rattle.log_file.specs.LogText.{at_rest}
use Rattle.log_file.specs.Calls.{IsSameFile}
use Rattle.log_file.proofs.Committed.{rest_has, open_still}
use Rattle.wal_split.specs.Some.{HasSome}
use Rattle.wal_split.specs.Copied.{AreIn}

some_of : (name : Name) (part all : List Entry) (ended : Option ℕ) (image : Option (List ℕ)) → ((e : Entry) → Contains part e → Contains all e) → HasText name part ended image → HasSome name all image
some_of name part all ended image among has = record { part = part; among = among; has = inl (ended, has) }

-- during a commit of what is staged
pub commit_some : (log : OpenLog) (v w : DiskView) (entries : List Entry) (by : ℕ) (in_it : AreIn log v entries) → Throughout (OnlyAt log.name (HasEither log.name in_it.done (in_it.done ++ in_it.batch)) v) by v w → Throughout (OnlyAt log.name (HasSome log.name entries) v) by v w
commit_some log v w entries by in_it over =
    only_weaker log.name (HasEither log.name in_it.done (in_it.done ++ in_it.batch)) (HasSome log.name entries) by v w
    (λ image either. elim either as (λ _. HasSome log.name entries image) [
      | inl before ↦ some_of log.name in_it.done entries None image (λ e has. subst (λ (l : List Entry). Contains l e) in_it.all (Contains-append_left in_it.done in_it.batch e has)) before
      | inr after ↦ some_of log.name (in_it.done ++ in_it.batch) entries None image (λ e has. subst (λ (l : List Entry). Contains l e) in_it.all has) after
    ]) over

-- where no call is made
pub still_some : (log : OpenLog) (v : DiskView) (entries : List Entry) (by : ℕ) → AreIn log v entries → Throughout (OnlyAt log.name (HasSome log.name entries) v) by v v
still_some log v entries by in_it =
    more_time (OnlyAt log.name (HasSome log.name entries) v) 0 by v v (omega arith)
    (at_once (OnlyAt log.name (HasSome log.name entries) v) v (λ J now. only_unchanged log.name (HasSome log.name entries) v J (λ I is_now. some_of log.name in_it.done entries None (content I log.name) (λ e has. subst (λ (l : List Entry). Contains l e) in_it.all (Contains-append_left in_it.done in_it.batch e has))
    (rest_has log.name in_it.done (content I log.name) in_it.open_log.each (in_it.open_log.file.durable I is_now))) now))

pub touches_none : (name : Name) (v : DiskView) → Touches name v v
touches_none name v = record { others = λ m other. refl; gone = λ m h. h; formerly = λ n m h. h }

pub touches_on : (name : Name) (u v w : DiskView) → Touches name u v → Touches name v w → Touches name u w
touches_on name u v w first second = record {
  others = λ m other. second.others m other ∙ first.others m other;
  gone = λ m h. first.gone m (second.gone m h);
  formerly = λ n m h. first.formerly n m (second.formerly n m h);
}

-- one more is staged after a commit
pub behind_in : (log now : OpenLog) (v w : DiskView) (entries : List Entry) (e : Entry) (in_it : AreIn log v entries) (between : OpenLog) → IsOpen between w (in_it.done ++ in_it.batch) → IsSameFile between now → IsStaged now (e ∷ []) → AreIn now w (entries ++ e ∷ [])
behind_in log now v w entries e in_it between open_log same staged = record {
  done = in_it.done ++ in_it.batch;
  batch = e ∷ [];
  open_log = open_still between now w (in_it.done ++ in_it.batch) same open_log;
  staged = staged;
  all = ap (λ (l : List Entry). l ++ e ∷ []) in_it.all;
}

-- so many of the entries are in the file
pub record Going (told : Type 0) (begun log : OpenLog) (first now : DiskView) (entries : List Entry) (count : ℕ) : Type 0 where
  pub name : log.name ≡ begun.name
  pub in_it : told → AreIn log now (take count entries)
  pub moments : told → Throughout (OnlyAt begun.name (HasSome begun.name entries) first) (4 * count) first now
  pub touches : told → Touches begun.name first now

take_none : (entries : List Entry) → take 0 entries ≡ []
take_none [] = refl
take_none (e ∷ es) = refl

among_taken : (count : ℕ) (entries : List Entry) (e : Entry) → Contains (take count entries) e → Contains entries e
among_taken count entries e has = subst (λ (l : List Entry). Contains l e) (take-append-drop count entries) (Contains-append_left (take count entries) (drop count entries) e has)

all_some : (name : Name) (count : ℕ) (entries : List Entry) (image : Option (List ℕ)) → HasSome name (take count entries) image → HasSome name entries image
all_some name count entries image some = record { part = some.part; among = λ e has. among_taken count entries e (some.among e has); has = some.has }

pub none_in_yet : (told : Type 0) (log : OpenLog) (v : DiskView) (entries : List Entry) → IsStaged log [] → (told → IsOpen log v []) → Going told log log v v entries 0
none_in_yet told log v entries empty open_log = record {
  name = refl;
  in_it = λ is_told. nothing is_told;
  moments = λ is_told. only_weaker log.name (HasSome log.name (take 0 entries)) (HasSome log.name entries) 0 v v (all_some log.name 0 entries) (still_some log v (take 0 entries) 0 (nothing is_told));
  touches = λ is_told. touches_none log.name v;
}
  where
    nothing : told → AreIn log v (take 0 entries)
    nothing is_told = record { done = []; batch = []; open_log = open_log is_told; staged = empty; all = sym (take_none entries) }

module _ (told : Type 0) (begun log now : OpenLog) (first v w : DiskView) (entries : List Entry) (count : ℕ) (so_far : Going told begun log first v entries count)
    (over : told → Throughout (OnlyAt log.name (HasSome log.name (take count entries)) v) 4 v w) where
  pub some_on : told → Throughout (OnlyAt begun.name (HasSome begun.name entries) first) (4 * count + 4) first w
  some_on is_told =
      then_only begun.name (HasSome begun.name entries) (4 * count) 4 first v w (so_far.moments is_told)
      (subst (λ (n : Name). Throughout (OnlyAt n (HasSome n entries) v) 4 v w) so_far.name (only_weaker log.name (HasSome log.name (take count entries)) (HasSome log.name entries) 4 v w (all_some log.name count entries) (over is_told)))

  pub one_in : (x e : Entry) → count < length entries → get_or entries count x ≡ e → now.name ≡ log.name → (told → AreIn now w (take count entries ++ e ∷ [])) → (told → Touches log.name v w) → Going told begun now first w entries (count + 1)
  one_in x e there is name in_it touches = record {
    name = name ∙ so_far.name;
    in_it = λ is_told. subst (λ (l : List Entry). AreIn now w l) (sym (take_more entries count x there ∙ ap (λ (y : Entry). take count entries ++ y ∷ []) is)) (in_it is_told);
    moments = λ is_told. subst (λ (k : ℕ). Throughout (OnlyAt begun.name (HasSome begun.name entries) first) k first w) (omega arith) (some_on is_told);
    touches = λ is_told. touches_on begun.name first v w (so_far.touches is_told) (subst (λ (n : Name). Touches n v w) so_far.name (touches is_told));
  }

-- a file that is begun has none of them
pub begun_some : (name : Name) (entries : List Entry) (by : ℕ) (v w : DiskView) → Throughout (OnlyAt name (HasEntries name []) v) by v w → Throughout (OnlyAt name (HasSome name entries) v) by v w
begun_some name entries by v w over = only_weaker name (HasEntries name []) (HasSome name entries) by v w (λ image has. record { part = []; among = λ e none. absurd (omega (arith, none.1)); has = has }) over

-- an open file that has all of them
pub open_text : (log : OpenLog) (v : DiskView) (name : Name) (es all : List Entry) → IsOpen log v es → log.name ≡ name → es ≡ all → HasText name all None (content v.files name)
open_text log v name es all h is same =
    subst (λ (l : List Entry). HasText name l None (content v.files name)) same
    (subst (λ (n : Name). HasText n es None (content v.files n)) is (rest_has log.name es (content v.files log.name) h.each h.file.reads))

pub open_durable : (log : OpenLog) (v : DiskView) (name : Name) (es : List Entry) → IsOpen log v es → log.name ≡ name → IsDurableFile v name (at_rest name.number es)
open_durable log v name es h is = subst (λ (n : Name). IsDurableFile v n (at_rest n.number es)) is h.file
