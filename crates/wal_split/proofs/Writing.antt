-- How many edits files are written.
use Rattle.std.proofs.Common.{◌≡◌, ◌≢◌, ◌⊎◌, inl, inr, ℕ, ◌+◌, ◌≤◌, ◌<◌, List, [], ◌∷◌, length, take, drop, get_or, Contains, Option, None, refl, sym, ap, ◌∙◌, subst, arith}
use Rattle.std.proofs.lemmas.List.{take_more, take_all, take-append-drop}
use Rattle.std.proofs.lemmas.List.Elements.{Contains-append_left, Contains-push, Contains-push_cases, Contains-get_or}
use Rattle.log_model.specs.declared.name.Name.{Name}
use Rattle.log_model.specs.Entry.{Entry}
use Rattle.log_model.specs.Files.{Files, content, IsAbsent, IsLogged}
use Rattle.disk_images.specs.Crash.{DiskView, Throughout}
use Rattle.disk_images.specs.OneFile.{Touches}
use Rattle.disk_images.proofs.Moments.{at_once, joined}
use Rattle.recovery_laws.specs.Change.{HasText}
use Rattle.recovery_laws.specs.Alike.{AllAlike}
use Rattle.wal_split.specs.Held.{IsHeld}
use Rattle.wal_split.specs.declared.job.EditsJob.{EditsJob}
use Rattle.wal_split.specs.Jobs.{AreJobs, AreFreeNames, AllLogged, IsNoJob}

pub record Going (told : Type 0) (first now : DiskView) (jobs : List EditsJob) (count : ℕ) : Type 0 where
  pub others : told → (m : Name) → IsNoJob (take count jobs) m → content now.files m ≡ content first.files m
  pub gone : told → (m : Name) → now.gone m → first.gone m
  pub written : told → (j : EditsJob) (e : Entry) → Contains (take count jobs) j → Contains j.entries.items e → HasText j.name j.entries.items None (content now.files j.name)
  pub held : told → (base : Files) → IsHeld base first → AllLogged first.files jobs → IsHeld base now × ((by : ℕ) × Throughout (AllAlike base) by first now)

none_of : {A : Type 0} (xs : List A) (x : A) → Contains (take 0 xs) x → ⊥
none_of [] x h = omega (arith, h.1)
none_of (y ∷ ys) x h = omega (arith, h.1)

pub list_cases : {A : Type 0} (xs : List A) → (xs ≡ []) ⊎ (xs ≢ [])
list_cases [] = inl refl
list_cases (x ∷ xs) = inr (λ is. omega (arith, ap length is))

pub none_yet : (told : Type 0) (v : DiskView) (jobs : List EditsJob) → Going told v v jobs 0
none_yet told v jobs = record {
  others = λ is_told m other. refl;
  gone = λ is_told m gone. gone;
  written = λ is_told j e has. absurd (none_of jobs j has);
  held = λ is_told base held logged. (held, (0, at_once (AllAlike base) v held.alike));
}

module _ (told : Type 0) (first v w : DiskView) (jobs : List EditsJob) (count : ℕ) (x : EditsJob) (there : count < length jobs) (are : AreJobs jobs) (free : told → AreFreeNames first jobs) (so_far : Going told first v jobs count) where
  abbrev pub this : EditsJob
  this = get_or jobs count x

  pub among : Contains jobs this
  among = Contains-get_or jobs count x there

  this_else : IsNoJob (take count jobs) this.name
  this_else j has some = are.apart count x j there has

  pub absent_now : told → IsAbsent v.files this.name
  absent_now is_told = so_far.others is_told this.name this_else ∙ (free is_told this among).0

  pub not_gone_now : told → ¬ v.gone this.name
  not_gone_now is_told gone = (free is_told this among).1 (so_far.gone is_told this.name gone)

  taken_in : (j : EditsJob) → Contains (take count jobs) j → Contains jobs j
  taken_in j has = subst (λ (l : List EditsJob). Contains l j) (take-append-drop count jobs) (Contains-append_left (take count jobs) (drop count jobs) j has)

  -- an entry that was logged is
  logged_now : told → (e : Entry) → IsLogged first.files e → IsLogged v.files e
  logged_now is_told e h = record {
    name = h.name;
    entries = h.entries;
    file = record { kind = h.file.kind; bytes = h.file.bytes; there = so_far.others is_told h.name (λ j has some is. absurd (cc (sym (free is_told j (taken_in j has)).0 ∙ ap (λ (m : Name). content first.files m) (sym is) ∙ h.file.there))) ∙ h.file.there; ended = h.file.ended; text = h.file.text };
    member = h.member;
  }

  pub these_logged : told → AllLogged first.files jobs → (e : Entry) → Contains this.entries.items e → IsLogged v.files e
  these_logged is_told logged e has = logged_now is_told e (logged this e among has)

  module _ (by : ℕ) (over : told → (base : Files) → IsHeld base v → ((e : Entry) → Contains this.entries.items e → IsLogged v.files e) → Throughout (AllAlike base) by v w) where
    pub moments_on : told → (base : Files) → IsHeld base first → AllLogged first.files jobs → (n : ℕ) × Throughout (AllAlike base) n first w
    moments_on is_told base held logged =
        let h = so_far.held is_told base held logged in
        (h.1.0 + by, joined (AllAlike base) h.1.0 by first v w h.1.1 (over is_told base h.0 (these_logged is_told logged)))

    pub one_written : (told → (base : Files) → IsHeld base v → ((e : Entry) → Contains this.entries.items e → IsLogged v.files e) → IsHeld base w) → (told → (e : Entry) → Contains this.entries.items e → HasText this.name this.entries.items None (content w.files this.name)) → (told → Touches this.name v w)
        → (told → this.entries.items ≡ [] → w.files ≡ v.files) → Going told first w jobs (count + 1)
    one_written held text touches none = record {
      others = λ is_told m other.
          this_same is_told m (other this (subst (λ (l : List EditsJob). Contains l this) (sym (take_more jobs count x there)) (Contains-push (take count jobs) this)))
          ∙ so_far.others is_told m (λ j has. other j (subst (λ (l : List EditsJob). Contains l j) (sym (take_more jobs count x there)) (Contains-append_left (take count jobs) (this ∷ []) j has)));
      gone = λ is_told m gone. so_far.gone is_told m ((touches is_told).gone m gone);
      written = λ is_told j e has member. elim (Contains-push_cases (take count jobs) this j (subst (λ (l : List EditsJob). Contains l j) (take_more jobs count x there) has)) as (λ _. HasText j.name j.entries.items None (content w.files j.name)) [
        | inl before ↦ subst (λ (o : Option (List ℕ)). HasText j.name j.entries.items None o) (sym ((touches is_told).others j.name (λ is. are.apart count x j there before (sym is)))) (so_far.written is_told j e before member)
        | inr is ↦ subst (λ (k : EditsJob). (d : Entry) → Contains k.entries.items d → HasText k.name k.entries.items None (content w.files k.name)) is (text is_told) e member
      ];
      held = λ is_told base start logged. (held is_told base (so_far.held is_told base start logged).0 (these_logged is_told logged), moments_on is_told base start logged);
    }
      where
        this_same : told → (m : Name) → (this.entries.items ≢ [] → m ≢ this.name) → content w.files m ≡ content v.files m
        this_same is_told m other = elim (list_cases this.entries.items) as (λ _. content w.files m ≡ content v.files m) [
          | inl empty ↦ ap (λ (f : Files). content f m) (none is_told empty)
          | inr some ↦ (touches is_told).others m (other some)
        ]

pub all_written : (jobs : List EditsJob) (count : ℕ) (j : EditsJob) → length jobs ≤ count → Contains jobs j → Contains (take count jobs) j
all_written jobs count j le has = subst (λ (l : List EditsJob). Contains l j) (sym (take_all count jobs le)) has

pub all_else : (jobs : List EditsJob) (count : ℕ) (m : Name) → length jobs ≤ count → IsNoJob jobs m → IsNoJob (take count jobs) m
all_else jobs count m le other j has = other j (subst (λ (l : List EditsJob). Contains l j) (take_all count jobs le) has)
