-- What a renamed log and a removed edits file leave held.
use Rattle.std.proofs.Common.{◌≡◌, ◌≢◌, ◌⊎◌, inl, inr, ℕ, List, Contains, Option, sym, ap, ◌∙◌, subst}
use Rattle.std.specs.Prelude.{Result}
use Rattle.log_model.specs.declared.name.Name.{Name}
use Rattle.log_model.specs.declared.name.NameKind.TheVariants as kinds
use Rattle.log_model.specs.Entry.{Entry}
use Rattle.log_model.specs.Files.{Files, content, IsAbsent, HoldsEntries, IsLogFile, Same, IsFit}
use Rattle.disk_images.specs.Crash.{DiskView, IsImageNow, Throughout}
use Rattle.disk_images.specs.Calls.{Renames, Removes, MovedIn, RemovedIn, Renamed}
use Rattle.disk_images.proofs.Moments.{in_one_call}
use Rattle.recovery_laws.specs.Change.{HasText}
use Rattle.recovery_laws.proofs.Names.{entries_no_old, store_no_old}
use Rattle.recovery_laws.specs.Laws.{IsFlushedEntry}
use Rattle.recovery_laws.specs.Alike.{AllAlike}
use Rattle.recovery_laws.specs.OpeningSteps.{AreKept}
use Rattle.recovery_laws.proofs.Turns.{in_turn, but_old}
use Rattle.recovery_laws.proofs.OpeningProved.{kept_may_go}
use Rattle.wal_split.specs.Held.{IsHeld}
use Rattle.wal_split.proofs.Above.{entry_kept}

same_alike : (I J : Files) → Same I J → IsFit I → AllAlike I J
same_alike I J same fit = but_old I J (λ m other. same m) fit

-- what is kept in edits files that are there and in stores is kept in each image
kept_in : (base : Files) (v : DiskView) (held : IsHeld base v) (I : Files) → IsImageNow v I → (es : List Entry) → AreKept v.files es → AreKept I es
kept_in base v held I now es kept e member = elim (kept e member) as (λ _. ((m : Name) × (ds : List Entry) × (m.kind ≡ kinds.Edits) × IsLogFile I m ds × Contains ds e) ⊎ IsFlushedEntry I e) [
  | inl (m, ds, kind, file, among) ↦ inl (m, ds, kind, record { kind = file.kind; bytes = file.bytes; there = held.there I m now file.kind (λ none. absurd (cc (sym none ∙ file.there))) ∙ file.there; ended = file.ended; text = file.text }, among)
  | inr flushed ↦ inr (entry_kept v.files I (held.stores I now) e flushed)
]

-- and stays where a file goes that isn't one of those edits files
kept_on : (I J : Files) (name : Name) → HoldsEntries name.kind → ((m : Name) → m ≢ name → m.kind ≢ kinds.Old → content J m ≡ content I m) → (es : List Entry)
    → ((e : Entry) → Contains es e → ((m : Name) × (ds : List Entry) × (m.kind ≡ kinds.Edits) × (m ≢ name) × IsLogFile I m ds × Contains ds e) ⊎ IsFlushedEntry I e) → AreKept J es
kept_on I J name holds others es kept e member = elim (kept e member) as (λ _. ((m : Name) × (ds : List Entry) × (m.kind ≡ kinds.Edits) × IsLogFile J m ds × Contains ds e) ⊎ IsFlushedEntry J e) [
  | inl (m, ds, kind, other, file, among) ↦ inl (m, ds, kind, record { kind = file.kind; bytes = file.bytes; there = others m other (entries_no_old m.kind file.kind) ∙ file.there; ended = file.ended; text = file.text }, among)
  | inr flushed ↦ inr (entry_kept I J (λ m store. others m (λ at. no_store m store at) (store_no_old m.kind store)) e flushed)
]
  where
    no_store : (m : Name) → m.kind ≡ kinds.Store → m ≡ name → ⊥
    no_store m store at = Rattle.recovery_laws.proofs.Names.store_apart m name store holds at

module _ (base : Files) (v w : DiskView) (held : IsHeld base v) where
  -- an image in which a file is gone whose entries are kept
  gone_image : (I J : Files) (name : Name) (es : List Entry) (ended : Option ℕ) → IsImageNow v I → HoldsEntries name.kind → HasText name es ended (content v.files name)
      → ((m : Name) → m ≢ name → m.kind ≢ kinds.Old → content J m ≡ content I m) → IsAbsent J name → AreKept J es → AllAlike I J
  gone_image I J name es ended now holds has others gone kept =
      kept_may_go I J name es
      (record {
        kind = holds;
        others = others;
        had = inl (ended, record { bytes = has.bytes; there = held.there I name now holds (λ none. absurd (cc (sym none ∙ has.there))) ∙ has.there; text = has.text });
        gone = gone;
      })
      (held.alike I now 0).fit kept

  -- a log is renamed whose entries are each flushed, or stand in an edits file
  module _ {T E : Type 0} {result : Result T E} (from to : Name) (log : from.kind ≡ kinds.Log) (old : to.kind ≡ kinds.Old) (es : List Entry) (ended : Option ℕ) (has : HasText from es ended (content v.files from)) (kept : AreKept v.files es)
      (renames : Renames from to result v w) where
    not_former : ¬ v.formerly from from → (m : Name) → ¬ v.formerly from m
    not_former never m former = held.unmoved from m (entries_no_old from.kind (inl log)) former

    moved_from : (I J : Files) (moved : MovedIn from to (v.formerly from) I J) → moved.name ≡ from
    moved_from I J moved = elim moved.borne as (λ _. moved.name ≡ from) [ inl is ↦ is | inr former ↦ absurd (held.unmoved from moved.name (entries_no_old from.kind (inl log)) former) ]

    others_in : (I J : Files) (moved : MovedIn from to (v.formerly from) I J) (m : Name) → m ≢ from → m.kind ≢ kinds.Old → content J m ≡ content I m
    others_in I J moved m other kind = moved.elsewhere m (λ is. other (is ∙ moved_from I J moved)) (λ is. kind (ap (λ (x : Name). x.kind) is ∙ old))

    moved_image : (I J : Files) → IsImageNow v I → MovedIn from to (v.formerly from) I J → AllAlike I J
    moved_image I J now moved =
        gone_image I J from es ended now (inl log) has (others_in I J moved) (subst (λ (x : Name). IsAbsent J x) (moved_from I J moved) moved.left)
        (kept_on I J from (inl log) (others_in I J moved) es (λ e member. elim (kept_in base v held I now es kept e member) as (λ _. ((m : Name) × (ds : List Entry) × (m.kind ≡ kinds.Edits) × (m ≢ from) × IsLogFile I m ds × Contains ds e) ⊎ IsFlushedEntry I e) [
          | inl (m, ds, kind, file, among) ↦ inl (m, ds, kind, (λ is. no_log (sym kind ∙ ap (λ (x : Name). x.kind) is ∙ log)), file, among)
          | inr flushed ↦ inr flushed
        ]))
      where
        no_log : kinds.Edits ≡ kinds.Log → ⊥
        no_log is = absurd cc

    renamed_image : (J : Files) → IsImageNow w J → AllAlike base J
    renamed_image J now =
        let f = renames.crash J now in
        in_turn base f.0 J (held.alike f.0 f.1) (elim f.2 as (λ _. AllAlike f.0 J) [ inl same ↦ same_alike f.0 J same (held.alike f.0 f.1 0).fit | inr moved ↦ moved_image f.0 J f.1 moved ])

    pub rename_moments : Throughout (AllAlike base) 1 v w
    rename_moments = in_one_call (AllAlike base) v w held.alike renames.time renamed_image

    pub renamed_held : Renamed from to v.files w.files → IsHeld base w
    renamed_held done = record {
      stores = λ J now m store. step J now m (store_no_old m.kind store) (λ is. Rattle.recovery_laws.proofs.Names.store_apart m from store (inl log) is) (λ I was. held.stores I was m store);
      there = λ J m now holds present.
          let other : m ≢ from = λ is. present (ap (content w.files) is ∙ done.left) in
          step J now m (entries_no_old m.kind holds) other (λ I was. held.there I m was holds (λ none. present (renames.others m other (λ is. entries_no_old m.kind holds (ap (λ (x : Name). x.kind) is ∙ old)) ∙ none)));
      alike = renamed_image;
      unmoved = λ n m other former. elim (renames.formerly n m former) as (λ _. ⊥) [ inl was ↦ held.unmoved n m other was | inr new ↦ other (ap (λ (x : Name). x.kind) new.0 ∙ old) ];
      gone = λ m gone. elim (renames.gone m gone) as (λ _. HoldsEntries m.kind) [ inl was ↦ held.gone m was | inr is ↦ inl (ap (λ (x : Name). x.kind) is ∙ log) ];
    }
      where
        step : (J : Files) → IsImageNow w J → (m : Name) → m.kind ≢ kinds.Old → m ≢ from → ((I : Files) → IsImageNow v I → content I m ≡ content v.files m) → content J m ≡ content w.files m
        step J now m kind other was =
            let f = renames.crash J now in
            let here : content J m ≡ content f.0 m = elim f.2 as (λ _. content J m ≡ content f.0 m) [ inl same ↦ same m | inr moved ↦ others_in f.0 J moved m other kind ] in
            here ∙ was f.0 f.1 ∙ sym (renames.others m other (λ is. kind (ap (λ (x : Name). x.kind) is ∙ old)))

  -- an edits file is removed whose entries are each flushed
  module _ {T E : Type 0} {result : Result T E} (name : Name) (edits : name.kind ≡ kinds.Edits) (es : List Entry) (ended : Option ℕ) (has : HasText name es ended (content v.files name))
      (flushed : (e : Entry) → Contains es e → IsFlushedEntry v.files e) (removes : Removes name result v w) where
    others_left : (I J : Files) → RemovedIn name (v.formerly name) I J → (m : Name) → m ≢ name → content J m ≡ content I m
    others_left I J removed m other = removed.elsewhere m other (λ former. held.unmoved name m (entries_no_old name.kind (inr edits)) former)

    left_image : (I J : Files) → IsImageNow v I → RemovedIn name (v.formerly name) I J → AllAlike I J
    left_image I J now removed =
        gone_image I J name es ended now (inr edits) has (λ m other kind. others_left I J removed m other) removed.here
        (kept_on I J name (inr edits) (λ m other kind. others_left I J removed m other) es (λ e member. inr (entry_kept v.files I (held.stores I now) e (flushed e member))))

    removed_image : (J : Files) → IsImageNow w J → AllAlike base J
    removed_image J now =
        let f = removes.crash J now in
        in_turn base f.0 J (held.alike f.0 f.1) (elim f.2 as (λ _. AllAlike f.0 J) [ inl same ↦ same_alike f.0 J same (held.alike f.0 f.1 0).fit | inr removed ↦ left_image f.0 J f.1 removed ])

    pub remove_moments : Throughout (AllAlike base) 1 v w
    remove_moments = in_one_call (AllAlike base) v w held.alike removes.time removed_image

    pub removed_held : IsAbsent w.files name → IsHeld base w
    removed_held done = record {
      stores = λ J now m store. step J now m (λ is. Rattle.recovery_laws.proofs.Names.store_apart m name store (inr edits) is) (λ I was. held.stores I was m store);
      there = λ J m now holds present.
          let other : m ≢ name = λ is. present (ap (content w.files) is ∙ done) in
          step J now m other (λ I was. held.there I m was holds (λ none. present (removes.others m other ∙ none)));
      alike = removed_image;
      unmoved = λ n m other former. held.unmoved n m other (removes.formerly n m former);
      gone = λ m gone. elim (removes.gone m gone) as (λ _. HoldsEntries m.kind) [ inl was ↦ held.gone m was | inr is ↦ inr (ap (λ (x : Name). x.kind) is ∙ edits) ];
    }
      where
        step : (J : Files) → IsImageNow w J → (m : Name) → m ≢ name → ((I : Files) → IsImageNow v I → content I m ≡ content v.files m) → content J m ≡ content w.files m
        step J now m other was =
            let f = removes.crash J now in
            let here : content J m ≡ content f.0 m = elim f.2 as (λ _. content J m ≡ content f.0 m) [ inl same ↦ same m | inr removed ↦ others_left f.0 J removed m other ] in
            here ∙ was f.0 f.1 ∙ sym (removes.others m other)
