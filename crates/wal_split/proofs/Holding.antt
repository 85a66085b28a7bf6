-- What a step on one file leaves held.
use Rattle.std.proofs.Common.{◌≡◌, ◌≢◌, inl, inr, ℕ, List, [], Contains, Option, refl, sym, ◌∙◌, subst}
use Rattle.log_model.specs.declared.name.Name.{Name}
use Rattle.log_model.specs.declared.name.NameKind.TheVariants as kinds
use Rattle.log_model.specs.Entry.{Entry}
use Rattle.log_model.specs.Files.{Files, content, IsAbsent, IsLogged, SameBut, IsFit}
use Rattle.disk_images.specs.Crash.{DiskView, IsImageNow, Throughout, OnlyAt}
use Rattle.disk_images.specs.OneFile.{Touches, IsDurableFile}
use Rattle.disk_images.specs.Calls.{IsTrueDisk}
use Rattle.disk_images.proofs.Moments.{at_end, weaker}
use Rattle.recovery_laws.proofs.Names.{name_cases, entries_no_old, store_no_old}
use Rattle.recovery_laws.specs.Alike.{AllAlike}
use Rattle.recovery_laws.proofs.Turns.{in_turn, but_old}
use Rattle.recovery_laws.proofs.OpeningProved.{copies_nothing}
use Rattle.disk_images.specs.Settled.{IsSettled}
use Rattle.wal_split.specs.Held.{IsHeld}
use Rattle.wal_split.specs.Some.{HasSome}

-- a settled disk whose files are fit is held
pub settled_held : (v : DiskView) → IsSettled v → IsFit v.files → IsHeld v.files v
settled_held v settled fit = record {
  stores = λ J now m store. settled.stands J m now (store_no_old m.kind store);
  there = λ J m now holds present. settled.stands J m now (entries_no_old m.kind holds);
  alike = λ J now. but_old v.files J (λ m other. settled.stands J m now other) fit;
  unmoved = λ n m other. settled.none_former n m;
  gone = λ m gone. absurd (settled.none_gone m gone);
}

module _ (base : Files) (v w : DiskView) (name : Name) (held : IsHeld base v) where
  -- at each moment of a step on one file that changes nothing of what recovers
  pub held_moments : (Q : Option (List ℕ) → Type 0) (by : ℕ) → ((I J : Files) → IsImageNow v I → SameBut name I J → Q (content J name) → AllAlike I J)
      → Throughout (OnlyAt name Q v) by v w → Throughout (AllAlike base) by v w
  held_moments Q by nothing over =
      weaker (OnlyAt name Q v) (AllAlike base) by v w
      (λ J only. in_turn base only.base J (held.alike only.base only.was) (nothing only.base J only.was only.elsewhere only.here)) over

  pub still_held : (Q : Option (List ℕ) → Type 0) (by : ℕ) (bytes : List ℕ) → ((I J : Files) → IsImageNow v I → SameBut name I J → Q (content J name) → AllAlike I J)
      → Throughout (OnlyAt name Q v) by v w → Touches name v w → IsDurableFile w name bytes → IsHeld base w
  still_held Q by bytes nothing over touches durable = record {
    stores = λ J now m store. stands J now m (λ other. held.stores (only J now).base (only J now).was m store);
    there = λ J m now holds present. stands J now m (λ other. held.there (only J now).base m (only J now).was holds (λ none. present (touches.others m other ∙ none)));
    alike = λ J now. at_end (AllAlike base) by v w (held_moments Q by nothing over) J now;
    unmoved = λ n m other former. held.unmoved n m other (touches.formerly n m former);
    gone = λ m gone. held.gone m (touches.gone m gone);
  }
    where
      only : (J : Files) → IsImageNow w J → OnlyAt name Q v J
      only J now = at_end (OnlyAt name Q v) by v w over J now

      stands : (J : Files) (now : IsImageNow w J) (m : Name) → (m ≢ name → content (only J now).base m ≡ content v.files m) → content J m ≡ content w.files m
      stands J now m was = elim (name_cases m name) as (λ _. content J m ≡ content w.files m) [
        | inl is ↦ subst (λ (x : Name). content J x ≡ content w.files x) (sym is) (durable.durable J now ∙ sym durable.reads)
        | inr other ↦ (only J now).elsewhere m other ∙ was other ∙ sym (touches.others m other)
      ]

-- an entry that stands in a file that is there is logged in each image
pub logged_in : (base : Files) (v : DiskView) (held : IsHeld base v) (I : Files) → IsImageNow v I → (e : Entry) → IsLogged v.files e → IsLogged I e
logged_in base v held I now e h = record {
  name = h.name;
  entries = h.entries;
  file = record { kind = h.file.kind; bytes = h.file.bytes; there = held.there I h.name now h.file.kind (λ none. absurd (cc (sym none ∙ h.file.there))) ∙ h.file.there; ended = h.file.ended; text = h.file.text };
  member = h.member;
}

-- copies of logged entries in a new edits file change nothing
pub copies_in : (base : Files) (v : DiskView) (held : IsHeld base v) (sound : IsTrueDisk v) (name : Name) (entries : List Entry) → name.kind ≡ kinds.Edits → IsAbsent v.files name → ¬ v.gone name
    → ((e : Entry) → Contains entries e → IsLogged v.files e) → (I J : Files) → IsImageNow v I → SameBut name I J → HasSome name entries (content J name) → AllAlike I J
copies_in base v held sound name entries kind absent free logged I J now same some =
    copies_nothing I J name [] some.part
    (record { kind = inr kind; others = same; before = inr (sound.absent name absent free I now, refl); after = some.has })
    (held.alike I now 0).fit
    (λ e member. logged_in base v held I now e (logged e (some.among e member)))
