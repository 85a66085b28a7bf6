-- What a store file that is written, and then shown, leaves held.
use Rattle.std.proofs.Common.{◌≡◌, ◌⊎◌, inl, inr, Some, None, refl, sym, ◌∙◌}
use Rattle.cell_model.specs.declared.form.Form.TheVariants.{Tagged}
use Rattle.log_model.specs.declared.name.Name.{Name}
use Rattle.log_model.specs.declared.name.NameKind.TheVariants as kinds
use Rattle.log_model.specs.StoreText.{Store, IsThere, IsStoreText, store_text}
use Rattle.log_model.specs.Files.{Files, content, IsAbsent, SameBut}
use Rattle.disk_images.specs.Crash.{DiskView, IsImageNow}
use Rattle.disk_images.specs.Calls.{IsTrueDisk}
use Rattle.recovery_laws.specs.Kept.{IsNotThere, IsNotReplaced}
use Rattle.recovery_laws.specs.Alike.{AllAlike}
use Rattle.recovery_laws.specs.OpeningSteps.{IsWholeCut}
use Rattle.recovery_laws.proofs.OpeningProved.{hidden, replayed}
use Rattle.wal_split.specs.Held.{IsHeld}

-- files that recover to what one base does recover alike
pub alike_between : (base I J : Files) → AllAlike base I → AllAlike base J → AllAlike I J
alike_between base I J first second r = record {
  fit = (second r).fit;
  content = λ v p. (λ h. ((second r).content v p).0 (((first r).content v p).1 h), λ h. ((first r).content v p).0 (((second r).content v p).1 h));
  last = λ n. (λ h. ((second r).last n).0 (((first r).last n).1 h), λ h. ((first r).last n).0 (((second r).last n).1 h));
}

-- an image while a store is written with all that is unflushed of its region
pub cut_in : (base : Files) (v : DiskView) (held : IsHeld base v) (sound : IsTrueDisk v) (name : Name) (s : Store) → name.kind ≡ kinds.Store → IsAbsent v.files name → ¬ v.gone name
    → IsWholeCut v.files name.region s → IsNotReplaced v.files name → IsThere (store_text Tagged s) → IsStoreText name.region (store_text Tagged s) s
    → (I J : Files) → IsImageNow v I → SameBut name I J → IsNotThere (content J name) ⊎ (content J name ≡ Some (store_text Tagged s)) → AllAlike I J
cut_in base v held sound name s kind absent free cut stands gate text I J now same here =
    let none : content I name ≡ None = sound.absent name absent free I now in
    let not_before : IsNotThere (content I name) = λ bytes is open_gate. absurd (cc (sym none ∙ is)) in
    elim here as (λ _. AllAlike I J) [
      | inl not ↦ hidden I J name (record { kind = kind; others = same; before = not_before; after = not }) (held.alike I now 0).fit
      | inr shown ↦
          let at_reads : AllAlike base v.files = held.alike v.files sound.reads in
          let from_reads : AllAlike v.files I = alike_between base v.files I at_reads (held.alike I now) in
          let after : AllAlike v.files J = replayed v.files I J name s from_reads (held.stores I now) cut
          (λ m es edits file. record { kind = file.kind; bytes = file.bytes; there = held.there I m now file.kind (λ gone. absurd (cc (sym gone ∙ file.there))) ∙ file.there; ended = file.ended; text = file.text })
          kind same not_before stands (record { kind = kind; of = refl; bytes = store_text Tagged s; there = shown; gate = gate; text = text }) in
          alike_between v.files I J from_reads after
    ]
