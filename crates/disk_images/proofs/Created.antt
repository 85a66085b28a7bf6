-- What creating a file may leave.
use Rattle.std.proofs.Common.{◌≡◌, inl, inr, ⊎_elim, true, false, ℕ, ◌+◌, List, [], ◌++◌, length, Option, Some, None, is_some, refl, ◌∙◌, ap, arith}
use Rattle.std.proofs.lemmas.List.{append-nil, drop_all}
use Rattle.log_model.specs.declared.name.Name.{Name}
use Rattle.log_model.specs.Files.{Files, content, IsAbsent}
use Rattle.disk_images.specs.Crash.{DiskView, IsImageNow, IsInNoImage, OnlyAt, TornFile, Throughout, overwritten}
use Rattle.disk_images.specs.Calls.{Creates, CreatedIn, IsTrueDisk}
use Rattle.disk_images.specs.OneFile.{IsUnmoved, TornAt, IsShort}
use Rattle.disk_images.proofs.Moments.{in_one_call, joined, weaker}

module _ (name : Name) (u v w : DiskView) (sound : IsTrueDisk u) (absent : IsAbsent u.files name) (not_gone : ¬ u.gone name) where
  in_none : IsInNoImage u name
  in_none = sound.absent name absent not_gone

  -- absent or empty
  created_image : ((J : Files) → IsImageNow v J → (I : Files) × IsImageNow u I × CreatedIn name I J) → (J : Files) → IsImageNow v J → OnlyAt name (IsShort 0) u J
  created_image follows J now =
      let from = follows J now in
      record {
        base = from.0;
        was = from.1;
        elsewhere = from.2.elsewhere;
        here = elim from.2.here as (λ _. IsShort 0 (content J name)) [
          | inl same ↦ inl (same ∙ in_none from.0 from.1)
          | inr empty ↦ inr ([], empty, omega arith)
        ];
      }

  pub unmoved : {T E : Type 0} {result : Rattle.std.specs.Prelude.Result T E} → Creates name result u v → IsUnmoved v name
  unmoved creates m former =
      let there : is_some (content u.files name) ≡ true = sound.former_there name m (creates.formerly name m former) in
      let none : is_some (content u.files name) ≡ false = ap is_some absent in
      absurd (cc (there, none))

  short_more : (n : ℕ) (image : Option (List ℕ)) → IsShort 0 image → IsShort n image
  short_more n image short = ⊎_elim (λ none. inl none) (λ some. inr (some.0, some.1, omega (arith, some.2))) short

  pub creating : {T E : Type 0} {result : Rattle.std.specs.Prelude.Result T E} (n : ℕ) → Creates name result u v → Throughout (OnlyAt name (IsShort n) u) 1 u v
  creating n creates =
      in_one_call (OnlyAt name (IsShort n) u) u v
      (λ J now. record { base = J; was = now; elsewhere = λ m other. refl; here = inl (in_none J now) })
      creates.time
      (λ J now. let only = created_image creates.crash J now in record { base = only.base; was = only.was; elsewhere = only.elsewhere; here = short_more n (content J name) only.here })

  torn_short : (n : ℕ) (old new : Option (List ℕ)) → IsShort 0 old → TornFile 0 n old new → IsShort n new
  torn_short n None new short torn = inl torn
  torn_short n (Some c) new (inl none) torn = absurd (cc none)
  torn_short n (Some c) new (inr some) torn =
      let same : c ≡ some.0 = cc (some.1) in
      inr (torn.0, torn.1, omega (arith, torn.2.no_longer, some.2, ap length same))

  pub filling : {T E : Type 0} {result : Rattle.std.specs.Prelude.Result T E} (n : ℕ) → Creates name result u v → Throughout (TornAt name 0 n v) 2 v w → Throughout (OnlyAt name (IsShort n) u) 3 u w
  filling n creates over =
      joined (OnlyAt name (IsShort n) u) 1 2 u v w (creating n creates)
      (weaker _ (OnlyAt name (IsShort n) u) 2 v w (λ J torn.
      let only = created_image creates.crash torn.base torn.was in
      record { base = only.base; was = only.was; elsewhere = λ m other. torn.elsewhere m other ∙ only.elsewhere m other; here = torn_short n (content torn.base name) (content J name) only.here torn.here }) over)

pub whole : (bytes : List ℕ) → overwritten [] 0 bytes ≡ bytes
whole bytes = ap (λ (l : List ℕ). bytes ++ l) (drop_all (0 + length bytes) [] (omega arith)) ∙ append-nil bytes
