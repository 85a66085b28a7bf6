-- How an opening copies a file.
use Rattle.std.proofs.Common.{◌≡◌, ◌≢◌, ◌⊎◌, inl, inr, ℕ, ◌+◌, ◌-◌, ◌<◌, List, [], ◌++◌, length, take, drop, min, Result, refl, sym, ap, subst, ◌∙◌, arith, length-append, length-drop, take-append-drop}
use Rattle.std.proofs.lemmas.List.{take_all, take_at, take-take, drop-take, length-take}
use Rattle.disk_images.specs.Crash.{overwritten}
use Rattle.disk_images.proofs.Pieces.{overwritten_end}
use Rattle.folder_system.specs.System.{Folder, Bytes, SystemView, IsImage, IsTrueSystem}
use Rattle.folder_system.specs.Calls as sys
use Rattle.folder_system.specs.Mending.{Beside, Copies, Grows}
use Rattle.folder_system.proofs.Watched.{calm_look, watched_calm}

pub look_image : (u v : SystemView) → IsTrueSystem u → sys.Observes u v → (D : Folder) (B : Bytes) → IsImage v D B → IsImage u D B
look_image u v fair o D B image = (watched_calm u v (calm_look u v fair o)).shrinks D B image

-- an image after a call is one before it, or one that the call left
pub image_cases : (u v : SystemView) → sys.IsWithin u v → (D : Folder) (B : Bytes) → IsImage v D B → IsImage u D B ⊎ v.now D B
image_cases u v within D B image = elim (within.past u.clock D B (omega arith) (subst (λ (c : ℕ). v.image c D B) within.clock image)) as (λ _. IsImage u D B ⊎ v.now D B) [
  | inl before ↦ inl before
  | inr after ↦ inr after.1
]

-- one inode's bytes change
beside_then : (i : ℕ) (u v w : SystemView) → Beside i u v → Beside i v w → Beside i u w
beside_then i u v w a b = record {
  clock = b.clock ∙ a.clock;
  folder = b.folder ∙ a.folder;
  parts = b.parts ∙ a.parts;
  others = λ j other certain. b.others j other (λ doubt. certain (a.sure j doubt)) ∙ a.others j other certain;
  sure = λ j doubt. a.sure j (b.sure j doubt);
  images = λ D B image.
      let x = b.images D B image in
      let y = a.images D x.0 x.1 in
      (y.0, y.1, λ j other. x.2 j other ∙ y.2 j other);
}

beside_look : (i : ℕ) (u v : SystemView) → IsTrueSystem u → sys.Looks u v → Beside i u v
beside_look i u v fair look = record {
  clock = look.observes.within.clock;
  folder = look.observes.folder;
  parts = look.parts;
  others = λ j other certain. look.observes.bytes j certain;
  sure = look.sure;
  images = λ D B image. (B, look_image u v fair look.observes D B image, λ j other. refl);
}

beside_write : {T E : Type 0} (i at : ℕ) (bs : List ℕ) (result : Result T E) (u v : SystemView) → IsTrueSystem u → sys.Writes i at bs result u v → sys.NoneNewlyDoubtful u v → Beside i u v
beside_write i at bs result u v fair write sure = record {
  clock = write.within.clock;
  folder = write.folder;
  parts = write.parts;
  others = write.others;
  sure = sure;
  images = λ D B image. elim (image_cases u v write.within D B image) as (λ _. (C : Bytes) × IsImage u D C × ((j : ℕ) → j ≢ i → B j ≡ C j)) [
    | inl before ↦ (B, before, λ j other. refl)
    | inr after ↦ let s = write.now D B after in (s.0, fair.within D s.0 s.1, s.2)
  ];
}

-- a piece is copied
take_joined : (at n : ℕ) (b : List ℕ) → take (at + n) b ≡ take at b ++ take n (drop at b)
take_joined at n b = sym (take-append-drop at (take (at + n) b)) ∙ (λ i. take-take at (at + n) b (omega arith) i ++ drop-take at n b i)

pub grows_none : (k i at room : ℕ) (u v : SystemView) → IsTrueSystem u → 0 < room → ¬ u.doubtful i → length (u.bytes i) ≡ at → sys.Looks u v
    → (¬ u.doubtful k → 0 ≡ min room (length (u.bytes k) - at)) → Grows k i at 0 u v
grows_none k i at room u v fair some certain ends look count =
    let same : v.bytes i ≡ u.bytes i = look.observes.bytes i certain in
    let none : at + 0 ≡ at = omega arith in
    record {
      beside = beside_look i u v fair look;
      ends = ap (λ (l : List ℕ). length l) same ∙ ends ∙ sym none;
      more = λ sure so_far. same ∙ so_far ∙ ap (λ (n : ℕ). take n (u.bytes k)) (sym none);
      last = λ zero sure. omega (arith, count sure, some);
    }

pub piece_text : (b old new bs : List ℕ) (at n : ℕ) → n ≡ min (length old) (length b - at) → new ≡ take n (drop at b) ++ drop n old → bs ≡ take n new → bs ≡ take n (drop at b)
piece_text b old new bs at n count read part =
    part ∙ ap (λ (l : List ℕ). take n l) read ∙ take_at (take n (drop at b)) (drop n old) n (omega (arith, length-take n (drop at b), length-drop at b, count))

pub grows_more : {T E : Type 0} (k i at n : ℕ) (bs : List ℕ) (result : Result T E) (u v w : SystemView) → IsTrueSystem u → IsTrueSystem v → 0 < n → ¬ u.doubtful i
    → length (u.bytes i) ≡ at → sys.Looks u v → sys.Writes i at bs result v w → sys.NoneNewlyDoubtful v w → w.bytes i ≡ overwritten (v.bytes i) at bs
    → length bs ≡ n → (¬ u.doubtful k → bs ≡ take n (drop at (u.bytes k))) → Grows k i at n u w
grows_more k i at n bs result u v w fair fair_v some certain ends look write sure written long text =
    let same : v.bytes i ≡ u.bytes i = look.observes.bytes i certain in
    let ended : length (v.bytes i) ≡ at = ap (λ (l : List ℕ). length l) same ∙ ends in
    let joined : w.bytes i ≡ v.bytes i ++ bs = written ∙ overwritten_end (v.bytes i) bs at (sym ended) in
    record {
      beside = beside_then i u v w (beside_look i u v fair look) (beside_write i at bs result v w fair_v write sure);
      ends = ap (λ (l : List ℕ). length l) joined ∙ length-append (v.bytes i) bs ∙ (λ j. ended j + long j);
      more = λ certain_k so_far. joined ∙ (λ j. (same ∙ so_far) j ++ text certain_k j) ∙ sym (take_joined at n (u.bytes k));
      last = λ zero. absurd (omega (arith, zero, some));
    }

-- how far a file is copied
pub record Copying (k i at : ℕ) (first now : SystemView) : Type 0 where
  pub beside : Beside i first now
  pub ends : length (now.bytes i) ≡ at
  pub so_far : ¬ first.doubtful k → now.bytes i ≡ take at (first.bytes k)

pub record Underway (told : Type 0) (k i at : ℕ) (first now : SystemView) : Type 0 where
  pub copying : told → Copying k i at first now

pub none_copied : (told : Type 0) (k i : ℕ) (v : SystemView) → (told → v.bytes i ≡ []) → Underway told k i 0 v v
none_copied told k i v empty = record {
  copying = λ is_told. record {
    beside = record { clock = refl; folder = refl; parts = refl; others = λ j other certain. refl; sure = λ j doubt. doubt; images = λ D B image. (B, image, λ j other. refl) };
    ends = ap (λ (l : List ℕ). length l) (empty is_told);
    so_far = λ certain. empty is_told;
  };
}

module _ (k i at n : ℕ) (first u v : SystemView) (apart : k ≢ i) (c : Copying k i at first u) (g : Grows k i at n u v) where
  still_sure : ¬ first.doubtful k → ¬ u.doubtful k
  still_sure certain doubt = certain (c.beside.sure k doubt)

  same_there : ¬ first.doubtful k → u.bytes k ≡ first.bytes k
  same_there certain = c.beside.others k apart certain

  grown : Copying k i (at + n) first v
  grown = record {
    beside = beside_then i first u v c.beside g.beside;
    ends = g.ends;
    so_far = λ certain. g.more (still_sure certain) (c.so_far certain ∙ ap (λ (l : List ℕ). take at l) (sym (same_there certain))) ∙ ap (λ (l : List ℕ). take (at + n) l) (same_there certain);
  }

  pub copied_all : n ≡ 0 → Copies k i first v
  copied_all zero = record {
    beside = grown.beside;
    copied = λ certain. grown.so_far certain ∙ take_all (at + n) (first.bytes k)
        (omega (arith, ap (λ (l : List ℕ). length l) (same_there certain), g.last zero (still_sure certain)));
  }

pub more_copied : (told : Type 0) (k i at n : ℕ) (first u v : SystemView) → (told → k ≢ i) → Underway told k i at first u → (told → Grows k i at n u v) → Underway told k i (at + n) first v
more_copied told k i at n first u v apart so_far g = record { copying = λ is_told. grown k i at n first u v (apart is_told) (so_far.copying is_told) (g is_told) }
