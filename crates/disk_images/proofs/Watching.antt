-- Calls that change no file, one after the other.
use Rattle.std.proofs.Common.{◌≡◌, ◌≢◌, inl, inr, ℕ, ◌+◌, ◌<◌, ◌≤◌, List, length, take, get_or, Contains, refl, sym, ap, ◌∙◌, subst, arith}
use Rattle.std.proofs.lemmas.List.{take_more}
use Rattle.std.proofs.lemmas.List.Elements.{Contains-push_cases}
use Rattle.log_model.specs.declared.name.Name.{Name}
use Rattle.log_model.specs.declared.name.NameKind.TheVariants as kinds
use Rattle.log_model.specs.Files.{Files, content}
use Rattle.disk_images.specs.Crash.{DiskView, IsImageNow}
use Rattle.disk_images.specs.Calls.{Looks}
use Rattle.disk_images.proofs.Moments.{at_once, goes_on, more_time, at_end, joined, weaker}
use Rattle.disk_images.specs.Settled.{Watches, AreStanding}

pub watches_none : (v : DiskView) → Watches 0 v v
watches_none v = record { files = refl; gone = λ m h. h; formerly = λ n m h. h; moments = at_once (IsImageNow v) v (λ J now. now) }

pub watches_on : (m : ℕ) (u v w : DiskView) → Watches m u v → Looks v w → Watches (m + 1) u w
watches_on m u v w so_far looks = record {
  files = looks.files ∙ so_far.files;
  gone = λ n h. so_far.gone n (looks.gone n h);
  formerly = λ n k h. so_far.formerly n k (looks.formerly n k h);
  moments = goes_on (IsImageNow u) m u v w so_far.moments looks.time (λ J now. at_end (IsImageNow u) m u v so_far.moments J (looks.crash J now));
}

pub watches_more : (m n : ℕ) (v w : DiskView) → m ≤ n → Watches m v w → Watches n v w
watches_more m n v w le looks = record { files = looks.files; gone = looks.gone; formerly = looks.formerly; moments = more_time (IsImageNow v) m n v w le looks.moments }

pub watches_joined : (m n : ℕ) (u v w : DiskView) → Watches m u v → Watches n v w → Watches (m + n) u w
watches_joined m n u v w first second = record {
  files = second.files ∙ first.files;
  gone = λ k h. first.gone k (second.gone k h);
  formerly = λ k l h. first.formerly k l (second.formerly k l h);
  moments = joined (IsImageNow u) m n u v w first.moments (weaker (IsImageNow v) (IsImageNow u) n v w (λ J was. at_end (IsImageNow u) m u v first.moments J was) second.moments);
}

-- how far names are synced
pub record Going (told : Type 0) (first now : DiskView) (names : List Name) (count : ℕ) : Type 0 where
  pub watches : told → Watches count first now
  pub standing : told → AreStanding now (take count names)

pub none_synced : (told : Type 0) (v : DiskView) (names : List Name) → Going told v v names 0
none_synced told v names = record { watches = λ is_told. watches_none v; standing = λ is_told m has. absurd (omega (arith, has.1)) }

pub watches_once : (v w : DiskView) → Looks v w → Watches 1 v w
watches_once v w looks = watches_more (0 + 1) 1 v w (omega arith) (watches_on 0 v v w (watches_none v) looks)

-- every image of after was one of before
pub was_image : (m : ℕ) (v w : DiskView) → Watches m v w → (J : Files) → IsImageNow w J → IsImageNow v J
was_image m v w watches J now = at_end (IsImageNow v) m v w watches.moments J now

-- one more name
pub one_more : (told : Type 0) (first v w : DiskView) (names : List Name) (count : ℕ) (x : Name) → count < length names → Going told first v names count → (told → Watches 1 v w)
    → (told → (get_or names count x).kind ≢ kinds.Old → (J : Files) → IsImageNow w J → content J (get_or names count x) ≡ content w.files (get_or names count x)) → Going told first w names (count + 1)
one_more told first v w names count x there so_far watches here = record {
  watches = λ is_told. watches_joined count 1 first v w (so_far.watches is_told) (watches is_told);
  standing = λ is_told m has other J now. elim (Contains-push_cases (take count names) (get_or names count x) m (subst (λ (l : List Name). Contains l m) (take_more names count x there) has)) as (λ _. content J m ≡ content w.files m) [
    | inl before ↦ so_far.standing is_told m before other J (was_image 1 v w (watches is_told) J now) ∙ sym (ap (λ (f : Files). content f m) (watches is_told).files)
    | inr is ↦ subst (λ (n : Name). content J n ≡ content w.files n) is (here is_told (subst (λ (n : Name). n.kind ≢ kinds.Old) (sym is) other) J now)
  ];
}
