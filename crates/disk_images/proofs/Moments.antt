-- How what holds at each moment goes on from call to call.
use Rattle.std.proofs.Common.{◌≡◌, inl, inr, ℕ, ◌+◌, ◌≤◌, subst, arith}
use Rattle.std.proofs.lemmas.Bool.{cases_lt}
use Rattle.log_model.specs.Files.{Files}
use Rattle.disk_images.specs.Crash.{DiskView, IsImageNow, Elapses, Throughout, Since}

-- a moment that is not above the clock nor below it is the last one
at_clock : (P : Files → Type 0) (v : DiskView) (t : ℕ) (J : Files) → t ≡ v.clock → ((I : Files) → IsImageNow v I → P I) → v.image t J → P J
at_clock P v t J is now there = now J (subst (λ (m : ℕ). v.image m J) is there)

pub elapses_none : (v : DiskView) → Elapses 0 v v
elapses_none v = record { later = omega arith; by_most = omega arith; past = λ t J le there. there; kept = λ t J le there. there }

pub elapses_on : (m n : ℕ) (u v w : DiskView) → Elapses m u v → Elapses n v w → Elapses (m + n) u w
elapses_on m n u v w first second = record {
  later = omega (arith, first.later, second.later);
  by_most = omega (arith, first.by_most, second.by_most);
  past = λ t J le there. first.past t J le (second.past t J (omega (arith, le, first.later)) there);
  kept = λ t J le there. second.kept t J (omega (arith, le, first.later)) (first.kept t J le there);
}

-- before the first call
pub at_once : (P : Files → Type 0) (v : DiskView) → ((J : Files) → IsImageNow v J → P J) → Throughout P 0 v v
at_once P v now = record {
  time = elapses_none v;
  each = λ t J from to there. at_clock P v t J (omega (arith, from, to)) now there;
}

-- one call more, which has one moment at most
pub goes_on : (P : Files → Type 0) (m : ℕ) (u v w : DiskView) → Throughout P m u v → Elapses 1 v w → ((J : Files) → IsImageNow w J → P J) → Throughout P (m + 1) u w
goes_on P m u v w so_far time now = record {
  time = elapses_on m 1 u v w so_far.time time;
  each = λ t J from to there. elim (cases_lt v.clock t) as (λ _. P J) [
    | inl late ↦ at_clock P w t J (omega (arith, late, to, time.by_most)) now there
    | inr early ↦ so_far.each t J from early (time.past t J early there)
  ];
}

-- one call
pub in_one_call : (P : Files → Type 0) (v w : DiskView) → ((J : Files) → IsImageNow v J → P J) → Elapses 1 v w → ((J : Files) → IsImageNow w J → P J) → Throughout P 1 v w
in_one_call P v w before time after =
    subst (λ (k : ℕ). Throughout P k v w) (omega arith) (goes_on P 0 v v w (at_once P v before) time after)

pub weaker : (P Q : Files → Type 0) (m : ℕ) (v w : DiskView) → ((J : Files) → P J → Q J) → Throughout P m v w → Throughout Q m v w
weaker P Q m v w then over = record { time = over.time; each = λ t J from to there. then J (over.each t J from to there) }

-- two runs of calls, one after the other
pub joined : (P : Files → Type 0) (m n : ℕ) (u v w : DiskView) → Throughout P m u v → Throughout P n v w → Throughout P (m + n) u w
joined P m n u v w first second = record {
  time = elapses_on m n u v w first.time second.time;
  each = λ t J from to there. elim (cases_lt v.clock t) as (λ _. P J) [
    | inl late ↦ second.each t J (omega (arith, late)) to there
    | inr early ↦ first.each t J from early (second.time.past t J early there)
  ];
}

-- at the end, of the images then
pub at_end : (P : Files → Type 0) (m : ℕ) (v w : DiskView) → Throughout P m v w → (J : Files) → IsImageNow w J → P J
at_end P m v w over J now = over.each w.clock J over.time.later (omega arith) now

pub more_time : (P : Files → Type 0) (m n : ℕ) (v w : DiskView) → m ≤ n → Throughout P m v w → Throughout P n v w
more_time P m n v w le over = record {
  time = record { later = over.time.later; by_most = omega (arith, over.time.by_most, le); past = over.time.past; kept = over.time.kept };
  each = over.each;
}

-- what holds at each moment of a call too holds since then
pub since_on : (from : ℕ) (P : Files → Type 0) (m : ℕ) (v w : DiskView) → Since from P v → Throughout P m v w → Since from P w
since_on from P m v w since over = record {
  begun = omega (arith, since.begun, over.time.later);
  each = λ t J start to there. elim (cases_lt v.clock t) as (λ _. P J) [
    | inl late ↦ over.each t J (omega (arith, late)) to there
    | inr early ↦ since.each t J start early (over.time.past t J early there)
  ];
}

pub since_weaker : (from : ℕ) (P Q : Files → Type 0) (v : DiskView) → ((J : Files) → P J → Q J) → Since from P v → Since from Q v
since_weaker from P Q v then since = record { begun = since.begun; each = λ t J start to there. then J (since.each t J start to there) }

-- a fact that holds of each image now holds since now
pub since_now : (P : Files → Type 0) (v : DiskView) → ((J : Files) → IsImageNow v J → P J) → Since v.clock P v
since_now P v now = record { begun = omega arith; each = λ t J start to there. at_clock P v t J (omega (arith, start, to)) now there }
