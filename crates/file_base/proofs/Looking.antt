-- Calls that change nothing, one after the other.
use Rattle.std.proofs.Common.{ℕ, ◌+◌, ◌≤◌, ◌∙◌, arith}
use Rattle.disk_images.specs.Crash.{DiskView, IsImageNow}
use Rattle.disk_images.specs.Calls.{Looks}
use Rattle.disk_images.proofs.Moments.{goes_on, more_time, at_end, joined, weaker}
use Rattle.file_base.specs.Looking.{OnlyLooks}

pub looks_on : (m : ℕ) (u v w : DiskView) → OnlyLooks m u v → Looks v w → OnlyLooks (m + 1) u w
looks_on m u v w so_far looks = record {
  files = looks.files ∙ so_far.files;
  gone = λ n h. so_far.gone n (looks.gone n h);
  formerly = λ n k h. so_far.formerly n k (looks.formerly n k h);
  moments = goes_on (IsImageNow u) m u v w so_far.moments looks.time (λ J now. at_end (IsImageNow u) m u v so_far.moments J (looks.crash J now));
}

pub looks_more : (m n : ℕ) (v w : DiskView) → m ≤ n → OnlyLooks m v w → OnlyLooks n v w
looks_more m n v w le looks = record { files = looks.files; gone = looks.gone; formerly = looks.formerly; moments = more_time (IsImageNow v) m n v w le looks.moments }

pub looks_joined : (m n : ℕ) (u v w : DiskView) → OnlyLooks m u v → OnlyLooks n v w → OnlyLooks (m + n) u w
looks_joined m n u v w first second = record {
  files = second.files ∙ first.files;
  gone = λ k h. first.gone k (second.gone k h);
  formerly = λ k l h. first.formerly k l (second.formerly k l h);
  moments = joined (IsImageNow u) m n u v w first.moments (weaker (IsImageNow v) (IsImageNow u) n v w (λ J was. at_end (IsImageNow u) m u v first.moments J was) second.moments);
}
