-- The half of a device at the start.
use Rattle.std.proofs.Common.{ℕ, List, [], sym, subst, arith, Contains}
use Rattle.log_model.specs.Entry.{Entry}
use Rattle.log_model.specs.Files.{Files}
use Rattle.recovery_laws.specs.Change.{RecoversWith, LastsWith}
use Rattle.recovery_laws.proofs.Likes.{like_recovers}
use Rattle.recovery_laws.proofs.Lasts.{like_lasts}
use Rattle.disk_images.specs.Crash.{DiskView, Since}
use Rattle.disk_images.proofs.Moments.{since_now}
use Rattle.log_trucks.specs.Held.{AreHeld}
use Rattle.log_ledger.specs.History.{History, ClosedLog}
use Rattle.log_device.specs.declared.device.Device.{Device}
use Rattle.log_halves.specs.Begun.{BeginsAs}
use Rattle.log_halves.specs.Halves.{Stands, RecoversHeld}

no_log : (c : ClosedLog) → Contains [] c → ⊥
no_log c has = omega (arith, has.1)

module _ {D : Type 0} (found : Files) (first : List ℕ) (d : Device D) (disk : DiskView) (h : History) (b : BeginsAs found first d disk h) where
  pub stands_first : Stands found first d disk [] h
  stands_first = record {
    whole = b.whole;
    began = b.began;
    idle = b.none_staged;
    all = subst (AreHeld []) (sym b.none_durable) tt;
    none_may_go = λ c has flushed. no_log c (subst (λ (l : List ClosedLog). Contains l c) b.no_logs has);
    few = b.few;
  }

  pub since_first : Since disk.clock (RecoversHeld found []) disk
  since_first = since_now (RecoversHeld found []) disk (λ J now.
      let like = (b.whole.keeps.images J now).like in
      record {
        entries = [];
        held = tt;
        recovers = record {
          fit = like.fit;
          count = 0;
          recovered = subst (λ (p : Files × List Entry). RecoversWith p.0 p.1 J) (λ i. (b.began.base i, b.none_durable i)) (like_recovers h.kept J like);
          last = subst (λ (p : Files × List Entry). LastsWith p.0 p.1 J) (λ i. (b.began.base i, b.none_durable i)) (like_lasts h.kept J like b.whole.keeps.orderly);
        };
      })
