-- Handlers before and after their work, and the seats by which their log is helped.
use Rattle.std.specs.Prelude.{◌≡◌, ℕ, ◌<◌, List, length, slice_index_or}

module _ {J H : Type 0} where
  -- each of the handlers is ready
  abbrev pub AreReady : (J → H → Type 0) → J → List H → Type 0
  AreReady is_ready job hs = (i : ℕ) (d : H) → i < length hs → is_ready job (slice_index_or hs i d)

  -- each has worked, and none is gone
  pub record HaveWorked (has_worked : J → H → H → Type 0) (job : J) (olds news : List H) : Type 0 where
    pub len : length news ≡ length olds
    pub each : (i : ℕ) (d : H) → i < length olds → has_worked job (slice_index_or olds i d) (slice_index_or news i d)

module _ {J Q : Type 0} (is_seat : J → Q → Type 0) where
  -- each of the seats is one of the server's
  abbrev pub AreSeats : J → List Q → Type 0
  AreSeats job qs = (i : ℕ) (d : Q) → i < length qs → is_seat job (slice_index_or qs i d)

  -- the seat is still one of the server's, and of the log that it was of
  pub record HasHelped (log_of : Q → ℕ) (job : J) (old new : Q) : Type 0 where
    pub seat : is_seat job new
    pub log : log_of new ≡ log_of old

  -- so is each of the seats, and none is gone
  abbrev pub HaveHelped : (Q → ℕ) → J → List Q → List Q → Type 0
  HaveHelped log_of job olds news = HaveWorked (HasHelped log_of) job olds news
