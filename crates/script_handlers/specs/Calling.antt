-- Which calls a handler of one server may make.
use Rattle.std.specs.Prelude.{ℕ, Contains}
use Rattle.region_model.specs.Calls.{Call, IsFlushOf}
use Rattle.script_model.specs.Calls.{IsAmong}
use Rattle.server_model.specs.Pass.{Naming}

-- the call is one of the server's, and it is listed where it is a flush
pub record MayCall (name : Naming) (h n : ℕ) (call : Call) : Type 0 where
  pub among : IsAmong name.regions call
  pub listed : (r : ℕ) → IsFlushOf r call → Contains (name.flushes r) (record { handler = h; call = n })
