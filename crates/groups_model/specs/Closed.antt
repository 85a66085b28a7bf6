-- What a run on several disks has once its servers are closed.
use Rattle.std.specs.Prelude.{◌≡◌, ℕ, Bool, List, map, Contains}
use Rattle.std.specs.List.{range_with_len, flat_map}
use Rattle.region_model.specs.Calls.{Reply}
use Rattle.script_model.specs.Calls.{Script, asked, asked_by}
use Rattle.disk_images.specs.Crash.{DiskView}
use Rattle.server_model.specs.Pass.{Pass, Naming}
use Rattle.server_model.specs.Closing.{Handled}
use Rattle.run_model.specs.Closed.{ClosedAt, ClosedOn, FitsThroughout}
use Rattle.groups_model.specs.Groups.{group_of, IsGroup, replies_on, asked_on}

-- a handler's passes at the end, with its calls
pub record GroupHandled : Type 0 where
  pub passes : ℕ → Pass
  pub replies : List Reply

abbrev pub all_replies : List GroupHandled → List Reply
all_replies hs = flat_map (λ h. h.replies) hs

-- what one group's server saw of it
abbrev pub handled_on : ℕ → ℕ → GroupHandled → Handled
handled_on groups k h = record { pass = h.passes k; replies = replies_on groups k h.replies }

-- what stands of the groups' servers and of a script's handlers, once all servers are closed
pub record AreClosed (groups : ℕ) (script : Script) (found left : ℕ → DiskView) (names : ℕ → Naming) (hs : List GroupHandled) (xs : ℕ → List ClosedAt)
    (broken : ℕ → Bool) : Type 0 where
  pub calls : map asked_by (all_replies hs) ≡ asked script
  pub each : (k : ℕ) → IsGroup groups k
      → ClosedOn (asked_on groups k (asked script)) script (found k).files (left k) (names k) (map (handled_on groups k) hs) (xs k) (broken k)
  pub moments : (k : ℕ) → IsGroup groups k → FitsThroughout (found k) (left k) (xs k)

-- each region as its own group's server closed it, in order
pub record AreChosen (groups : ℕ) (script : Script) (xs : ℕ → List ClosedAt) (chosen : List ClosedAt) : Type 0 where
  pub numbers : map (λ (x : ClosedAt). x.region) chosen ≡ range_with_len 1 script.regions
  pub from : (x : ClosedAt) → Contains chosen x → Contains (xs (group_of groups x.region)) x
