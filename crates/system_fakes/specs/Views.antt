-- What a system in memory tells.
use Rattle.std.specs.Prelude.{◌≡◌, ℕ, [], ◌∷◌, ◌++◌}
use Rattle.folder_system.specs.System.{SystemView}
use Rattle.system_fakes.specs.declared.op.Op.{Op}
use Rattle.system_fakes.specs.declared.history.History.{History}
use Rattle.system_fakes.specs.declared.fake_file.FakeFile.{FakeFile}
use Rattle.system_fakes.specs.declared.fake_system.FakeSystem.{FakeSystem}
use Rattle.system_fakes.specs.Table.{held_in}
use Rattle.system_fakes.specs.History.{State, after, quiet, view_of_state}

abbrev pub state_of : History → State
state_of h = after (quiet (held_in h.first)) h.ops.items

abbrev pub history_view : History → SystemView
history_view h = view_of_state (state_of h)

abbrev pub inode_of : FakeFile → ℕ
inode_of file = file.inode

-- one call more
pub record Did (op : Op) (old new : History) : Type 0 where
  pub first : held_in new.first ≡ held_in old.first
  pub ops : new.ops.items ≡ old.ops.items ++ op ∷ []

-- no call more
pub record Stays (old new : History) : Type 0 where
  pub first : held_in new.first ≡ held_in old.first
  pub ops : new.ops.items ≡ old.ops.items

abbrev pub view_of : FakeSystem → SystemView
view_of system = history_view system.history

abbrev pub faults_of : FakeSystem → ℕ
faults_of system = system.plan.faults
