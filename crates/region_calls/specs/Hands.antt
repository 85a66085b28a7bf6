-- The hands of one region that no pass has yet.
use Rattle.std.specs.Prelude.{◌≡◌, ℕ, ◌+◌, ◌≤◌, List, [], length, Some, slice_get, replicate}
use Rattle.atomic_table.specs.Seated.{TableId}
use Rattle.hand_register.specs.Desks.{AreFresh}
use Rattle.hand_register.specs.Views.{HandView}
use Rattle.region_model.specs.Lines.{Line}
use Rattle.region_versions.specs.Histories.{Beginning, beginning}

-- of which region they are, which handler's come next, and how many are left
pub record Deal : Type 0 where
  pub region : ℕ
  pub next : ℕ
  pub left : ℕ

abbrev pub deal_of : ℕ → ℕ → ℕ → Deal
deal_of region next left = record { region = region; next = next; left = left }

-- the hands of the two desks and the viewers, which have seen nothing
pub record AreLeft (desk spent : TableId) (d : Deal) (ours : List (HandView Line)) (theirs : List (HandView ℕ)) (viewers : List Beginning) : Type 0 where
  pub own : AreFresh desk d.next ours × (length ours ≡ d.left)
  pub told : AreFresh spent d.next theirs × (length theirs ≡ d.left)
  pub viewing : viewers ≡ replicate d.left (beginning d.region [])
  pub small : d.next + d.left ≤ 32

-- those of all regions, from 1 on
abbrev pub AreDeals : ℕ → ℕ → List Deal → Type 0
AreDeals next left ds = (k : ℕ) (d : Deal) → slice_get ds k ≡ Some d → d ≡ deal_of (k + 1) next left
