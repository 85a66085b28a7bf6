-- A region that was recovered.
use Rattle.std.specs.Prelude.{◌≡◌, ℕ, ◌+◌, ◌<◌, ◌≤◌, ◌^◌, List, Some, refl}
use Rattle.std.specs.FinMap.{get}
use Rattle.std.specs.Coded.{Coded, code_by, coded×, coded_ℕ}
use Rattle.mem_segments.specs.Codes.{coded_base}
use Rattle.cell_model.specs.Order.{VersionKey, Payload}
use Rattle.log_model.specs.declared.name.Name.{Name}
use Rattle.log_model.specs.declared.name.NameKind.TheVariants as kinds
use Rattle.log_model.specs.Files.{Files, IsPresent}
use Rattle.log_model.specs.Recovered.{IsFlushed, IsRecovered, IsLast, IsContent}
use Rattle.region_model.specs.Journal.{Base}

-- one region as it was recovered
pub record Found : Type 0 where
  pub base : Base
  pub flushed : ℕ
  pub next_store : ℕ

-- what holds of it on any disk
pub record IsWithin (x : Found) : Type 0 where
  pub last : x.base.last < 2 ^ 48
  pub upto : (v : VersionKey) (p : Payload) → get x.base.content v ≡ Some p → v.number ≤ x.base.last
  pub flushed : x.flushed ≡ x.base.last
  pub store_given : 1 ≤ x.next_store
  pub store : x.next_store ≤ 2 ^ 63 + 1

-- it is what the old files recover to for the region, and the new ones are flushed up to its last sequence id, the whole
-- region (of which the empty family tells) and each family
pub record IsOf (old new : Files) (r : ℕ) (x : Found) : Type 0 where
  pub content : IsContent (IsRecovered old r) x.base.content
  pub last : IsLast old r x.base.last
  pub flushed : (f : List ℕ) → IsFlushed new r f x.flushed
  pub next : (m : Name) → m.kind ≡ kinds.Store → m.region ≡ r → IsPresent new m → m.number < x.next_store
  -- the next store's number is above those of the region's stores by no more than the flushed sequence id and one
  pub few : (n : ℕ) → ((m : Name) → m.kind ≡ kinds.Store → m.region ≡ r → IsPresent new m → m.number ≤ n) → x.next_store ≤ n + 1 + x.flushed

-- by this a proof tells such values apart
abbrev pub coded_found : Coded Found
coded_found = code_by (Base × (ℕ × ℕ)) (coded× coded_base (coded× coded_ℕ coded_ℕ)) (λ x. (x.base, (x.flushed, x.next_store))) (λ p. record { base = p.0; flushed = p.1.0; next_store = p.1.1 }) (λ _. refl)
