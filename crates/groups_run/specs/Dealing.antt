-- The passes of several servers that no handler has.
use Rattle.std.specs.Prelude.{◌≡◌, ℕ, ◌<◌, [], length, IfSome}
use Rattle.group_calls.specs.region_lock.declared.naming.LockNaming.{Ghosts}
use Rattle.group_calls.specs.region_calls.Backs.{AllBack}
use Rattle.group_calls.specs.region_calls.Deals.{passes_out, passes_back, ArePassesOf}
use Rattle.group_calls.specs.group_servers.Dealing.{ArePassesAt, AreBackAt, IsBack, IsBackAt, IsEvenAt, IsNext, IsNextAt, IsRoomAt}
use Rattle.group_calls.specs.declared.groups.GroupPass.{GroupPass}
use Rattle.groups_run.specs.declared.helpers.GroupHelpers.{GroupHelpers}
use Rattle.groups_run.specs.declared.passes.GroupPasses.{GroupPasses}
use Rattle.group_calls.specs.Servers.{Servers}

module _ {N1 N2 N3 N4 : Type 0} {g1 : Ghosts N1} {g2 : Ghosts N2} {g3 : Ghosts N3} {g4 : Ghosts N4} where
  -- for how many handlers passes were handed out
  abbrev pub groups_out : GroupPasses N1 N2 N3 N4 g1 g2 g3 g4 → ℕ
  groups_out p = passes_out p.first

  -- the passes of these servers, each with so many handlers
  pub record AreGroupPassesOf (s : Servers) (h1 h2 h3 h4 : ℕ) (p : GroupPasses N1 N2 N3 N4 g1 g2 g3 g4) : Type 0 where
    pub first : ArePassesOf s.first h1 p.first
    pub second : ArePassesAt s.second h2 p.second
    pub third : ArePassesAt s.third h3 p.third
    pub fourth : ArePassesAt s.fourth h4 p.fourth
    pub second_even : IsEvenAt h1 (passes_out p.first) h2 p.second
    pub third_even : IsEvenAt h1 (passes_out p.first) h3 p.third
    pub fourth_even : IsEvenAt h1 (passes_out p.first) h4 p.fourth

  -- a handler's passes are out that aren't back
  pub record HasRoom (p : GroupPasses N1 N2 N3 N4 g1 g2 g3 g4) : Type 0 where
    pub first : length (passes_back p.first) < passes_out p.first
    pub second : IsRoomAt p.second
    pub third : IsRoomAt p.third
    pub fourth : IsRoomAt p.fourth

  -- the next handler's were handed out
  pub record HasNext (old : GroupPasses N1 N2 N3 N4 g1 g2 g3 g4) (pass : GroupPass N1 N2 N3 N4 g1 g2 g3 g4)
      (new : GroupPasses N1 N2 N3 N4 g1 g2 g3 g4) : Type 0 where
    pub first : IsNext old.first pass.first new.first
    pub second : IsNextAt old.second pass.second new.second
    pub third : IsNextAt old.third pass.third new.third
    pub fourth : IsNextAt old.fourth pass.fourth new.fourth

  -- a handler's came back
  pub record HasBack (old : GroupPasses N1 N2 N3 N4 g1 g2 g3 g4) (pass : GroupPass N1 N2 N3 N4 g1 g2 g3 g4)
      (new : GroupPasses N1 N2 N3 N4 g1 g2 g3 g4) : Type 0 where
    pub first : IsBack old.first pass.first new.first
    pub second : IsBackAt old.second pass.second new.second
    pub third : IsBackAt old.third pass.third new.third
    pub fourth : IsBackAt old.fourth pass.fourth new.fourth

  -- all passes are back, and all seats of those that help
  pub record AreAllBack (s : Servers) (h1 h2 h3 h4 : ℕ) (p : GroupPasses N1 N2 N3 N4 g1 g2 g3 g4) (hs : GroupHelpers) : Type 0 where
    pub first : AllBack s.first h1 p.first hs.first
    pub second : AreBackAt s.second h2 p.second hs.second
    pub third : AreBackAt s.third h3 p.third hs.third
    pub fourth : AreBackAt s.fourth h4 p.fourth hs.fourth

  -- none was handed out yet
  pub record NoneIsOut (p : GroupPasses N1 N2 N3 N4 g1 g2 g3 g4) : Type 0 where
    pub first : (passes_out p.first ≡ 0) × (passes_back p.first ≡ [])
    pub second : IfSome p.second (λ q. (passes_out q ≡ 0) × (passes_back q ≡ []))
    pub third : IfSome p.third (λ q. (passes_out q ≡ 0) × (passes_back q ≡ []))
    pub fourth : IfSome p.fourth (λ q. (passes_out q ≡ 0) × (passes_back q ≡ []))
