-- Which disks are sound.
use Rattle.std.proofs.Common.{◌≡◌, ℕ, zero, suc, Option, Some, None, subst, arith, IsTrue}
use Rattle.disk_images.specs.declared.disk.Disk.{Ghosts}
use Rattle.log_model.specs.Files.{IsSound}
use Rattle.group_lists.specs.declared.lists.GroupList.{GroupList}
use Rattle.group_servers.specs.declared.recovering.FoundStore.{FoundStore}
use Rattle.group_lists.specs.Lists.{at_group, AtBoth, AtEach}
use Rattle.group_servers.specs.Recovering.{IsFoundAs, IsRecovered}
use Rattle.group_servers.specs.Refusals.{AreSoundBelow}
use Rattle.group_lists.proofs.Each.{partner, follower, some_is}

module _ {D : Type 0} (g : Ghosts D) where
  -- one that was recovered was
  sound_as_found : (s : FoundStore D) (found left : D) → IsTrue g.told → IsFoundAs s found → IsRecovered g s left → IsSound (g.view found).files
  sound_as_found s found left told like is = subst (λ d. IsSound (g.view d).files) like (is.sound told)

  sound_at : (s : Option (FoundStore D)) (found left : Option D) → IsTrue g.told → AtBoth IsFoundAs s found → AtBoth (IsRecovered g) s left
      → (d : D) → found ≡ Some d → IsSound (g.view d).files
  sound_at s None left told like is d at = absurd (cc at)
  sound_at None (Some e) left told like is d at = absurd like
  sound_at (Some s) (Some e) None told like is d at = absurd is
  sound_at (Some s) (Some e) (Some x) told like is d at = subst (λ y. IsSound (g.view y).files) (some_is e d at) (sound_as_found s e x told like is)

  -- all that were recovered
  pub all_sound : (stores : GroupList (FoundStore D)) (found left : GroupList D) → AtEach IsFoundAs stores found → AtEach (IsRecovered g) stores left → IsTrue g.told
      → (k : ℕ) (d : D) → at_group found k ≡ Some d → IsSound (g.view d).files
  all_sound stores found left like recovered told k d at =
      let s = partner IsFoundAs stores found like k d at in
      let x = follower (IsRecovered g) stores left recovered k s.0 s.1 in
      sound_as_found s.0 d x.0 told s.2 x.2

  -- below the first there is none
  pub none_below : (disks : GroupList D) → AreSoundBelow g disks 1
  none_below disks zero d low at = absurd (cc at)
  none_below disks (suc k) d low at = absurd (omega (arith, low))

  pub first_below : (disks : GroupList D) (s : FoundStore D) (left : D) → IsTrue g.told → IsFoundAs s disks.first → IsRecovered g s left → AreSoundBelow g disks 2
  first_below disks s left told like is zero d low at = absurd (cc at)
  first_below disks s left told like is (suc zero) d low at =
      subst (λ y. IsSound (g.view y).files) (some_is disks.first d at) (sound_as_found s disks.first left told like is)
  first_below disks s left told like is (suc (suc k)) d low at = absurd (omega (arith, low))

  pub second_below : (disks : GroupList D) → AreSoundBelow g disks 2 → (s : Option (FoundStore D)) (left : Option D) → IsTrue g.told
      → AtBoth IsFoundAs s disks.second → AtBoth (IsRecovered g) s left → AreSoundBelow g disks 3
  second_below disks below s left told like is zero d low at = absurd (cc at)
  second_below disks below s left told like is (suc zero) d low at = below 1 d (omega arith) at
  second_below disks below s left told like is (suc (suc zero)) d low at = sound_at s disks.second left told like is d at
  second_below disks below s left told like is (suc (suc (suc k))) d low at = absurd (omega (arith, low))

  pub third_below : (disks : GroupList D) → AreSoundBelow g disks 3 → (s : Option (FoundStore D)) (left : Option D) → IsTrue g.told
      → AtBoth IsFoundAs s disks.third → AtBoth (IsRecovered g) s left → AreSoundBelow g disks 4
  third_below disks below s left told like is zero d low at = absurd (cc at)
  third_below disks below s left told like is (suc zero) d low at = below 1 d (omega arith) at
  third_below disks below s left told like is (suc (suc zero)) d low at = below 2 d (omega arith) at
  third_below disks below s left told like is (suc (suc (suc zero))) d low at = sound_at s disks.third left told like is d at
  third_below disks below s left told like is (suc (suc (suc (suc k)))) d low at = absurd (omega (arith, low))
