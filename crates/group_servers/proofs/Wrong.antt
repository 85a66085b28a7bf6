-- What was found of other groups' regions, told of the disks like they were found.
use Rattle.std.proofs.Common.{◌≡◌, ℕ, Some, subst, arith, IsTrue}
use Rattle.disk_images.specs.declared.disk.Disk.{Ghosts}
use Rattle.group_lists.specs.declared.lists.GroupList.{GroupList}
use Rattle.group_servers.specs.declared.recovering.FoundStore.{FoundStore}
use Rattle.group_servers.specs.Checking.{AreClear, AllHave64, IsFirstIn}
use Rattle.group_servers.specs.declared.refusal.GroupsWhy.TheVariants as whys
use Rattle.group_lists.specs.Lists.{count_of, at_group, AtEach}
use Rattle.group_servers.specs.Recovering.{IsFoundAs, IsRecovered}
use Rattle.group_servers.specs.Refusals.{AreRefused, HasNoOthers, IsFirstWrong, IsWrong, Tells}
use Rattle.group_servers.proofs.Disks.{clear_below, wrong_there}
use Rattle.group_lists.proofs.Each.{partner, follower, of_both}
use Rattle.group_servers.proofs.Sound.{all_sound}

module _ {D : Type 0} (g : Ghosts D) (stores : GroupList (FoundStore D)) (found mid : GroupList D) where
  pub have_64 : AtEach (IsRecovered g) stores mid → AllHave64 stores
  have_64 recovered k s at = (follower (IsRecovered g) stores mid recovered k s at).2.all

  none_at : AtEach (IsRecovered g) stores mid → IsTrue g.told → (groups k : ℕ) (s : FoundStore D) → at_group stores k ≡ Some s
      → AreClear groups k s.recovered 64 → HasNoOthers groups 64 k (g.view s.found.value).files
  none_at recovered told groups k s at clear =
      let d = follower (IsRecovered g) stores mid recovered k s at in
      clear_below (g.view s.found.value).files (g.view d.0).files s.recovered groups k 64 (d.2.recovered told) (omega (arith, d.2.all)) clear

  -- a disk of which all stores below a number are clear
  pub clear_at : AtEach IsFoundAs stores found → AtEach (IsRecovered g) stores mid → IsTrue g.told → (groups k : ℕ) (d : D) → at_group found k ≡ Some d
      → ((s : FoundStore D) → at_group stores k ≡ Some s → AreClear groups k s.recovered 64) → HasNoOthers groups 64 k (g.view d).files
  clear_at like recovered told groups k d at clear =
      let s = partner IsFoundAs stores found like k d at in
      subst (λ e. HasNoOthers groups 64 k (g.view e).files) s.2 (none_at recovered told groups k s.0 s.1 (clear s.0 s.1))

  pub wrong_at : AtEach IsFoundAs stores found → AtEach (IsRecovered g) stores mid → IsTrue g.told → (groups disk region : ℕ) → IsFirstIn groups stores disk region
      → (d : D) × (at_group found disk ≡ Some d) × IsWrong groups disk region (g.view d).files
  wrong_at like recovered told groups disk region first =
      let s = first.wrong.0 in
      let e = follower (IsRecovered g) stores mid recovered disk s first.wrong.1 in
      let d = follower IsFoundAs stores found like disk s first.wrong.1 in
      (d.0, d.1, subst (λ x. IsWrong groups disk region (g.view x).files) d.2 (wrong_there (g.view s.found.value).files (g.view e.0).files s.recovered groups disk region (e.2.recovered told) e.2.all first.wrong.2))

-- a wrong region that was found is told of a disk that is there
pub refused_wrong : {D : Type 0} (g : Ghosts D) (stores : GroupList (FoundStore D)) (found mid : GroupList D) (disk region : ℕ)
    → AtEach IsFoundAs stores found → AtEach (IsRecovered g) stores mid → IsFirstIn (count_of found) stores disk region
    → AreRefused g found mid (whys.WrongGroup region) disk
refused_wrong g stores found mid disk region like recovered first =
    let s = first.wrong.0 in
    let e = follower (IsRecovered g) stores mid recovered disk s first.wrong.1 in
    let d = follower IsFoundAs stores found like disk s first.wrong.1 in
    record {
      tells = of_both (Tells g (whys.WrongGroup region)) (at_group found disk) (at_group mid disk) d.0 e.0 d.1 e.1 tt;
      wrong = λ told_region is told.
          let same : region ≡ told_region = cc is in
          subst (λ r. IsFirstWrong g found disk r) same (record {
            wrong = wrong_at g stores found mid like recovered told (count_of found) disk region first;
            lower = λ k x low at. clear_at g stores found mid like recovered told (count_of found) k x at (λ t there. first.lower k t low there);
          });
      before = λ told k x low at. all_sound g stores found mid like recovered told k x at;
    }
