-- What is left of a script on several stores, by what their opening and their run say.
use Rattle.std.proofs.Common.{◌≡◌, ◌≢◌, ℕ, zero, suc, ◌≤◌, Bool, List, length, Option, Some, None, refl, sym, ◌∙◌, subst, IfSome, IsTrue}
use Rattle.disk_images.specs.Calls.{Rose}
use Rattle.disk_images.specs.Crash.{DiskView}
use Rattle.disk_images.specs.declared.disk.Disk.{Ghosts}
use Rattle.log_model.specs.Files.{IsSound}
use Rattle.groups_run.specs.group_servers.wal_split.Moments.{During, WasOrAlike}
use Rattle.region_model.specs.Journal.{Caller}
use Rattle.groups_run.specs.region_calls.declared.closed.ClosedRegion.{ClosedRegion}
use Rattle.groups_run.specs.region_calls.declared.store.OpenedStore.{OpenedStore}
use Rattle.groups_run.specs.region_calls.Names.{name_of}
use Rattle.groups_run.specs.region_calls.Seeds.{base_at, lasts_of}
use Rattle.groups_run.specs.region_calls.Store.{IsStore, bases_of, disk_now, handlers_of, regions_of}
use Rattle.groups_run.proofs.region_calls_laws.OwnNames.{server_named, locks_named, service_named, versions_named, own_name}
use Rattle.script_model.specs.Calls.{Script}
use Rattle.script_model.specs.Report.{ReplyLine}
use Rattle.server_model.specs.Pass.{Naming}
use Rattle.run_model.specs.Closed.{IsNameFor, flushes_in}
use Rattle.run_model.specs.Headline.{KeepsThroughout}
use Rattle.run_model.specs.declared.spent.Spent.{Spent}
use Rattle.command_base.proofs.Endings.{rose_from}
use Rattle.run_command.proofs.Leaving.{all_named}
use Rattle.groups_run.proofs.script_run_laws.Elapsed.{opened_throughout}
use Rattle.groups_model.specs.Groups.{IsGroup}
use Rattle.groups_run.specs.group_servers.group_lists.declared.lists.GroupList.{GroupList}
use Rattle.groups_run.specs.group_servers.declared.refusal.GroupsWhy.{GroupsWhy}
use Rattle.groups_run.specs.group_servers.declared.refusal.GroupsWhy.TheVariants as whys
use Rattle.groups_run.specs.group_servers.group_lists.Lists.{at_group, count_of, AtBoth, AtEach}
use Rattle.groups_run.proofs.group_servers_laws.group_lists_laws.Each.{partner}
use Rattle.groups_run.specs.group_servers.Refusals.{AreRefused, GoesOn, HaveNoOthers as NoneHasOthers, IsWrong, Tells}
use Rattle.groups_run.specs.group_servers.Beginning.{IsOpened}
use Rattle.groups_run.specs.group_servers.Starting.{IsNamedBy, IsNamedAt}
use Rattle.groups_run.specs.group_calls.Passes.{named}
use Rattle.groups_run.specs.Starting.{AreAlike, IsAlike}
use Rattle.groups_run.specs.Found.{AreFound, IsFoundSo, found_views, or_that, value_of, views}
use Rattle.groups_run.specs.Ends.{HaveClosed}
use Rattle.groups_command.specs.Carried.{AreNotOpened}
use Rattle.groups_command.specs.Disks.{AreInARow, HaveNoOthers, OfEach, RoseAt, SomeRose}
use Rattle.groups_command.proofs.Pairs.{group_at, pair_at, pair_there, there_at, there_of, value_at}

if_there : {A B : Type 0} (P : A → B → Type 0) (Q : B → Type 0) → ((a : A) (b : B) → P a b → Q b) → (x : Option A) (y : Option B) → AtBoth P x y → IfSome y Q
if_there P Q then None None both = tt
if_there P Q then None (Some y) both = absurd both
if_there P Q then (Some x) None both = absurd both
if_there P Q then (Some x) (Some y) both = then x y both

-- ---- opened

module _ {D : Type 0} (g : Ghosts D) (regions handlers : ℕ) where
  found_so : IsTrue g.told → (d : D) (o : OpenedStore D) → IsOpened g regions handlers d o → IsFoundSo g o
  found_so told d o is = record {
    sound = subst (λ x. IsSound (g.view x).files) (sym is.found_is) (is.sound told);
    any_moment = subst (λ x. During (WasOrAlike (g.view x)) (g.view x) (g.view (disk_now o))) (sym is.found_is) (is.goes_on.any_moment told);
  }

  alike_to : (d : D) (o : OpenedStore D) → IsOpened g regions handlers d o → (x : D) (p : OpenedStore D) → IsOpened g regions handlers x p → IsAlike o p
  alike_to d o is x p also = (also.sizes.0 ∙ sym is.sizes.0, also.sizes.1 ∙ sym is.sizes.1)

  module _ (disks : GroupList D) (opened : GroupList (OpenedStore D)) (each : AtEach (IsOpened g regions handlers) disks opened) where
    pub opened_at : (k : ℕ) → IsOpened g regions handlers (value_of disks k) (value_of opened k)
    opened_at = pair_at (IsOpened g regions handlers) disks opened each

    -- the disks were found so
    pub found_at : found_views g.view opened ≡ views g.view disks
    found_at = λ i k. g.view ((opened_at k).found_is i)

    pub are_found : IsTrue g.told → AreFound g opened
    are_found told = record {
      first = found_so told disks.first opened.first each.first;
      second = if_there (IsOpened g regions handlers) (IsFoundSo g) (found_so told) disks.second opened.second each.second;
      third = if_there (IsOpened g regions handlers) (IsFoundSo g) (found_so told) disks.third opened.third each.third;
      fourth = if_there (IsOpened g regions handlers) (IsFoundSo g) (found_so told) disks.fourth opened.fourth each.fourth;
    }

    pub are_alike : AreAlike opened
    are_alike = record {
      second = if_there (IsOpened g regions handlers) (IsAlike opened.first) (alike_to disks.first opened.first each.first) disks.second opened.second each.second;
      third = if_there (IsOpened g regions handlers) (IsAlike opened.first) (alike_to disks.first opened.first each.first) disks.third opened.third each.third;
      fourth = if_there (IsOpened g regions handlers) (IsAlike opened.first) (alike_to disks.first opened.first each.first) disks.fourth opened.fourth each.fourth;
    }

    -- a count that rose since a store was opened rose
    pub rose_since : (left : GroupList D) (k : ℕ) → Rose (g.faults (disk_now (value_of opened k))) (g.faults (value_of left k)) → RoseAt g.faults disks left k
    rose_since left k = rose_from (g.faults (value_of disks k)) (g.faults (disk_now (value_of opened k))) (g.faults (value_of left k)) (opened_at k).goes_on.later

    pub rose_of : AreInARow disks → (left : GroupList D)
        → ((k : ℕ) × (at_group opened k ≢ None) × Rose (g.faults (disk_now (value_of opened k))) (g.faults (value_of left k))) → SomeRose g.faults disks left
    rose_of row left r =
        let found = partner (IsOpened g regions handlers) disks opened each r.0 (value_of opened r.0) (there_of opened.first (at_group opened r.0) r.1) in (
          r.0,
          group_at disks row r.0 found.0 found.1,
          rose_since left r.0 r.2,
        )

-- ---- names

module _ {D : Type 0} (N : Type 0) (g : Ghosts D) (flushes : ℕ → List Caller) where
  pub named_by : (o : OpenedStore D) → IsStore g o → IsNamedBy {N = N} g (server_named g flushes o) (locks_named flushes o) (service_named g o) (versions_named o) o
  named_by o store = record { store = store; name = own_name g flushes o }

  -- of a group that isn't there nothing is asked of its name
  pub named_at : (regions handlers : ℕ) (d : D) (x : Option D) (o : OpenedStore D) (y : Option (OpenedStore D)) → AtBoth (IsOpened g regions handlers) x y
      → IsNamedAt {N = N} g (server_named g flushes (or_that o y)) (locks_named flushes (or_that o y)) (service_named g (or_that o y)) (versions_named (or_that o y)) y
  named_at regions handlers d None o None both = tt
  named_at regions handlers d None o (Some y) both = absurd both
  named_at regions handlers d (Some x) o None both = absurd both
  named_at regions handlers d (Some x) o (Some y) both = named_by y both.store

pub fits_script : {D : Type 0} (g : Ghosts D) (script : Script) (o : OpenedStore D) → IsStore g o → regions_of o ≡ script.regions
    → IsNameFor script (name_of (length (lasts_of (bases_of o))) (handlers_of o) (base_at (bases_of o)) (λ r. flushes_in r script))
fits_script g script o store same = record { regions = all_named o store ∙ same; flushes = λ r. refl }

pub named_each : (P : Naming → Type 0) (a b c d : Naming) → P a → P b → P c → P d → (k : ℕ) → P (named a b c d k)
named_each P a b c d x y z w zero = x
named_each P a b c d x y z w (suc zero) = x
named_each P a b c d x y z w (suc (suc zero)) = y
named_each P a b c d x y z w (suc (suc (suc zero))) = z
named_each P a b c d x y z w (suc (suc (suc (suc n)))) = w

-- ---- run

-- a fault since the stores were opened is one since the disks were found
since : (groups : ℕ) (script : Script) (found left : ℕ → DiskView) (later rose : ℕ → Type 0) (regions : List ClosedRegion) (parts : List (List ReplyLine)) (spent : Option Spent) (broken : Bool)
    → ((k : ℕ) → later k → rose k) → HaveClosed groups script found left later regions parts spent broken → HaveClosed groups script found left rose regions parts spent broken
since groups script found left later rose regions parts spent broken then c = record {
  names = c.names;
  handlers = c.handlers;
  closes = c.closes;
  breaks = c.breaks;
  closed = c.closed;
  causes = λ k is broke. then k (c.causes k is broke);
  chosen = c.chosen;
  lines = c.lines;
  first_told = c.first_told;
  none_broken = c.none_broken;
}

pub closed_ran : (n groups : ℕ) (made script : Script) (found before left : ℕ → DiskView) (later rose : ℕ → Type 0) (regions : List ClosedRegion) (parts : List (List ReplyLine)) (spent : Option Spent) (broken : Bool)
    → n ≡ groups → made ≡ script → found ≡ before → ((k : ℕ) → later k → rose k) → HaveClosed n made found left later regions parts spent broken
    → HaveClosed groups script before left rose regions parts spent broken
closed_ran n groups made script found before left later rose regions parts spent broken as_many same so then c =
    since groups script before left later rose regions parts spent broken then
    (subst (λ f. HaveClosed groups script f left later regions parts spent broken) so
    (subst (λ s. HaveClosed groups s found left later regions parts spent broken) same (subst (λ k. HaveClosed k made found left later regions parts spent broken) as_many c)))

pub of_each : (P : DiskView → DiskView → Type 0) (n groups : ℕ) (found before left : ℕ → DiskView) → n ≡ groups → found ≡ before → ((k : ℕ) → IsGroup n k → P (found k) (left k)) → OfEach groups P before left
of_each P n groups found before left as_many so each = subst (λ f. OfEach groups P f left) so (subst (λ m. OfEach m P found left) as_many each)

pub none_has_others : {D : Type 0} (g : Ghosts D) (disks : GroupList D) → NoneHasOthers g disks → HaveNoOthers (count_of disks) (views g.view disks)
none_has_others g disks none k is = none k (value_of disks k) (there_at disks k is)

-- ---- not opened

module _ {D : Type 0} (g : Ghosts D) (disks left : GroupList D) (each : AtEach (GoesOn g) disks left) where
  pub went_on : IsTrue g.told → (k : ℕ) → KeepsThroughout (views g.view disks k) (views g.view left k)
  went_on told k = opened_throughout (views g.view disks k) (views g.view left k) ((pair_at (GoesOn g) disks left each k).any_moment told)

  pub no_less : (k : ℕ) → g.faults (value_of disks k) ≤ g.faults (value_of left k)
  no_less k = (pair_at (GoesOn g) disks left each k).later

  pub not_opened : AreInARow disks → (why : GroupsWhy) (disk : ℕ) → IsTrue g.told → AreRefused g disks left why disk → AreNotOpened (count_of disks) (views g.view disks) (views g.view left) why disk
  not_opened row why disk told refused =
      let at = pair_there (Tells g why) disks left disk refused.tells in
      let there : IsGroup (count_of disks) disk = group_at disks row disk at.0.0 at.0.1 in
      record {
        there = there;
        half = λ k is. ∣ (pair_at (GoesOn g) disks left each k).any_moment told ∣₁;
        damaged = λ damage is. (let d = subst (λ w. Tells g w (value_of disks disk) (value_of left disk)) is at.1 told in ((d.unsound, d.damaged), d.same));
        wrong = λ region is. (let w = refused.wrong region is told in
            record {
              there = there;
              wrong = subst (λ d. IsWrong (count_of disks) disk region (g.view d).files) (sym (value_at disks disk w.wrong.0 w.wrong.1)) w.wrong.2;
              lower = λ k is low. w.lower k (value_of disks k) low (there_at disks k is);
            });
        sound = λ k is way. refused.before told k (value_of disks k) way (there_at disks k is);
      }

  pub refused_rose : AreInARow disks → (why : GroupsWhy) (disk : ℕ) → AreRefused g disks left why disk → why ≡ whys.DiskFault → SomeRose g.faults disks left
  refused_rose row why disk refused is =
      let at = pair_there (Tells g why) disks left disk refused.tells in
      (disk, group_at disks row disk at.0.0 at.0.1, subst (λ w. Tells g w (value_of disks disk) (value_of left disk)) is at.1)
