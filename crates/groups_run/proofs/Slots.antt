-- One group's store and what is left of it, where there is such a group.
use Rattle.std.proofs.Common.{◌≡◌, ◌≢◌, ℕ, zero, suc, ◌<◌, ◌≤◌, Bool, true, false, List, map, Option, Some, None, IfSome, IsTrue, refl, sym, ap, subst, ◌∙◌, arith, inl, inr, option_map}
use Rattle.std.proofs.lemmas.Bool.{cases_lt}
use Rattle.std.specs.List.{range_with_len}
use Rattle.std.specs.Global.{Vec}
use Rattle.disk_images.specs.declared.disk.Disk.{Ghosts}
use Rattle.disk_images.specs.Calls.{Rose}
use Rattle.script_model.specs.Calls.{Script, Asked, asked_by, IsScript}
use Rattle.server_model.specs.Pass.{Pass}
use Rattle.server_model.specs.Closing.{Handled, AllRun, passes_of, replies_of}
use Rattle.run_model.specs.Closed.{ClosedOn, IsNameFor, FitsThroughout}
use Rattle.run_model.specs.Headline.{KeepsThroughout}
use Rattle.group_calls.specs.log_service.log_halves.declared.name.ServiceNaming.{Ghosts as LogGhosts}
use Rattle.group_calls.specs.log_service.Places.{ServiceId}
use Rattle.group_calls.specs.region_calls.declared.naming.ServerNaming.{Ghosts as NameGhosts}
use Rattle.group_calls.specs.region_calls.declared.store.OpenedStore.{OpenedStore}
use Rattle.group_calls.specs.region_calls.declared.closed.ClosedRegion.{ClosedRegion}
use Rattle.group_calls.specs.region_calls.Store.{disk_now, disk_found, regions_of}
use Rattle.group_calls.specs.region_lock.declared.naming.LockNaming.{Ghosts as LockGhosts}
use Rattle.region_versions.specs.declared.naming.VersionsNaming.{Ghosts as VersionGhosts}
use Rattle.script_run.specs.Ends.{closed_at}
use Rattle.group_calls.specs.group_servers.group_lists.declared.lists.GroupList.{GroupList}
use Rattle.group_calls.specs.group_servers.group_lists.Lists.{AtBoth, AtEach, counted, count_of}
use Rattle.group_calls.specs.group_servers.declared.shutting.ServerEnd.{ServerEnd}
use Rattle.group_calls.specs.group_servers.Closing.{EndsSo, HasEnded}
use Rattle.group_calls.specs.group_servers.Starting.{HasLetGo, HasLetGoAt, IsNamedAt, IsNamedBy}
use Rattle.groups_run.specs.Closing.{is_broken}
use Rattle.groups_run.specs.Starting.{HeldOrLetGo, HeldOrLetGoAt}
use Rattle.groups_run.specs.Ended.{HasEndedOf}
use Rattle.groups_run.specs.Found.{IsFoundSo, or_that, value_of}
use Rattle.groups_run.proofs.Chosen.{items_of}
use Rattle.groups_run.proofs.Closes.{closed_on, closed_throughout}
use Rattle.groups_run.proofs.Kept.{ended_keeps, left_keeps, opened_keeps}

-- ---- values that are there

module _ {A B : Type 0} (P : A → B → Type 0) where
  pub value_both : (x : A) (y : B) (o : Option A) (e : Option B) → P x y → AtBoth P o e → P (or_that x o) (or_that y e)
  value_both x y None None one both = one
  value_both x y None (Some e) one both = absurd both
  value_both x y (Some o) None one both = absurd both
  value_both x y (Some o) (Some e) one both = both

  -- the second is there where the first one is
  pub both_there : (x : Option A) (y : Option B) → AtBoth P x y → x ≢ None → y ≢ None
  both_there None y both there = absurd (there refl)
  both_there (Some x) None both there = absurd both
  both_there (Some x) (Some y) both there = λ e. absurd (cc e)

  pub value_each : (xs : GroupList A) (ys : GroupList B) → AtEach P xs ys → (k : ℕ) → P (value_of xs k) (value_of ys k)
  value_each xs ys each zero = each.first
  value_each xs ys each (suc zero) = each.first
  value_each xs ys each (suc (suc zero)) = value_both xs.first ys.first xs.second ys.second each.first each.second
  value_each xs ys each (suc (suc (suc zero))) = value_both xs.first ys.first xs.third ys.third each.first each.third
  value_each xs ys each (suc (suc (suc (suc zero)))) = value_both xs.first ys.first xs.fourth ys.fourth each.first each.fourth
  value_each xs ys each (suc (suc (suc (suc (suc k))))) = each.first

  -- there are as many
  pub same_count : (x : Option A) (y : Option A) (z : Option A) (a : Option B) (b : Option B) (c : Option B) → AtBoth P x a → AtBoth P y b → AtBoth P z c → counted a b c ≡ counted x y z
  same_count None y z None b c p q r = refl
  same_count None y z (Some a) b c p q r = absurd p
  same_count (Some x) y z None b c p q r = absurd p
  same_count (Some x) None z (Some a) None c p q r = refl
  same_count (Some x) None z (Some a) (Some b) c p q r = absurd q
  same_count (Some x) (Some y) z (Some a) None c p q r = absurd q
  same_count (Some x) (Some y) None (Some a) (Some b) None p q r = refl
  same_count (Some x) (Some y) None (Some a) (Some b) (Some c) p q r = absurd r
  same_count (Some x) (Some y) (Some z) (Some a) (Some b) None p q r = absurd r
  same_count (Some x) (Some y) (Some z) (Some a) (Some b) (Some c) p q r = refl

  pub each_count : (xs : GroupList A) (ys : GroupList B) → AtEach P xs ys → count_of ys ≡ count_of xs
  each_count xs ys each = same_count xs.second xs.third xs.fourth ys.second ys.third ys.fourth each.second each.third each.fourth

module _ {A : Type 0} where
  pub value_if : (P : A → Type 0) (x : A) (o : Option A) → P x → IfSome o P → P (or_that x o)
  value_if P x None one is = one
  value_if P x (Some y) one is = is

  pub there_two : (x y z : Option A) → 2 ≤ counted x y z → x ≢ None
  there_two None y z most = absurd (omega (arith, most))
  there_two (Some x) y z most = λ e. absurd (cc e)

  pub there_three : (x y z : Option A) → 3 ≤ counted x y z → y ≢ None
  there_three None y z most = absurd (omega (arith, most))
  there_three (Some x) None z most = absurd (omega (arith, most))
  there_three (Some x) (Some y) z most = λ e. absurd (cc e)

  pub there_four : (x y z : Option A) → 4 ≤ counted x y z → z ≢ None
  there_four None y z most = absurd (omega (arith, most))
  there_four (Some x) None z most = absurd (omega (arith, most))
  there_four (Some x) (Some y) None most = absurd (omega (arith, most))
  there_four (Some x) (Some y) (Some z) most = λ e. absurd (cc e)

-- ---- what is kept

-- a disk that keeps what was found on it, and whose count of faults didn't fall
pub record HasKept {D : Type 0} (f : Ghosts D) (o : OpenedStore D) (disk : D) : Type 0 where
  pub keeps : IsTrue f.told → IsFoundSo f o → KeepsThroughout (f.view (disk_found o)) (f.view disk)
  pub later : f.faults (disk_now o) ≤ f.faults disk

module _ {D : Type 0} (f : Ghosts D) where
  pub held : (o : OpenedStore D) (disk : D) → disk ≡ disk_now o → HasKept f o disk
  held o disk is = record { keeps = λ told found. opened_keeps f o found disk is; later = let same = ap f.faults is in omega (arith, same) }

  pub held_at : (o : Option (OpenedStore D)) (disk : Option D) → disk ≡ option_map disk_now o → AtBoth (HasKept f) o disk
  held_at None None is = tt
  held_at None (Some d) is = absurd (cc is)
  held_at (Some o) None is = absurd (cc is)
  held_at (Some o) (Some d) is = held o d (cc is)

module _ {D N : Type 0} (f : Ghosts D) (s : NameGhosts N) (g : LockGhosts N) (l : LogGhosts N) (v : VersionGhosts N) where
  ends_later : (o : OpenedStore D) → IsNamedBy f s g l v o → (passes : List Pass) (disk : D) (broken : Bool) (rs : Option (Vec ClosedRegion)) → EndsSo f s g l v passes disk broken rs
      → f.faults (disk_now o) ≤ f.faults disk
  ends_later o named passes disk broken None ends = omega (arith, ends.1.later, named.name.begins.2)
  ends_later o named passes disk broken (Some regions) ends = omega (arith, ends.later, named.name.begins.2)

  pub ended : (o : OpenedStore D) → IsNamedBy f s g l v o → s.name.regions ≡ regions_of o → (passes : List Pass) (e : ServerEnd D) → HasEnded f s g l v passes e → HasKept f o e.disk
  ended o named same passes e ends = record {
    keeps = λ told found. ended_keeps f s g l v o named told same found passes e.disk e.broken e.regions ends;
    later = ends_later o named passes e.disk e.broken e.regions ends;
  }

  pub ended_at : {P : Type 0} (Q : OpenedStore D → P → Type 0) (o : Option (OpenedStore D)) (place : Option P) (e : Option (ServerEnd D)) → AtBoth Q o place → IsNamedAt f s g l v o
      → IfSome o (λ o. s.name.regions ≡ regions_of o) → (passes : List Pass) → HasEndedOf f s g l v place passes e → AtBoth (HasKept f) o (option_map (λ e. e.disk) e)
  ended_at Q None None None both named same passes ends = tt
  ended_at Q None None (Some e) both named same passes ends = absurd ends
  ended_at Q None (Some p) e both named same passes ends = absurd both
  ended_at Q (Some o) None e both named same passes ends = absurd both
  ended_at Q (Some o) (Some p) None both named same passes ends = absurd ends
  ended_at Q (Some o) (Some p) (Some e) both named same passes ends = ended o named same passes e ends

  let_go : (o : OpenedStore D) → IsNamedBy f s g l v o → s.name.regions ≡ regions_of o → (disk : D) → HasLetGo f s g l v disk → HasKept f o disk
  let_go o named same disk go = record {
    keeps = λ told found. left_keeps f s g l v o named told same found go.passes disk go.left;
    later = omega (arith, go.left.later, named.name.begins.2);
  }

  let_go_at : (o : Option (OpenedStore D)) → IsNamedAt f s g l v o → IfSome o (λ o. s.name.regions ≡ regions_of o) → (disk : Option D) → HasLetGoAt f s g l v o disk → AtBoth (HasKept f) o disk
  let_go_at None named same None go = tt
  let_go_at None named same (Some d) go = absurd go
  let_go_at (Some o) named same None go = absurd go
  let_go_at (Some o) named same (Some d) go = let_go o named same d go

  -- where a start was refused
  pub refused : (k n : ℕ) (o : OpenedStore D) → IsNamedBy f s g l v o → s.name.regions ≡ regions_of o → (disk : D) → HeldOrLetGo f s g l v k n o disk → HasKept f o disk
  refused k n o named same disk so = elim (cases_lt k n) [
    | inl before ↦ let_go o named same disk (so.1 before)
    | inr behind ↦ held f o disk (so.0 (omega (arith, behind)))
  ]

  pub refused_at : (k n : ℕ) (o : Option (OpenedStore D)) → IsNamedAt f s g l v o → IfSome o (λ o. s.name.regions ≡ regions_of o) → (disk : Option D) → HeldOrLetGoAt f s g l v k n o disk
      → AtBoth (HasKept f) o disk
  refused_at k n o named same disk so = elim (cases_lt k n) [
    | inl before ↦ let_go_at o named same disk (so.1 before)
    | inr behind ↦ held_at f o disk (so.0 (omega (arith, behind)))
  ]

  -- ---- a server that was closed

  broken_rose : (o : OpenedStore D) → IsNamedBy f s g l v o → (passes : List Pass) (disk : D) (broken : Bool) (rs : Option (Vec ClosedRegion)) → EndsSo f s g l v passes disk broken rs → broken ≡ true
      → Rose (f.faults (disk_now o)) (f.faults disk)
  broken_rose o named passes disk broken None ends is = absurd (cc (sym ends.0 ∙ is))
  broken_rose o named passes disk broken (Some regions) ends is = subst (λ n. Rose n (f.faults disk)) named.name.begins.2 (ends.cause is)

  pub rose : (o : OpenedStore D) → IsNamedBy f s g l v o → (passes : List Pass) (e : ServerEnd D) → HasEnded f s g l v passes e → e.broken ≡ true → Rose (f.faults (disk_now o)) (f.faults e.disk)
  rose o named passes e ends is = broken_rose o named passes e.disk e.broken e.regions ends is

  pub rose_at : {P : Type 0} (Q : OpenedStore D → P → Type 0) (o : Option (OpenedStore D)) (place : Option P) (e : Option (ServerEnd D)) → AtBoth Q o place → IsNamedAt f s g l v o
      → (passes : List Pass) → HasEndedOf f s g l v place passes e → is_broken e ≡ true → (first : OpenedStore D) (d : D)
      → (o ≢ None) × Rose (f.faults (disk_now (or_that first o))) (f.faults (or_that d (option_map (λ e. e.disk) e)))
  rose_at Q None None None both named passes ends is first d = absurd (cc is)
  rose_at Q None None (Some e) both named passes ends is first d = absurd ends
  rose_at Q None (Some p) e both named passes ends is first d = absurd both
  rose_at Q (Some o) None e both named passes ends is first d = absurd both
  rose_at Q (Some o) (Some p) None both named passes ends is first d = absurd ends
  rose_at Q (Some o) (Some p) (Some e) both named passes ends is first d = ((λ x. absurd (cc x)), rose o named passes e ends is)

  module _ (told : IsTrue f.told) (script : Script) (right : IsScript script) (fits : IsNameFor script s.name) (asks : List Asked) (hs : List Handled) (runs : AllRun s.name script.time hs)
      (calls : map asked_by (replies_of hs) ≡ asks) (passes : List Pass) (back : passes ≡ passes_of hs) where
    so_on : (o : OpenedStore D) → IsNamedBy f s g l v o → IsFoundSo f o → script.regions ≡ regions_of o → (disk : D) (broken : Bool) (rs : Option (Vec ClosedRegion)) → Some rs ≢ Some None
        → EndsSo f s g l v passes disk broken rs
        → ClosedOn asks script (f.view (disk_found o)).files (f.view disk) s.name hs (map closed_at (items_of (Some rs))) broken
        × FitsThroughout (f.view (disk_found o)) (f.view disk) (map closed_at (items_of (Some rs)))
        × ((xs : Vec ClosedRegion) × (Some rs ≡ Some (Some xs)) × (map (λ (x : ClosedRegion). x.region) xs.items ≡ range_with_len 1 script.regions))
    so_on o named found same disk broken None there ends = absurd (there refl)
    so_on o named found same disk broken (Some xs) there ends = (
      closed_on f s g l v o named told found script right fits same passes disk broken xs.items ends asks hs runs calls back,
      closed_throughout f s g l v o named told found script right fits same passes disk broken xs.items ends,
      (xs, refl, ends.numbers ∙ ap (range_with_len 1) fits.regions),
    )

    pub on : (o : OpenedStore D) → IsNamedBy f s g l v o → IsFoundSo f o → script.regions ≡ regions_of o → (e : ServerEnd D) → Some e.regions ≢ Some None → HasEnded f s g l v passes e
        → ClosedOn asks script (f.view (disk_found o)).files (f.view e.disk) s.name hs (map closed_at (items_of (Some e.regions))) e.broken
        × FitsThroughout (f.view (disk_found o)) (f.view e.disk) (map closed_at (items_of (Some e.regions)))
        × ((xs : Vec ClosedRegion) × (Some e.regions ≡ Some (Some xs)) × (map (λ (x : ClosedRegion). x.region) xs.items ≡ range_with_len 1 script.regions))
    on o named found same e there ends = so_on o named found same e.disk e.broken e.regions there ends

    pub on_at : {P : Type 0} (Q : OpenedStore D → P → Type 0) (o : Option (OpenedStore D)) (place : Option P) (e : Option (ServerEnd D)) → AtBoth Q o place → IsNamedAt f s g l v o → IfSome o (IsFoundSo f)
        → IfSome o (λ o. script.regions ≡ regions_of o) → option_map (λ e. e.regions) e ≢ Some None → HasEndedOf f s g l v place passes e → o ≢ None → (first : OpenedStore D) (d : D)
        → ClosedOn asks script (f.view (disk_found (or_that first o))).files (f.view (or_that d (option_map (λ e. e.disk) e))) s.name hs (map closed_at (items_of (option_map (λ e. e.regions) e))) (is_broken e)
        × FitsThroughout (f.view (disk_found (or_that first o))) (f.view (or_that d (option_map (λ e. e.disk) e))) (map closed_at (items_of (option_map (λ e. e.regions) e)))
        × ((xs : Vec ClosedRegion) × (option_map (λ e. e.regions) e ≡ Some (Some xs)) × (map (λ (x : ClosedRegion). x.region) xs.items ≡ range_with_len 1 script.regions))
    on_at Q None place e both named found same there ends is first d = absurd (is refl)
    on_at Q (Some o) None e both named found same there ends is first d = absurd both
    on_at Q (Some o) (Some p) None both named found same there ends is first d = absurd ends
    on_at Q (Some o) (Some p) (Some e) both named found same there ends is first d = on o named found same e there ends
