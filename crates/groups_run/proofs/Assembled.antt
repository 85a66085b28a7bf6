-- What the servers of all groups leave, put together.
use Rattle.std.proofs.Common.{◌≡◌, ◌≢◌, ◌⊎◌, ℕ, zero, suc, ◌≤◌, ◌||◌, Bool, true, false, List, [], ◌∷◌, map, Option, Some, None, IfSome, IsTrue, refl, sym, ap, subst, ◌∙◌, arith, inl, inr, option_map}
use Rattle.std.specs.List.{range_with_len}
use Rattle.std.specs.Global.{Vec}
use Rattle.disk_images.specs.declared.disk.Disk.{Ghosts}
use Rattle.disk_images.specs.Calls.{Rose}
use Rattle.disk_images.specs.Crash.{DiskView}
use Rattle.script_model.specs.Calls.{Script, asked, asked_by, IsScript}
use Rattle.server_model.specs.Pass.{Pass, Naming}
use Rattle.server_model.specs.Closing.{passes_of, replies_of}
use Rattle.run_model.specs.Closed.{ClosedOn, IsNameFor, FitsThroughout}
use Rattle.run_model.specs.Headline.{KeepsFound, KeepsThroughout}
use Rattle.group_calls.specs.log_service.log_halves.declared.name.ServiceNaming.{Ghosts as LogGhosts}
use Rattle.group_calls.specs.region_calls.declared.naming.ServerNaming.{Ghosts as NameGhosts}
use Rattle.group_calls.specs.region_calls.declared.store.OpenedStore.{OpenedStore}
use Rattle.group_calls.specs.region_calls.declared.closed.ClosedRegion.{ClosedRegion}
use Rattle.group_calls.specs.region_calls.Store.{disk_now, disk_found, regions_of}
use Rattle.group_calls.specs.region_lock.declared.naming.LockNaming.{Ghosts as LockGhosts}
use Rattle.region_versions.specs.declared.naming.VersionsNaming.{Ghosts as VersionGhosts}
use Rattle.groups_model.specs.Groups.{IsGroup, asked_on}
use Rattle.groups_model.specs.Closed.{GroupHandled, all_replies, handled_on, AreClosed}
use Rattle.groups_model.proofs.Parts.{calls_on, replies_joined}
use Rattle.group_calls.specs.group_servers.group_lists.declared.lists.GroupList.{GroupList}
use Rattle.group_calls.specs.group_servers.group_lists.Choosing.{AreChosen as AreChosenOf}
use Rattle.group_calls.specs.group_servers.group_lists.Lists.{AtEach, at_group, count_of, counted, mapped}
use Rattle.group_calls.specs.group_servers.declared.shutting.ServerEnd.{ServerEnd}
use Rattle.group_calls.specs.group_servers.Starting.{HasRegionsOf, IsNamedAt, IsNamedBy}
use Rattle.groups_run.specs.Closing.{is_broken, regions_in}
use Rattle.group_calls.specs.Passes.{named}
use Rattle.group_calls.specs.Servers.{Servers}
use Rattle.groups_run.specs.Ran.{AllThere}
use Rattle.groups_run.specs.Starting.{AreAlike, AreServersOf, HeldOrLetGo, HeldOrLetGoAt, IsAlike}
use Rattle.groups_run.specs.Ended.{HaveEnded, HasEndedOf, passes_on}
use Rattle.groups_run.specs.Ends.{HaveClosed, HaveCounts}
use Rattle.groups_run.specs.declared.served.GroupsServed.TheVariants as served
use Rattle.groups_run.proofs.Kept.{keeps_now}
use Rattle.groups_run.specs.Found.{AreFound, IsFoundSo, faults_now, found_views, or_that, value_of, views}
use Rattle.groups_run.specs.declared.started.RunEnd.{RunEnd}
use Rattle.groups_run.proofs.Chosen.{are_chosen, closes_in, items_of}
use Rattle.groups_run.proofs.Slots.{HasKept, both_there, each_count, ended, ended_at, held, held_at, on, on_at, refused, refused_at, rose, rose_at, there_two, there_three, there_four, value_each, value_if}

-- ---- one of four

none_of : (a b c d : Bool) → (a || b || c || d) ≡ false → (a ≡ false) × (b ≡ false) × (c ≡ false) × (d ≡ false)
none_of true b c d is = absurd (cc is)
none_of false true c d is = absurd (cc is)
none_of false false true d is = absurd (cc is)
none_of false false false true is = absurd (cc is)
none_of false false false false is = (refl, refl, refl, refl)

some_of : (a b c d : Bool) → (a || b || c || d) ≡ true → (a ≡ true) ⊎ ((b ≡ true) ⊎ ((c ≡ true) ⊎ (d ≡ true)))
some_of true b c d is = inl refl
some_of false true c d is = inr (inl refl)
some_of false false true d is = inr (inr (inl refl))
some_of false false false true is = inr (inr (inr refl))
some_of false false false false is = absurd (cc is)

-- the passes of one group's server are those of the handlers on it
passes_same : (groups k : ℕ) (hs : List GroupHandled) → passes_on k hs ≡ passes_of (map (handled_on groups k) hs)
passes_same groups k [] = refl
passes_same groups k (h ∷ hs) = ap (λ (l : List Pass). h.passes k ∷ l) (passes_same groups k hs)

-- at most four groups
at_most : {A : Type 0} (x y z : Option A) → counted x y z ≤ 4
at_most None y z = omega arith
at_most (Some x) None z = omega arith
at_most (Some x) (Some y) None = omega arith
at_most (Some x) (Some y) (Some z) = omega arith

at_least : {A : Type 0} (x y z : Option A) → 1 ≤ counted x y z
at_least None y z = omega arith
at_least (Some x) None z = omega arith
at_least (Some x) (Some y) None = omega arith
at_least (Some x) (Some y) (Some z) = omega arith

-- each found store, by its group's number
module _ {D : Type 0} (f : Ghosts D) (opened : GroupList (OpenedStore D)) where
  value_found : AreFound f opened → (k : ℕ) → IsFoundSo f (value_of opened k)
  value_found found zero = found.first
  value_found found (suc zero) = found.first
  value_found found (suc (suc zero)) = value_if (IsFoundSo f) opened.first opened.second found.first found.second
  value_found found (suc (suc (suc zero))) = value_if (IsFoundSo f) opened.first opened.third found.first found.third
  value_found found (suc (suc (suc (suc zero)))) = value_if (IsFoundSo f) opened.first opened.fourth found.first found.fourth
  value_found found (suc (suc (suc (suc (suc k))))) = found.first

  -- what is kept at each moment of each group's disk
  pub each_keeps : (disks : GroupList D) → AtEach (HasKept f) opened disks → IsTrue f.told → AreFound f opened → (k : ℕ) → KeepsThroughout (found_views f.view opened k) (views f.view disks k)
  each_keeps disks kept told found k = (value_each (HasKept f) opened disks kept k).keeps told (value_found found k)

  pub each_later : (disks : GroupList D) → AtEach (HasKept f) opened disks → (k : ℕ) → f.faults (disk_now (value_of opened k)) ≤ f.faults (value_of disks k)
  each_later disks kept k = (value_each (HasKept f) opened disks kept k).later

  pub as_many : (disks : GroupList D) → AtEach (HasKept f) opened disks → count_of disks ≡ count_of opened
  as_many disks kept = each_count (HasKept f) opened disks kept

  -- of servers that were not closed
  pub left_found : (disks : GroupList D) → AtEach (HasKept f) opened disks → IsTrue f.told → AreFound f opened → (k : ℕ) → KeepsFound (found_views f.view opened k) (views f.view disks k)
  left_found disks kept told found k = keeps_now (found_views f.view opened k) (views f.view disks k) (each_keeps disks kept told found k)

  pub left_counts : (disks : GroupList D) → AtEach (HasKept f) opened disks → HaveCounts f.faults opened (served.Left disks)
  left_counts disks kept = record { later = each_later disks kept; cause = λ is. absurd (cc is) }

  -- each group has a server
  pub all_there : (s : Servers) → AreServersOf opened s → AllThere s
  all_there s are = record {
    some = ((let least = at_least opened.second opened.third opened.fourth in omega (arith, least, are.count)), (let most = at_most opened.second opened.third opened.fourth in omega (arith, most, are.count)));
    second = λ low. both_there HasRegionsOf opened.second s.second are.second (there_two opened.second opened.third opened.fourth (omega (arith, low, are.count)));
    third = λ low. both_there HasRegionsOf opened.third s.third are.third (there_three opened.second opened.third opened.fourth (omega (arith, low, are.count)));
    fourth = λ low. both_there HasRegionsOf opened.fourth s.fourth are.fourth (there_four opened.second opened.third opened.fourth (omega (arith, low, are.count)));
  }

  -- no store was named yet
  pub all_held : AtEach (HasKept f) opened (mapped disk_now opened)
  all_held = record {
    first = held f opened.first (disk_now opened.first) refl;
    second = held_at f opened.second (option_map disk_now opened.second) refl;
    third = held_at f opened.third (option_map disk_now opened.third) refl;
    fourth = held_at f opened.fourth (option_map disk_now opened.fourth) refl;
  }

  -- the stores are for the first one's regions
  pub same_at : (n : ℕ) (o : Option (OpenedStore D)) → n ≡ regions_of opened.first → IfSome o (IsAlike opened.first) → IfSome o (λ o. n ≡ regions_of o)
  same_at n None same alike = tt
  same_at n (Some o) same alike = same ∙ sym alike.0

module _ {D N1 N2 N3 N4 : Type 0} (f : Ghosts D) (s1 : NameGhosts N1) (g1 : LockGhosts N1) (l1 : LogGhosts N1) (v1 : VersionGhosts N1)
    (s2 : NameGhosts N2) (g2 : LockGhosts N2) (l2 : LogGhosts N2) (v2 : VersionGhosts N2)
    (s3 : NameGhosts N3) (g3 : LockGhosts N3) (l3 : LogGhosts N3) (v3 : VersionGhosts N3)
    (s4 : NameGhosts N4) (g4 : LockGhosts N4) (l4 : LogGhosts N4) (v4 : VersionGhosts N4)
    (opened : GroupList (OpenedStore D)) (alike : AreAlike opened) (script : Script) (same : script.regions ≡ regions_of opened.first)
    (n1 : IsNamedBy f s1 g1 l1 v1 opened.first) (n2 : IsNamedAt f s2 g2 l2 v2 opened.second) (n3 : IsNamedAt f s3 g3 l3 v3 opened.third) (n4 : IsNamedAt f s4 g4 l4 v4 opened.fourth)
    (fits : (k : ℕ) → IsNameFor script (named s1.name s2.name s3.name s4.name k)) where
  -- where a start was refused
  pub all_refused : (n : ℕ) (disks : GroupList D) → HeldOrLetGo f s1 g1 l1 v1 1 n opened.first disks.first → HeldOrLetGoAt f s2 g2 l2 v2 2 n opened.second disks.second
      → HeldOrLetGoAt f s3 g3 l3 v3 3 n opened.third disks.third → HeldOrLetGoAt f s4 g4 l4 v4 4 n opened.fourth disks.fourth → AtEach (HasKept f) opened disks
  all_refused n disks a b c d = record {
    first = refused f s1 g1 l1 v1 1 n opened.first n1 ((fits 1).regions ∙ same) disks.first a;
    second = refused_at f s2 g2 l2 v2 2 n opened.second n2 (same_at f opened s2.name.regions opened.second ((fits 2).regions ∙ same) alike.second) disks.second b;
    third = refused_at f s3 g3 l3 v3 3 n opened.third n3 (same_at f opened s3.name.regions opened.third ((fits 3).regions ∙ same) alike.third) disks.third c;
    fourth = refused_at f s4 g4 l4 v4 4 n opened.fourth n4 (same_at f opened s4.name.regions opened.fourth ((fits 4).regions ∙ same) alike.fourth) disks.fourth d;
  }

  module _ (s : Servers) (are : AreServersOf opened s) (end : RunEnd D)
      (h : HaveEnded f s1 g1 l1 v1 s2 g2 l2 v2 s3 g3 l3 v3 s4 g4 l4 v4 s (named s1.name s2.name s3.name s4.name) script end) where
    ends_kept : AtEach (HasKept f) opened (mapped (λ e. e.disk) h.ends)
    ends_kept = record {
      first = ended f s1 g1 l1 v1 opened.first n1 ((fits 1).regions ∙ same) (passes_on 1 h.handlers) h.ends.first h.first;
      second = ended_at f s2 g2 l2 v2 HasRegionsOf opened.second s.second h.ends.second are.second n2 (same_at f opened s2.name.regions opened.second ((fits 2).regions ∙ same) alike.second) (passes_on 2 h.handlers) h.second;
      third = ended_at f s3 g3 l3 v3 HasRegionsOf opened.third s.third h.ends.third are.third n3 (same_at f opened s3.name.regions opened.third ((fits 3).regions ∙ same) alike.third) (passes_on 3 h.handlers) h.third;
      fourth = ended_at f s4 g4 l4 v4 HasRegionsOf opened.fourth s.fourth h.ends.fourth are.fourth n4 (same_at f opened s4.name.regions opened.fourth ((fits 4).regions ∙ same) alike.fourth) (passes_on 4 h.handlers) h.fourth;
    }

    -- of the disks that the servers gave
    pub all_ended : AtEach (HasKept f) opened end.closed.disks
    all_ended = subst (AtEach (HasKept f) opened) (sym h.joined.disks) ends_kept

    -- a group's log is broken only where its own disk's count of faults rose
    broke_at : (k : ℕ) → is_broken (at_group h.ends k) ≡ true
        → (at_group opened k ≢ None) × Rose (f.faults (disk_now (value_of opened k))) (f.faults (value_of (mapped (λ e. e.disk) h.ends) k))
    broke_at zero is = absurd (cc is)
    broke_at (suc zero) is = ((λ x. absurd (cc x)), rose f s1 g1 l1 v1 opened.first n1 (passes_on 1 h.handlers) h.ends.first h.first is)
    broke_at (suc (suc zero)) is = rose_at f s2 g2 l2 v2 HasRegionsOf opened.second s.second h.ends.second are.second n2 (passes_on 2 h.handlers) h.second is opened.first h.ends.first.disk
    broke_at (suc (suc (suc zero))) is = rose_at f s3 g3 l3 v3 HasRegionsOf opened.third s.third h.ends.third are.third n3 (passes_on 3 h.handlers) h.third is opened.first h.ends.first.disk
    broke_at (suc (suc (suc (suc zero)))) is = rose_at f s4 g4 l4 v4 HasRegionsOf opened.fourth s.fourth h.ends.fourth are.fourth n4 (passes_on 4 h.handlers) h.fourth is opened.first h.ends.first.disk
    broke_at (suc (suc (suc (suc (suc k))))) is = absurd (cc is)

    -- a broken log has its cause
    rose_of : (h.ends.first.broken ≡ true) ⊎ ((is_broken h.ends.second ≡ true) ⊎ ((is_broken h.ends.third ≡ true) ⊎ (is_broken h.ends.fourth ≡ true)))
        → (k : ℕ) × (at_group opened k ≢ None) × Rose (f.faults (disk_now (value_of opened k))) (f.faults (value_of (mapped (λ e. e.disk) h.ends) k))
    rose_of (inl is) = let b = broke_at 1 is in (1, b.0, b.1)
    rose_of (inr (inl is)) = let b = broke_at 2 is in (2, b.0, b.1)
    rose_of (inr (inr (inl is))) = let b = broke_at 3 is in (3, b.0, b.1)
    rose_of (inr (inr (inr is))) = let b = broke_at 4 is in (4, b.0, b.1)

    pub cause : end.closed.broken ≡ true → (k : ℕ) × (at_group opened k ≢ None) × Rose (f.faults (disk_now (value_of opened k))) (f.faults (value_of end.closed.disks k))
    cause is = subst (λ (ds : GroupList D). (k : ℕ) × (at_group opened k ≢ None) × Rose (f.faults (disk_now (value_of opened k))) (f.faults (value_of ds k))) (sym h.joined.disks)
        (rose_of (some_of h.ends.first.broken (is_broken h.ends.second) (is_broken h.ends.third) (is_broken h.ends.fourth) (sym h.joined.broken ∙ is)))

    chosen_all : (chosen : Vec ClosedRegion) → end.closed.regions ≡ Some chosen → AreChosenOf s.count (regions_in h.ends) chosen.items
    chosen_all chosen is = subst (λ (o : Option (Vec ClosedRegion)). IfSome o (λ c. AreChosenOf s.count (regions_in h.ends) c.items)) is h.joined.regions

    module _ (told : IsTrue f.told) (found : AreFound f opened) (right : IsScript script) (there : (k : ℕ) → at_group (regions_in h.ends) k ≢ Some None) where
      abbrev names : ℕ → Naming
      names = named s1.name s2.name s3.name s4.name

      abbrev IsOn : ℕ → Type 0
      IsOn k =
          ClosedOn (asked_on s.count k (asked script)) script (found_views f.view opened k).files (views f.view (mapped (λ e. e.disk) h.ends) k) (named s1.name s2.name s3.name s4.name k)
          (map (handled_on s.count k) h.handlers) (closes_in (regions_in h.ends) k) (is_broken (at_group h.ends k))
          × FitsThroughout (found_views f.view opened k) (views f.view (mapped (λ e. e.disk) h.ends) k) (closes_in (regions_in h.ends) k)
          × ((xs : Vec ClosedRegion) × (at_group (regions_in h.ends) k ≡ Some (Some xs)) × (map (λ (x : ClosedRegion). x.region) xs.items ≡ range_with_len 1 script.regions))

      calls_at : (k : ℕ) → map asked_by (replies_of (map (handled_on s.count k) h.handlers)) ≡ asked_on s.count k (asked script)
      calls_at k = ap (map asked_by) (replies_joined s.count k h.handlers) ∙ calls_on s.count k (all_replies h.handlers) ∙ ap (asked_on s.count k) h.handled.calls

      each_on : (k : ℕ) → IsGroup s.count k → IsOn k
      each_on zero is = absurd (omega (arith, is.0))
      each_on (suc zero) is = on f s1 g1 l1 v1 told script right (fits 1) (asked_on s.count 1 (asked script)) (map (handled_on s.count 1) h.handlers) (h.handled.runs 1 is) (calls_at 1)
          (passes_on 1 h.handlers) (passes_same s.count 1 h.handlers) opened.first n1 found.first same h.ends.first (there 1) h.first
      each_on (suc (suc zero)) is = on_at f s2 g2 l2 v2 told script right (fits 2) (asked_on s.count 2 (asked script)) (map (handled_on s.count 2) h.handlers) (h.handled.runs 2 is) (calls_at 2)
          (passes_on 2 h.handlers) (passes_same s.count 2 h.handlers) HasRegionsOf opened.second s.second h.ends.second are.second n2 found.second (same_at f opened script.regions opened.second same alike.second) (there 2) h.second
          (there_two opened.second opened.third opened.fourth (omega (arith, is.1, are.count))) opened.first h.ends.first.disk
      each_on (suc (suc (suc zero))) is = on_at f s3 g3 l3 v3 told script right (fits 3) (asked_on s.count 3 (asked script)) (map (handled_on s.count 3) h.handlers) (h.handled.runs 3 is) (calls_at 3)
          (passes_on 3 h.handlers) (passes_same s.count 3 h.handlers) HasRegionsOf opened.third s.third h.ends.third are.third n3 found.third (same_at f opened script.regions opened.third same alike.third) (there 3) h.third
          (there_three opened.second opened.third opened.fourth (omega (arith, is.1, are.count))) opened.first h.ends.first.disk
      each_on (suc (suc (suc (suc zero)))) is = on_at f s4 g4 l4 v4 told script right (fits 4) (asked_on s.count 4 (asked script)) (map (handled_on s.count 4) h.handlers) (h.handled.runs 4 is) (calls_at 4)
          (passes_on 4 h.handlers) (passes_same s.count 4 h.handlers) HasRegionsOf opened.fourth s.fourth h.ends.fourth are.fourth n4 found.fourth (same_at f opened script.regions opened.fourth same alike.fourth) (there 4) h.fourth
          (there_four opened.second opened.third opened.fourth (omega (arith, is.1, are.count))) opened.first h.ends.first.disk
      each_on (suc (suc (suc (suc (suc k))))) is = absurd (let most = at_most opened.second opened.third opened.fourth in omega (arith, is.1, are.count, most))

      none_broken : (k : ℕ) → end.closed.broken ≡ false → is_broken (at_group h.ends k) ≡ false
      none_broken k is =
          let none = none_of h.ends.first.broken (is_broken h.ends.second) (is_broken h.ends.third) (is_broken h.ends.fourth) (sym h.joined.broken ∙ is) in
          none_at none.0 none.1 none.2 none.3 k
        where
          none_at : h.ends.first.broken ≡ false → is_broken h.ends.second ≡ false → is_broken h.ends.third ≡ false → is_broken h.ends.fourth ≡ false → (k : ℕ) → is_broken (at_group h.ends k) ≡ false
          none_at a b c d zero = refl
          none_at a b c d (suc zero) = a
          none_at a b c d (suc (suc zero)) = b
          none_at a b c d (suc (suc (suc zero))) = c
          none_at a b c d (suc (suc (suc (suc zero)))) = d
          none_at a b c d (suc (suc (suc (suc (suc k))))) = refl

      are_closed : AreClosed s.count script (found_views f.view opened) (views f.view (mapped (λ e. e.disk) h.ends)) names h.handlers (closes_in (regions_in h.ends)) (λ k. is_broken (at_group h.ends k))
      are_closed = record { calls = h.handled.calls; each = λ k is. (each_on k is).0; moments = λ k is. (each_on k is).1 }

      have_closed : (chosen : Vec ClosedRegion) → end.closed.regions ≡ Some chosen
          → HaveClosed s.count script (found_views f.view opened) (views f.view end.closed.disks) (λ k. Rose (faults_now f.faults opened k) (f.faults (value_of end.closed.disks k)))
          chosen.items end.replies.items end.spent end.closed.broken
      have_closed chosen is =
          subst (λ (ds : GroupList D). HaveClosed s.count script (found_views f.view opened) (views f.view ds) (λ k. Rose (faults_now f.faults opened k) (f.faults (value_of ds k)))
          chosen.items end.replies.items end.spent end.closed.broken) (sym h.joined.disks)
          record {
            names = names;
            handlers = h.handlers;
            closes = closes_in (regions_in h.ends);
            breaks = λ k. is_broken (at_group h.ends k);
            closed = are_closed;
            causes = λ k is broke. (broke_at k broke).1;
            chosen = are_chosen s.count script (regions_in h.ends) chosen.items some (chosen_all chosen is) (λ k is. (each_on k is).2);
            lines = h.lines;
            first_told = h.first_told;
            none_broken = λ e k is. none_broken k e;
          }
        where
          some : 1 ≤ s.count
          some = let least = at_least opened.second opened.third opened.fourth in omega (arith, least, are.count)

    -- all servers were closed
    pub closed_all : IsTrue f.told → AreFound f opened → IsScript script → (chosen : Vec ClosedRegion) → end.closed.regions ≡ Some chosen
        → HaveClosed s.count script (found_views f.view opened) (views f.view end.closed.disks) (λ k. Rose (faults_now f.faults opened k) (f.faults (value_of end.closed.disks k)))
        chosen.items end.replies.items end.spent end.closed.broken
    closed_all told found right chosen is = have_closed told found right (chosen_all chosen is).there chosen is
