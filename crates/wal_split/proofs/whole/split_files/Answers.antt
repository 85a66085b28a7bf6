use Rattle.std.proofs.Common.{◌≡◌, ℕ, IsTrue, List, Contains, None, length, sym, ap, subst}
use Rattle.log_model.specs.declared.name.Name.{Name}
use Rattle.log_model.specs.Entry.{Entry}
use Rattle.log_model.specs.Files.{IsAbsent, content}
use Rattle.disk_images.proofs.Moments.{at_once}
use Rattle.recovery_laws.specs.Change.{HasText}
use Rattle.recovery_laws.specs.Alike.{AllAlike}
use Rattle.found_files.specs.declared.found.FoundStore.{FoundStore}
use Rattle.found_files.proofs.Causes.{same_cause, no_error}
use Rattle.wal_split.specs.declared.job.EditsJob.{EditsJob}
use Rattle.wal_split.specs.declared.split_files.SplitFiles.{SplitFiles}
use Rattle.wal_split.specs.Held.{IsHeld}
use Rattle.wal_split.specs.Jobs.{AreJobs, AreFreeNames, IsNoJob}
use Rattle.wal_split.specs.Logs.{AreFree, AreRising, IsOther, log_name}
use Rattle.wal_split.specs.Planned.{IsPlan}
use Rattle.wal_split.proofs.Handing.{of_files, handed}
use Rattle.wal_split.proofs.Holding.{settled_held}
use Rattle.wal_split.proofs.Plans.{numbers_low, regions_low, are_jobs, are_free_names, are_free, are_rising, counted, no_log_left, olds_left, small_left, given_left, held_here}
use Rattle.wal_split.proofs.AfterSplit.{in_range, are_left, edits_copied, one_higher}
use Rattle.wal_split.proofs.whole.split_files.Goals as goal

pub plan_split-requires-clause-numbers : goal.plan_split-requires-clause-numbers
plan_split-requires-clause-numbers g c m has =
    let found = c.args.found in
    numbers_low (IsTrue g.D.Disk.told) (g.D.Disk.view c.args.disk.now).files found.names found.files.entries.items found.files.stores.items c.requires.read m (subst (λ (l : List Name). Contains l m) c.as_slice.ensures has)

pub plan_split-requires-clause-regions : goal.plan_split-requires-clause-regions
plan_split-requires-clause-regions g c x has =
    let found = c.args.found in
    regions_low (IsTrue g.D.Disk.told) (g.D.Disk.view c.args.disk.now).files found.names found.files.entries.items found.files.stores.items c.requires.read x (c.in_ok-stores.ensures.each x (subst (λ (l : List FoundStore). Contains l x) c.deref.ensures.value has)).0

pub counting_stores-requires : goal.counting_stores-requires
counting_stores-requires g c = record {
  regions = λ x has.
      let found = c.args.found in
      regions_low (IsTrue g.D.Disk.told) (g.D.Disk.view c.args.disk.now).files found.names found.files.entries.items found.files.stores.items c.requires.read x has;
}

pub returns-in_err-stores-clause-any_moment : goal.returns-in_err-stores-clause-any_moment
returns-in_err-stores-clause-any_moment g c told =
    let u = g.D.Disk.view c.args.disk.now in
    (0, at_once (AllAlike u.files) u (settled_held u (c.requires.settled told) (c.requires.fit told)).alike)

pub returns-in_err-plan-clause-any_moment : goal.returns-in_err-plan-clause-any_moment
returns-in_err-plan-clause-any_moment g c told =
    let u = g.D.Disk.view c.args.disk.now in
    (0, at_once (AllAlike u.files) u (settled_held u (c.requires.settled told) (c.requires.fit told)).alike)

pub split_found-requires-clause-jobs : goal.split_found-requires-clause-jobs
split_found-requires-clause-jobs g c =
    let found = c.args.found in
    let xs = found.files.entries.items in
    let every = found.files.stores.items in
    let ss = c.in_ok-stores.stores.items in
    let counts = c.in_ok-stores.ensures in
    let p = c.in_ok-plan.plan in
    subst (λ (l : List EditsJob). AreJobs l) (sym (c.deref-2.ensures.value)) (are_jobs c.as_slice.result.now xs ss p (subst (λ (l : List FoundStore). IsPlan c.as_slice.result.now xs l p) c.deref.ensures.value c.in_ok-plan.ensures))

pub split_found-requires-clause-free : goal.split_found-requires-clause-free
split_found-requires-clause-free g c told =
    let u = g.D.Disk.view c.args.disk.now in
    let found = c.args.found in
    let xs = found.files.entries.items in
    let every = found.files.stores.items in
    let ss = c.in_ok-stores.stores.items in
    let counts = c.in_ok-stores.ensures in
    let p = c.in_ok-plan.plan in
    let both = of_files (IsTrue g.D.Disk.told) u.files found.names c.as_slice.result.now xs every ss c.deref.result.now p (c.requires.names told) c.as_slice.ensures c.deref.ensures.value c.requires.read c.in_ok-plan.ensures in
    let true_disk = g.met.D.Disk.is_true c.args.disk.now told in
    subst (λ (l : List EditsJob). AreFreeNames u l) (sym (c.deref-2.ensures.value)) (are_free_names (IsTrue g.D.Disk.told) told u true_disk (c.requires.settled told) xs every ss p both.0 counts both.1)

pub split_found-requires-clause-logs : goal.split_found-requires-clause-logs
split_found-requires-clause-logs g c told =
    let u = g.D.Disk.view c.args.disk.now in
    let found = c.args.found in
    let xs = found.files.entries.items in
    let every = found.files.stores.items in
    let ss = c.in_ok-stores.stores.items in
    let counts = c.in_ok-stores.ensures in
    let p = c.in_ok-plan.plan in
    let both = of_files (IsTrue g.D.Disk.told) u.files found.names c.as_slice.result.now xs every ss c.deref.result.now p (c.requires.names told) c.as_slice.ensures c.deref.ensures.value c.requires.read c.in_ok-plan.ensures in
    let true_disk = g.met.D.Disk.is_true c.args.disk.now told in
    ∣ subst (λ (l : List ℕ). AreFree u l) (sym (c.deref-3.ensures.value)) (are_free (IsTrue g.D.Disk.told) told u true_disk (c.requires.settled told) xs every ss p both.0 counts both.1) ∣₁

pub split_found-requires-clause-rising : goal.split_found-requires-clause-rising
split_found-requires-clause-rising g c told =
    let u = g.D.Disk.view c.args.disk.now in
    let found = c.args.found in
    let xs = found.files.entries.items in
    let every = found.files.stores.items in
    let ss = c.in_ok-stores.stores.items in
    let counts = c.in_ok-stores.ensures in
    let p = c.in_ok-plan.plan in
    let both = of_files (IsTrue g.D.Disk.told) u.files found.names c.as_slice.result.now xs every ss c.deref.result.now p (c.requires.names told) c.as_slice.ensures c.deref.ensures.value c.requires.read c.in_ok-plan.ensures in
    let true_disk = g.met.D.Disk.is_true c.args.disk.now told in
    subst (λ (l : List ℕ). AreRising l) (sym (c.deref-3.ensures.value)) (are_rising (IsTrue g.D.Disk.told) told u true_disk (c.requires.settled told) xs every ss p both.0 counts both.1)

pub returns-in-Ok-clause-any_moment : goal.returns-in-Ok-clause-any_moment
returns-in-Ok-clause-any_moment g c told =
    let u = g.D.Disk.view c.args.disk.now in
    let found = c.args.found in
    let xs = found.files.entries.items in
    let every = found.files.stores.items in
    let ss = c.in_ok-stores.stores.items in
    let counts = c.in_ok-stores.ensures in
    let p = c.in_ok-plan.plan in
    let both = of_files (IsTrue g.D.Disk.told) u.files found.names c.as_slice.result.now xs every ss c.deref.result.now p (c.requires.names told) c.as_slice.ensures c.deref.ensures.value c.requires.read c.in_ok-plan.ensures in
    let true_disk = g.met.D.Disk.is_true c.args.disk.now told in
    let held : IsHeld u.files u = settled_held u (c.requires.settled told) (c.requires.fit told) in
    let given = handed (IsTrue g.D.Disk.told) told u true_disk (c.requires.settled told) xs every ss p both.0 counts both.1 c.deref-2.result.now c.deref-3.result.now c.deref-2.ensures.value c.deref-3.ensures.value in
    c.split_found.ensures.any_moment told u.files held given.0 given.1

pub returns-in-Err-Memory-clause-any_moment : goal.returns-in-Err-Memory-clause-any_moment
returns-in-Err-Memory-clause-any_moment g c told =
    let u = g.D.Disk.view c.args.disk.now in
    let found = c.args.found in
    let xs = found.files.entries.items in
    let every = found.files.stores.items in
    let ss = c.in_ok-stores.stores.items in
    let counts = c.in_ok-stores.ensures in
    let p = c.in_ok-plan.plan in
    let both = of_files (IsTrue g.D.Disk.told) u.files found.names c.as_slice.result.now xs every ss c.deref.result.now p (c.requires.names told) c.as_slice.ensures c.deref.ensures.value c.requires.read c.in_ok-plan.ensures in
    let true_disk = g.met.D.Disk.is_true c.args.disk.now told in
    let held : IsHeld u.files u = settled_held u (c.requires.settled told) (c.requires.fit told) in
    let given = handed (IsTrue g.D.Disk.told) told u true_disk (c.requires.settled told) xs every ss p both.0 counts both.1 c.deref-2.result.now c.deref-3.result.now c.deref-2.ensures.value c.deref-3.ensures.value in
    c.split_found.ensures.any_moment told u.files held given.0 given.1

pub returns-clause-any_moment : goal.returns-clause-any_moment
returns-clause-any_moment g c told =
    let u = g.D.Disk.view c.args.disk.now in
    let found = c.args.found in
    let xs = found.files.entries.items in
    let every = found.files.stores.items in
    let ss = c.in_ok-stores.stores.items in
    let counts = c.in_ok-stores.ensures in
    let p = c.in_ok-plan.plan in
    let both = of_files (IsTrue g.D.Disk.told) u.files found.names c.as_slice.result.now xs every ss c.deref.result.now p (c.requires.names told) c.as_slice.ensures c.deref.ensures.value c.requires.read c.in_ok-plan.ensures in
    let true_disk = g.met.D.Disk.is_true c.args.disk.now told in
    let held : IsHeld u.files u = settled_held u (c.requires.settled told) (c.requires.fit told) in
    let given = handed (IsTrue g.D.Disk.told) told u true_disk (c.requires.settled told) xs every ss p both.0 counts both.1 c.deref-2.result.now c.deref-3.result.now c.deref-2.ensures.value c.deref-3.ensures.value in
    c.split_found.ensures.any_moment told u.files held given.0 given.1

pub returns-in-Ok-clause-split : goal.returns-in-Ok-clause-split
returns-in-Ok-clause-split g c told =
    let u = g.D.Disk.view c.args.disk.now in
    let found = c.args.found in
    let xs = found.files.entries.items in
    let every = found.files.stores.items in
    let ss = c.in_ok-stores.stores.items in
    let counts = c.in_ok-stores.ensures in
    let p = c.in_ok-plan.plan in
    let both = of_files (IsTrue g.D.Disk.told) u.files found.names c.as_slice.result.now xs every ss c.deref.result.now p (c.requires.names told) c.as_slice.ensures c.deref.ensures.value c.requires.read c.in_ok-plan.ensures in
    let true_disk = g.met.D.Disk.is_true c.args.disk.now told in
    let w = g.D.Disk.view c.split_found.new.disk in
    let js : c.deref-2.result.now ≡ p.jobs.items = c.deref-2.ensures.value in
    let ls : c.deref-3.result.now ≡ p.logs.items = c.deref-3.ensures.value in
    let held : IsHeld u.files u = settled_held u (c.requires.settled told) (c.requires.fit told) in
    let given = handed (IsTrue g.D.Disk.told) told u true_disk (c.requires.settled told) xs every ss p both.0 counts both.1 c.deref-2.result.now c.deref-3.result.now c.deref-2.ensures.value c.deref-3.ensures.value in
    let others : (m : Name) → IsNoJob p.jobs.items m → IsOther p.logs.items m → content w.files m ≡ content u.files m =
    λ m no_job other. c.in-Ok.ensures.others told m (λ j has. no_job j (subst (λ (l : List EditsJob). Contains l j) js has)) (λ n has. other n (subst (λ (l : List ℕ). Contains l n) ls has)) in
    let gone : (n : ℕ) → Contains p.logs.items n → IsAbsent w.files (log_name n) = λ n has. c.in-Ok.ensures.gone told n (subst (λ (l : List ℕ). Contains l n) (sym ls) has) in
    record {
      held = held_here u.files w (g.met.D.Disk.is_true c.split_found.new.disk told) (c.in-Ok.ensures.held told u.files held given.0 given.1);
      no_logs = no_log_left (IsTrue g.D.Disk.told) told u true_disk (c.requires.settled told) xs every ss p both.0 counts both.1 w others gone;
      small = small_left (IsTrue g.D.Disk.told) told u true_disk (c.requires.settled told) xs every ss p both.0 counts both.1 w others gone;
      given = given_left (IsTrue g.D.Disk.told) told u true_disk (c.requires.settled told) xs every ss p both.0 counts both.1 w others gone;
    }

pub returns-in-Ok-clause-alike : goal.returns-in-Ok-clause-alike
returns-in-Ok-clause-alike g c told =
    let u = g.D.Disk.view c.args.disk.now in
    let found = c.args.found in
    let xs = found.files.entries.items in
    let every = found.files.stores.items in
    let ss = c.in_ok-stores.stores.items in
    let counts = c.in_ok-stores.ensures in
    let p = c.in_ok-plan.plan in
    let both = of_files (IsTrue g.D.Disk.told) u.files found.names c.as_slice.result.now xs every ss c.deref.result.now p (c.requires.names told) c.as_slice.ensures c.deref.ensures.value c.requires.read c.in_ok-plan.ensures in
    let true_disk = g.met.D.Disk.is_true c.args.disk.now told in
    let w = g.D.Disk.view c.split_found.new.disk in
    let held : IsHeld u.files u = settled_held u (c.requires.settled told) (c.requires.fit told) in
    let given = handed (IsTrue g.D.Disk.told) told u true_disk (c.requires.settled told) xs every ss p both.0 counts both.1 c.deref-2.result.now c.deref-3.result.now c.deref-2.ensures.value c.deref-3.ensures.value in
    (c.in-Ok.ensures.held told u.files held given.0 given.1).alike w.files (g.met.D.Disk.is_true c.split_found.new.disk told).reads

pub returns-in-Ok-clause-olds : goal.returns-in-Ok-clause-olds
returns-in-Ok-clause-olds g c told =
    let u = g.D.Disk.view c.args.disk.now in
    let found = c.args.found in
    let xs = found.files.entries.items in
    let every = found.files.stores.items in
    let ss = c.in_ok-stores.stores.items in
    let counts = c.in_ok-stores.ensures in
    let p = c.in_ok-plan.plan in
    let both = of_files (IsTrue g.D.Disk.told) u.files found.names c.as_slice.result.now xs every ss c.deref.result.now p (c.requires.names told) c.as_slice.ensures c.deref.ensures.value c.requires.read c.in_ok-plan.ensures in
    let true_disk = g.met.D.Disk.is_true c.args.disk.now told in
    let w = g.D.Disk.view c.split_found.new.disk in
    let js : c.deref-2.result.now ≡ p.jobs.items = c.deref-2.ensures.value in
    let ls : c.deref-3.result.now ≡ p.logs.items = c.deref-3.ensures.value in
    let others : (m : Name) → IsNoJob p.jobs.items m → IsOther p.logs.items m → content w.files m ≡ content u.files m =
    λ m no_job other. c.in-Ok.ensures.others told m (λ j has. no_job j (subst (λ (l : List EditsJob). Contains l j) js has)) (λ n has. other n (subst (λ (l : List ℕ). Contains l n) ls has)) in
    let gone : (n : ℕ) → Contains p.logs.items n → IsAbsent w.files (log_name n) = λ n has. c.in-Ok.ensures.gone told n (subst (λ (l : List ℕ). Contains l n) (sym ls) has) in
    olds_left (IsTrue g.D.Disk.told) told u true_disk (c.requires.settled told) xs every ss p both.0 counts both.1 w others gone (λ n has. c.in-Ok.ensures.moved told n (subst (λ (l : List ℕ). Contains l n) (sym ls) has))

pub returns-in-Ok-clause-counts : goal.returns-in-Ok-clause-counts
returns-in-Ok-clause-counts g c told =
    let u = g.D.Disk.view c.args.disk.now in
    let found = c.args.found in
    let xs = found.files.entries.items in
    let every = found.files.stores.items in
    let ss = c.in_ok-stores.stores.items in
    let counts = c.in_ok-stores.ensures in
    let p = c.in_ok-plan.plan in
    let both = of_files (IsTrue g.D.Disk.told) u.files found.names c.as_slice.result.now xs every ss c.deref.result.now p (c.requires.names told) c.as_slice.ensures c.deref.ensures.value c.requires.read c.in_ok-plan.ensures in
    let true_disk = g.met.D.Disk.is_true c.args.disk.now told in
    record { logs = ap length both.1.logs; entries = counted (IsTrue g.D.Disk.told) told u true_disk (c.requires.settled told) xs every ss p both.0 counts both.1 }

pub returns-in-Ok-clause-edits : goal.returns-in-Ok-clause-edits
returns-in-Ok-clause-edits g c told =
    let u = g.D.Disk.view c.args.disk.now in
    let found = c.args.found in
    let xs = found.files.entries.items in
    let every = found.files.stores.items in
    let ss = c.in_ok-stores.stores.items in
    let counts = c.in_ok-stores.ensures in
    let p = c.in_ok-plan.plan in
    let both = of_files (IsTrue g.D.Disk.told) u.files found.names c.as_slice.result.now xs every ss c.deref.result.now p (c.requires.names told) c.as_slice.ensures c.deref.ensures.value c.requires.read c.in_ok-plan.ensures in
    let true_disk = g.met.D.Disk.is_true c.args.disk.now told in
    let w = g.D.Disk.view c.split_found.new.disk in
    let js : c.deref-2.result.now ≡ p.jobs.items = c.deref-2.ensures.value in
    let ls : c.deref-3.result.now ≡ p.logs.items = c.deref-3.ensures.value in
    let others : (m : Name) → IsNoJob p.jobs.items m → IsOther p.logs.items m → content w.files m ≡ content u.files m =
    λ m no_job other. c.in-Ok.ensures.others told m (λ j has. no_job j (subst (λ (l : List EditsJob). Contains l j) js has)) (λ n has. other n (subst (λ (l : List ℕ). Contains l n) ls has)) in
    let gone : (n : ℕ) → Contains p.logs.items n → IsAbsent w.files (log_name n) = λ n has. c.in-Ok.ensures.gone told n (subst (λ (l : List ℕ). Contains l n) (sym ls) has) in
    let written : (j : EditsJob) (e : Entry) → Contains p.jobs.items j → Contains j.entries.items e → HasText j.name j.entries.items None (content w.files j.name) =
    λ j e has member. c.in-Ok.ensures.written told j e (subst (λ (l : List EditsJob). Contains l j) (sym js) has) member in
    let x : SplitFiles = record { names = found.names; stores = c.in_ok-stores.stores; plan = p } in
    edits_copied (IsTrue g.D.Disk.told) told u true_disk (c.requires.settled told) x xs every both.0 counts both.1 (c.requires.names told) w others gone written

pub returns-in-Ok-clause-left : goal.returns-in-Ok-clause-left
returns-in-Ok-clause-left g c told =
    let u = g.D.Disk.view c.args.disk.now in
    let found = c.args.found in
    let xs = found.files.entries.items in
    let every = found.files.stores.items in
    let ss = c.in_ok-stores.stores.items in
    let counts = c.in_ok-stores.ensures in
    let p = c.in_ok-plan.plan in
    let both = of_files (IsTrue g.D.Disk.told) u.files found.names c.as_slice.result.now xs every ss c.deref.result.now p (c.requires.names told) c.as_slice.ensures c.deref.ensures.value c.requires.read c.in_ok-plan.ensures in
    let true_disk = g.met.D.Disk.is_true c.args.disk.now told in
    let w = g.D.Disk.view c.split_found.new.disk in
    let js : c.deref-2.result.now ≡ p.jobs.items = c.deref-2.ensures.value in
    let ls : c.deref-3.result.now ≡ p.logs.items = c.deref-3.ensures.value in
    let others : (m : Name) → IsNoJob p.jobs.items m → IsOther p.logs.items m → content w.files m ≡ content u.files m =
    λ m no_job other. c.in-Ok.ensures.others told m (λ j has. no_job j (subst (λ (l : List EditsJob). Contains l j) js has)) (λ n has. other n (subst (λ (l : List ℕ). Contains l n) ls has)) in
    let gone : (n : ℕ) → Contains p.logs.items n → IsAbsent w.files (log_name n) = λ n has. c.in-Ok.ensures.gone told n (subst (λ (l : List ℕ). Contains l n) (sym ls) has) in
    let written : (j : EditsJob) (e : Entry) → Contains p.jobs.items j → Contains j.entries.items e → HasText j.name j.entries.items None (content w.files j.name) =
    λ j e has member. c.in-Ok.ensures.written told j e (subst (λ (l : List EditsJob). Contains l j) (sym js) has) member in
    let x : SplitFiles = record { names = found.names; stores = c.in_ok-stores.stores; plan = p } in
    are_left (IsTrue g.D.Disk.told) told u true_disk (c.requires.settled told) x xs every both.0 counts both.1 (c.requires.names told) w others gone written

pub returns-in-Ok-clause-names : goal.returns-in-Ok-clause-names
returns-in-Ok-clause-names g c told =
    let u = g.D.Disk.view c.args.disk.now in
    let found = c.args.found in
    let xs = found.files.entries.items in
    let every = found.files.stores.items in
    let ss = c.in_ok-stores.stores.items in
    let counts = c.in_ok-stores.ensures in
    let p = c.in_ok-plan.plan in
    let both = of_files (IsTrue g.D.Disk.told) u.files found.names c.as_slice.result.now xs every ss c.deref.result.now p (c.requires.names told) c.as_slice.ensures c.deref.ensures.value c.requires.read c.in_ok-plan.ensures in
    let true_disk = g.met.D.Disk.is_true c.args.disk.now told in
    let w = g.D.Disk.view c.split_found.new.disk in
    let js : c.deref-2.result.now ≡ p.jobs.items = c.deref-2.ensures.value in
    let ls : c.deref-3.result.now ≡ p.logs.items = c.deref-3.ensures.value in
    let others : (m : Name) → IsNoJob p.jobs.items m → IsOther p.logs.items m → content w.files m ≡ content u.files m =
    λ m no_job other. c.in-Ok.ensures.others told m (λ j has. no_job j (subst (λ (l : List EditsJob). Contains l j) js has)) (λ n has. other n (subst (λ (l : List ℕ). Contains l n) ls has)) in
    let gone : (n : ℕ) → Contains p.logs.items n → IsAbsent w.files (log_name n) = λ n has. c.in-Ok.ensures.gone told n (subst (λ (l : List ℕ). Contains l n) (sym ls) has) in
    let written : (j : EditsJob) (e : Entry) → Contains p.jobs.items j → Contains j.entries.items e → HasText j.name j.entries.items None (content w.files j.name) =
    λ j e has member. c.in-Ok.ensures.written told j e (subst (λ (l : List EditsJob). Contains l j) (sym js) has) member in
    let x : SplitFiles = record { names = found.names; stores = c.in_ok-stores.stores; plan = p } in
    one_higher (IsTrue g.D.Disk.told) told u true_disk (c.requires.settled told) x xs every both.0 counts both.1 (c.requires.names told) w others gone written

pub returns-in-Ok-clause-in_range : goal.returns-in-Ok-clause-in_range
returns-in-Ok-clause-in_range g c =
    let u = g.D.Disk.view c.args.disk.now in
    let found = c.args.found in
    let xs = found.files.entries.items in
    let every = found.files.stores.items in
    let ss = c.in_ok-stores.stores.items in
    let counts = c.in_ok-stores.ensures in
    let p = c.in_ok-plan.plan in
    let x : SplitFiles = record { names = found.names; stores = c.in_ok-stores.stores; plan = p } in
    in_range (IsTrue g.D.Disk.told) u.files x xs every c.requires.read counts (subst (λ (l : List Name). IsPlan l xs ss p) c.as_slice.ensures (subst (λ (l : List FoundStore). IsPlan c.as_slice.result.now xs l p) c.deref.ensures.value c.in_ok-plan.ensures))

pub returns-in-Ok-clause-cause : goal.returns-in-Ok-clause-cause
returns-in-Ok-clause-cause g c = same_cause c.split_found.ensures.cause (λ is. absurd (no_error is))
