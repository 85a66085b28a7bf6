use Rattle.std.proofs.Common.{◌≡◌, IsTrue, List, Contains, take, get_or, le_refl, sym, subst, arith}
use Rattle.std.specs.FinMap.{keys}
use Rattle.std.proofs.lemmas.List.{take_more, take_all}
use Rattle.std.proofs.lemmas.List.Elements.{Contains-get_or}
use Rattle.log_model.specs.declared.name.Name.{Name}
use Rattle.log_model.specs.declared.name.NameKind.TheVariants as kinds
use Rattle.log_model.specs.Files.{Files, IsSound}
use Rattle.log_model.specs.Damage.{IsDamage}
use Rattle.disk_images.proofs.Settled.{read_of, there_of}
use Rattle.found_files.specs.declared.found.FoundFiles.{FoundFiles}
use Rattle.found_files.specs.declared.refusal.SplitRefusal.TheVariants as refusals
use Rattle.found_files.specs.Found.{AreRead}
use Rattle.found_files.specs.Checked.{TellsOne}
use Rattle.found_files.proofs.ReadSteps.{none_read, one_read}
use Rattle.found_files.proofs.Causes.{no_cause, cause_of}
use Rattle.found_files.proofs.Told.{handed_on}
use Rattle.found_files.proofs.NameOrder.{below_this}
use Rattle.found_files.proofs.Watched.{watched_none, watched_on, reads_now}
use Rattle.found_files.proofs.Whole.{first_told, unsound_one}
use Rattle.found_files.proofs.checking.read_checked.Goals as goal

abbrev some_name : Name
some_name = record { kind = kinds.Log; region = 0; number = 0 }

pub loop-name-init : goal.loop-name-init
loop-name-init g c =
    let u = g.D.Disk.view c.args.disk.now in
    let found = c.new-found.result in
    record {
      read = none_read (IsTrue g.D.Disk.told) u.files c.args.names.now found.entries.items found.stores.items c.new-found.ensures.entries c.new-found.ensures.stores;
      watches = λ told. watched_none u;
      faults = le_refl (g.D.Disk.faults c.args.disk.now);
    }

pub read_one-requires : goal.read_one-requires
read_one-requires g c = record {
  there = λ told.
      let u = g.D.Disk.view c.args.disk.now in
      let v = g.D.Disk.view c.loop-name.disk in
      let names = c.args.names.now in
      let this : Name = get_or names c.loop-name.name-index some_name in
      let r = read_of u.files this (subst (λ (l : List Name). Contains l this) (c.requires.names told) (Contains-get_or names c.loop-name.name-index some_name c.loop-name-test.true)) in
      ∣ (r.0, reads_now u v this r.0 (c.loop-name.invariant.watches told).1.files r.1) ∣₁;
}

pub returns-in_err-read_one-clause-watches : goal.returns-in_err-read_one-clause-watches
returns-in_err-read_one-clause-watches g c told =
    watched_on (g.D.Disk.view c.args.disk.now) (g.D.Disk.view c.loop-name.disk) (g.D.Disk.view c.read_one.new.disk) (c.loop-name.invariant.watches told) (c.read_one.ensures.watches told)

pub returns-in_err-read_one-clause-damaged : goal.returns-in_err-read_one-clause-damaged
returns-in_err-read_one-clause-damaged g c told =
    let u = g.D.Disk.view c.args.disk.now in
    let v = g.D.Disk.view c.loop-name.disk in
    let names = c.args.names.now in
    let i = c.loop-name.name-index in
    let same : v.files ≡ u.files = (c.loop-name.invariant.watches told).1.files in
    let h = c.from_residual-in_err-read_one.ensures in
    handed_on (Unit {0}) FoundFiles (TellsOne v.files names (get_or names i some_name)) (IsDamage u.files) c.in_err-read_one.field-0.0 c.from_residual-in_err-read_one.result h.0 h.1
    (λ d tells. first_told (IsTrue g.D.Disk.told) u.files names i some_name c.loop-name.found.entries.items c.loop-name.found.stores.items told (c.requires.names told) c.loop-name-test.true c.loop-name.invariant.read d
    (subst (λ (f : Files). TellsOne f names (get_or names i some_name) d) same tells))
    (c.in_err-read_one.ensures.damaged told names (rw c.deref.ensures.value c.in_ok-olds.ensures))

pub returns-in_err-read_one-clause-unsound : goal.returns-in_err-read_one-clause-unsound
returns-in_err-read_one-clause-unsound g c told =
    let u = g.D.Disk.view c.args.disk.now in
    let v = g.D.Disk.view c.loop-name.disk in
    let names = c.args.names.now in
    let i = c.loop-name.name-index in
    let this : Name = get_or names i some_name in
    let all : names ≡ keys u.files = c.requires.names told in
    let h = c.from_residual-in_err-read_one.ensures in
    handed_on (Unit {0}) FoundFiles (TellsOne v.files names this) (λ d. ¬ IsSound u.files) c.in_err-read_one.field-0.0 c.from_residual-in_err-read_one.result h.0 h.1
    (λ d tells. unsound_one u.files this d (there_of u.files this (subst (λ (l : List Name). Contains l this) all (Contains-get_or names i some_name c.loop-name-test.true)))
    (subst (λ (l : List Name). TellsOne u.files l this d) all (subst (λ (f : Files). TellsOne f names this d) (c.loop-name.invariant.watches told).1.files tells)))
    (c.in_err-read_one.ensures.damaged told names (rw c.deref.ensures.value c.in_ok-olds.ensures))

pub loop-name-preserved : goal.loop-name-preserved
loop-name-preserved g c =
    let u = g.D.Disk.view c.args.disk.now in
    let v = g.D.Disk.view c.loop-name.disk in
    let w = g.D.Disk.view c.read_one.new.disk in
    let names = c.args.names.now in
    let i = c.loop-name.name-index in
    record {
      read = subst (λ (l : List Name). AreRead (IsTrue g.D.Disk.told) u.files names l c.read_one.new.found.entries.items c.read_one.new.found.stores.items) (sym (take_more names i some_name c.loop-name-test.true))
          (one_read (IsTrue g.D.Disk.told) u.files v.files (λ told. (c.loop-name.invariant.watches told).1.files) names (take i names) (get_or names i some_name) c.loop-name.found c.read_one.new.found c.loop-name.invariant.read
          (c.in_ok-read_one.ensures.read names (rw c.deref.ensures.value c.in_ok-olds.ensures))
          (λ told. below_this u.files names i some_name (c.requires.names told) c.loop-name-test.true));
      watches = λ told. watched_on u v w (c.loop-name.invariant.watches told) (c.read_one.ensures.watches told);
      faults = omega (arith, c.loop-name.invariant.faults, c.read_one.ensures.cause.later);
    }

pub returns-in_err-read_one-clause-cause : goal.returns-in_err-read_one-clause-cause
returns-in_err-read_one-clause-cause g c =
    cause_of (Unit {0}) c.in_err-read_one.field-0.0 refusals.DiskFault c.from_residual-in_err-read_one.result c.from_residual-in_err-read_one.ensures.1 c.in_err-read_one.ensures.cause c.loop-name.invariant.faults

pub returns-clause-read : goal.returns-clause-read
returns-clause-read g c =
    subst (λ (l : List Name). AreRead (IsTrue g.D.Disk.told) (g.D.Disk.view c.args.disk.now).files c.args.names.now l c.loop-name.found.entries.items c.loop-name.found.stores.items)
    (take_all c.loop-name.name-index c.args.names.now c.loop-name-test.false) c.loop-name.invariant.read

pub returns-clause-cause : goal.returns-clause-cause
returns-clause-cause g c = no_cause c.loop-name.found refusals.DiskFault c.loop-name.invariant.faults
