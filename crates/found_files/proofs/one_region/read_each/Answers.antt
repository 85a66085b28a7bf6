use Rattle.std.proofs.Common.{◌≡◌, IsTrue, List, take, get_or, le_refl, sym, subst, arith}
use Rattle.std.proofs.lemmas.List.{take_more, take_all}
use Rattle.std.proofs.lemmas.List.Elements.{Contains-get_or}
use Rattle.log_model.specs.declared.name.Name.{Name}
use Rattle.log_model.specs.declared.name.NameKind.TheVariants as kinds
use Rattle.log_model.specs.Files.{Files}
use Rattle.found_files.specs.declared.found.FoundFiles.{FoundFiles}
use Rattle.found_files.specs.declared.refusal.SplitRefusal.TheVariants as refusals
use Rattle.found_files.specs.Found.{AreContents}
use Rattle.found_files.specs.OfRegion.{IsFirstHurt}
use Rattle.found_files.specs.Refusal.{IsDamageAt}
use Rattle.found_files.proofs.ReadSteps.{no_contents, one_more}
use Rattle.found_files.proofs.Causes.{no_cause, cause_of}
use Rattle.found_files.proofs.Told.{handed_on}
use Rattle.found_files.proofs.InRegion.{before_this, first_hurt}
use Rattle.found_files.proofs.Watched.{watched_none, watched_on, there_now}
use Rattle.found_files.proofs.one_region.read_each.Goals as goal

abbrev some_name : Name
some_name = record { kind = kinds.Log; region = 0; number = 0 }

pub loop-name-init : goal.loop-name-init
loop-name-init g c =
    let u = g.D.Disk.view c.args.disk.now in
    let found = c.new-found.result in
    record {
      read = no_contents (IsTrue g.D.Disk.told) u.files found.entries.items found.stores.items c.new-found.ensures.entries c.new-found.ensures.stores;
      watches = λ told. watched_none u;
      faults = le_refl (g.D.Disk.faults c.args.disk.now);
    }

pub read_file-requires : goal.read_file-requires
read_file-requires g c = record {
  there = λ told.
      let names = c.args.names.now in
      let i = c.loop-name.name-index in
      let this : Name = get_or names i some_name in
      there_now (g.D.Disk.view c.args.disk.now) (g.D.Disk.view c.loop-name.disk) this (c.loop-name.invariant.watches told).1.files (c.requires.there told this (Contains-get_or names i some_name c.loop-name-test.true));
}

pub returns-in_err-read_file-clause-watches : goal.returns-in_err-read_file-clause-watches
returns-in_err-read_file-clause-watches g c told =
    watched_on (g.D.Disk.view c.args.disk.now) (g.D.Disk.view c.loop-name.disk) (g.D.Disk.view c.read_file.new.disk) (c.loop-name.invariant.watches told) (c.read_file.ensures.watches told)

pub returns-in_err-read_file-clause-damaged : goal.returns-in_err-read_file-clause-damaged
returns-in_err-read_file-clause-damaged g c told =
    let u = g.D.Disk.view c.args.disk.now in
    let v = g.D.Disk.view c.loop-name.disk in
    let names = c.args.names.now in
    let i = c.loop-name.name-index in
    let same : v.files ≡ u.files = (c.loop-name.invariant.watches told).1.files in
    let h = c.from_residual.ensures in
    handed_on (Unit {0}) FoundFiles (IsDamageAt v.files (get_or names i some_name)) (IsFirstHurt u.files names) c.in_err-read_file.field-0.0 c.from_residual.result h.0 h.1
    (λ d hurt. first_hurt (IsTrue g.D.Disk.told) told u.files names i some_name c.loop-name.found.entries.items c.loop-name.found.stores.items (c.requires.rise told) c.loop-name-test.true c.loop-name.invariant.read d
    (subst (λ (f : Files). IsDamageAt f (get_or names i some_name) d) same hurt))
    (c.in_err-read_file.ensures.damaged told)

pub loop-name-preserved : goal.loop-name-preserved
loop-name-preserved g c =
    let u = g.D.Disk.view c.args.disk.now in
    let v = g.D.Disk.view c.loop-name.disk in
    let w = g.D.Disk.view c.read_file.new.disk in
    let names = c.args.names.now in
    let i = c.loop-name.name-index in
    record {
      read = subst (λ (l : List Name). AreContents (IsTrue g.D.Disk.told) u.files l c.read_file.new.found.entries.items c.read_file.new.found.stores.items) (sym (take_more names i some_name c.loop-name-test.true))
          (one_more (IsTrue g.D.Disk.told) u.files v.files (λ told. (c.loop-name.invariant.watches told).1.files) (take i names) (get_or names i some_name) c.loop-name.found c.read_file.new.found c.loop-name.invariant.read
          c.in_ok-read_file.ensures.read
          (λ told. before_this names i some_name (c.requires.rise told) c.loop-name-test.true));
      watches = λ told. watched_on u v w (c.loop-name.invariant.watches told) (c.read_file.ensures.watches told);
      faults = omega (arith, c.loop-name.invariant.faults, c.read_file.ensures.cause.later);
    }

pub returns-in_err-read_file-clause-cause : goal.returns-in_err-read_file-clause-cause
returns-in_err-read_file-clause-cause g c =
    cause_of (Unit {0}) c.in_err-read_file.field-0.0 refusals.DiskFault c.from_residual.result c.from_residual.ensures.1 c.in_err-read_file.ensures.cause c.loop-name.invariant.faults

pub returns-clause-read : goal.returns-clause-read
returns-clause-read g c =
    subst (λ (l : List Name). AreContents (IsTrue g.D.Disk.told) (g.D.Disk.view c.args.disk.now).files l c.loop-name.found.entries.items c.loop-name.found.stores.items)
    (take_all c.loop-name.name-index c.args.names.now c.loop-name-test.false) c.loop-name.invariant.read

pub returns-clause-cause : goal.returns-clause-cause
returns-clause-cause g c = no_cause c.loop-name.found refusals.DiskFault c.loop-name.invariant.faults
