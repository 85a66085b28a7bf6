use Rattle.std.proofs.Common.{rules, List, ℕ, ◌++◌, sym, subst, arith}
use Rattle.disk_fakes.specs.declared.safe_call.SafeCall.{SafeCall}
use Rattle.disk_fakes.specs.Safe.{no_files, AreMet}
use Rattle.disk_fakes.proofs.SafeNoted.{noted_met}
use Rattle.disk_fakes.proofs.safe_disk.SafeDisk.note.Goals as goal

pub invariant_of-self : goal.invariant_of-self
invariant_of-self c =
    let arena = c.args.self.now.arena.items in
    let calls = c.args.self.now.calls.items in
    record {
      met = subst (λ (a : List ℕ). AreMet a no_files c.push_reserved.new.self.items) (sym c.keep.ensures.items)
          (subst (λ (l : List SafeCall). AreMet (arena ++ c.args.bytes.now) no_files l) (sym c.push_reserved.ensures.items)
          (noted_met arena c.args.bytes.now calls c.args.call c.args.self.now.met c.requires.met));
    }

pub returns : goal.returns
returns c = record {
  room = λ calls bytes has. record {
    calls_fit = omega (arith, has.calls_fit, c.push_reserved.ensures.len, c.push_reserved.ensures.capacity);
    bytes_fit = omega (arith, has.bytes_fit, c.keep.ensures.len, c.keep.ensures.capacity);
  };
  calls = search rules;
  arena = search rules;
  faults = search rules;
}
