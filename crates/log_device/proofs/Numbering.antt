-- The number of the current file stays bounded.
use Rattle.std.proofs.Common.{◌≡◌, ◌+◌, ◌<◌, ◌≤◌, ◌^◌, min, Some, ap, ◌∙◌, arith}
use Rattle.std.specs.Prelude.{sum}
use Rattle.log_model.specs.declared.name.Name.{Name}
use Rattle.log_file.specs.Open.{OpenLog}
use Rattle.log_ledger.specs.Numbers.{Numbers}
use Rattle.log_device.specs.Keeps.{log_name}
use Rattle.log_device.specs.Numbered.{IsNumbered}

pub same_file : (a b : OpenLog) → Some a ≡ Some b → a ≡ b
same_file a b is = cc (is)

-- an entry more is drawn
pub numbered_staged : (file now : OpenLog) (b after : Numbers) → IsNumbered file b → now.name ≡ file.name → sum b.drawn + 1 ≤ sum after.drawn → after.accounts.last ≡ b.accounts.last → IsNumbered now after
numbered_staged file now b after is name more last =
    let number : now.name.number ≡ file.name.number = ap (λ (n : Name). n.number) name in record {
      kind = ap (λ (n : Name). n.kind) name ∙ is.kind;
      region = ap (λ (n : Name). n.region) name ∙ is.region;
      bound = omega (arith, is.bound, number, more);
      later = omega (arith, is.later, number, last);
    }

-- nothing is drawn, and the file has as many entries, committed or staged
pub numbered_still : (file now : OpenLog) (b after : Numbers) → IsNumbered file b → now.name ≡ file.name → now.entries + now.staged ≡ file.entries + file.staged → sum after.drawn ≡ sum b.drawn → after.accounts.last ≡ b.accounts.last → IsNumbered now after
numbered_still file now b after is name count drawn last =
    let number : now.name.number ≡ file.name.number = ap (λ (n : Name). n.number) name in
    let few : min 1 (now.entries + now.staged) ≡ min 1 (file.entries + file.staged) = ap (min 1) count in record {
      kind = ap (λ (n : Name). n.kind) name ∙ is.kind;
      region = ap (λ (n : Name). n.region) name ∙ is.region;
      bound = omega (arith, is.bound, number, few, drawn);
      later = omega (arith, is.later, number, last);
    }

-- the next file begins after one that has an entry
pub numbered_next : (file now : OpenLog) (b after : Numbers) → IsNumbered file b → 0 < file.entries → now.name ≡ log_name (file.name.number + 1) → now.entries ≡ 0 → now.staged ≡ 0 → sum after.drawn ≡ sum b.drawn → after.accounts.last ≡ file.name.number → IsNumbered now after
numbered_next file now b after is some name none idle drawn last =
    let number : now.name.number ≡ file.name.number + 1 = ap (λ (n : Name). n.number) name in record {
      kind = ap (λ (n : Name). n.kind) name;
      region = ap (λ (n : Name). n.region) name;
      bound = omega (arith, is.bound, number, some, none, idle, drawn);
      later = omega (arith, number, last);
    }

-- a device begins with a file that has no entry
pub numbered_first : (file : OpenLog) (b : Numbers) → (file.name ≡ log_name file.name.number) × (1 ≤ file.name.number) × (file.name.number ≤ 2 ^ 63 + 1) → file.entries ≡ 0 → file.staged ≡ 0 → b.accounts.last ≡ 0 → IsNumbered file b
numbered_first file b first none idle last = record {
  kind = ap (λ (n : Name). n.kind) first.0;
  region = ap (λ (n : Name). n.region) first.0;
  bound = omega (arith, first.2, none, idle);
  later = omega (arith, first.1, last);
}
