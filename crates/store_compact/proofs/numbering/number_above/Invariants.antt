use Rattle.std.proofs.Common.{◌≡◌, ◌⊎◌, ◌+◌, ◌<◌, ◌≤◌, Contains, take}
use Rattle.log_model.specs.declared.name.Name.{Name}
use Rattle.log_model.specs.declared.name.NameKind.TheVariants as kinds
use Rattle.store_compact.proofs.numbering.number_above.Given as goal

abbrev pub invariant-loop-name : goal.invariant-loop-name
invariant-loop-name l = record {
  given : 1 ≤ l.next;
  above : (m : Name) → Contains (take l.name-index l.names) m → m.kind ≡ kinds.Store → m.number < l.next;
  one : (l.next ≡ 1) ⊎ ((m : Name) × Contains l.names m × (m.kind ≡ kinds.Store) × (l.next ≡ m.number + 1));
}
