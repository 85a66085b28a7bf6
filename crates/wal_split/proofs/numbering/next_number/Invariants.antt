use Rattle.std.proofs.Common.{◌≡◌, ◌≢◌, ◌⊎◌, ◌≤◌, ◌^◌, Contains, take}
use Rattle.log_model.specs.declared.name.Name.{Name}
use Rattle.log_model.specs.declared.name.NameKind.TheVariants as kinds
use Rattle.wal_split.proofs.numbering.next_number.Given as goal

abbrev pub invariant-loop-name : goal.invariant-loop-name
invariant-loop-name l = record {
  above : (m : Name) → Contains (take l.name-index l.names) m → m.kind ≢ kinds.Store → m.number ≤ l.greatest;
  low : l.greatest ≤ 2 ^ 62;
  one : (l.greatest ≡ 0) ⊎ ((m : Name) × Contains l.names m × (m.kind ≢ kinds.Store) × (l.greatest ≡ m.number));
}
