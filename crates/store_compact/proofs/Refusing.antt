-- What is told where a region isn't compacted.
use Rattle.std.proofs.Common.{◌≡◌, ℕ, Result, Ok, Err, sym, subst}
use Rattle.log_model.specs.declared.name.Name.{Name}
use Rattle.log_model.specs.declared.damage.Damage.{Damage}
use Rattle.log_model.specs.declared.damage.Damage.TheVariants as damages
use Rattle.found_files.specs.declared.refusal.SplitRefusal.{SplitRefusal}
use Rattle.found_files.specs.declared.refusal.SplitRefusal.TheVariants as split_refusals
use Rattle.found_files.specs.Refusal.{IfDamage}
use Rattle.store_compact.specs.declared.refusal.CompactRefusal.{CompactRefusal}
use Rattle.store_compact.specs.declared.refusal.CompactRefusal.TheVariants as refusals
use Rattle.store_compact.specs.Ready.{IfDamaged, IfNothing, IfRead}
use Rattle.store_compact.specs.Refusals.{refusal_of}

-- damage of bytes is told as it is; where no two files disagree there is no other
pub told_damage : (T U : Type 0) (e : SplitRefusal) (P : Damage → Type 0) (Q : Name → ℕ → Type 0) (c : CompactRefusal) → c ≡ refusal_of e → ((name : Name) (at : ℕ) → P (damages.Bytes name at) → Q name at)
    → ((a b : Name) (region number : ℕ) → P (damages.Two a b region number) → ⊥) → IfDamage {T = T} (Err e) P → IfDamaged {T = U} (Err c) Q
told_damage T U e P Q c is bytes two h = subst (λ (r : CompactRefusal). IfDamaged {T = U} (Err r) Q) (sym is) (told_of e h)
  where
    told_of : (s : SplitRefusal) → IfDamage {T = T} (Err s) P → IfDamaged {T = U} (Err (refusal_of s)) Q
    told_of split_refusals.Memory h = tt
    told_of split_refusals.DiskFault h = tt
    told_of (split_refusals.Damaged (damages.Bytes name at)) h = bytes name at h
    told_of (split_refusals.Damaged (damages.Two a b region number)) h = absurd (two a b region number h)

pub not_read : (U : Type 0) (e : SplitRefusal) (P : Type 0) (c : CompactRefusal) → c ≡ refusal_of e → IfRead {T = U} (Err c) P
not_read U e P c is = subst (λ (r : CompactRefusal). IfRead {T = U} (Err r) P) (sym is) (none e)
  where
    none : (s : SplitRefusal) → IfRead {T = U} (Err (refusal_of s)) P
    none split_refusals.Memory = tt
    none split_refusals.DiskFault = tt
    none (split_refusals.Damaged (damages.Bytes name at)) = tt
    none (split_refusals.Damaged (damages.Two a b region number)) = tt

pub not_nothing : (U : Type 0) (e : SplitRefusal) (P : ℕ → Type 0) (c : CompactRefusal) → c ≡ refusal_of e → IfNothing {T = U} (Err c) P
not_nothing U e P c is = subst (λ (r : CompactRefusal). IfNothing {T = U} (Err r) P) (sym is) (none e)
  where
    none : (s : SplitRefusal) → IfNothing {T = U} (Err (refusal_of s)) P
    none split_refusals.Memory = tt
    none split_refusals.DiskFault = tt
    none (split_refusals.Damaged (damages.Bytes name at)) = tt
    none (split_refusals.Damaged (damages.Two a b region number)) = tt

module _ {T : Type 0} where
  pub damaged_on : (P Q : Name → ℕ → Type 0) (r : Result T CompactRefusal) → ((name : Name) (at : ℕ) → P name at → Q name at) → IfDamaged r P → IfDamaged r Q
  damaged_on P Q (Ok x) on h = tt
  damaged_on P Q (Err refusals.Memory) on h = tt
  damaged_on P Q (Err refusals.DiskFault) on h = tt
  damaged_on P Q (Err (refusals.Damaged name at)) on h = on name at h
  damaged_on P Q (Err (refusals.NothingToCompact files)) on h = tt

  pub nothing_both : (P Q R : ℕ → Type 0) (r : Result T CompactRefusal) → ((n : ℕ) → P n → Q n → R n) → IfNothing r P → IfNothing r Q → IfNothing r R
  nothing_both P Q R (Ok x) on h k = tt
  nothing_both P Q R (Err refusals.Memory) on h k = tt
  nothing_both P Q R (Err refusals.DiskFault) on h k = tt
  nothing_both P Q R (Err (refusals.Damaged name at)) on h k = tt
  nothing_both P Q R (Err (refusals.NothingToCompact files)) on h k = on files h k

  pub read_where : (P : Type 0) (r : Result T CompactRefusal) → P → IfRead r P
  read_where P (Ok x) p = p
  read_where P (Err refusals.Memory) p = tt
  read_where P (Err refusals.DiskFault) p = tt
  read_where P (Err (refusals.Damaged name at)) p = tt
  read_where P (Err (refusals.NothingToCompact files)) p = p
