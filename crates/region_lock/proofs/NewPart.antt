-- A region with no edit since its base.
use Rattle.std.proofs.Common.{◌≡◌, ℕ, zero, suc, List, [], ◌∷◌, length, replicate, Some, None, slice_get, refl, sym, ap, ◌∙◌, subst, arith}
use Rattle.atomic_table.specs.Seated.{TableId}
use Rattle.crossbeam_queue.specs.Passes.{view}
use Rattle.hand_register.specs.declared.known.Record.{Record}
use Rattle.hand_register.specs.Rule.{empty}
use Rattle.append_ring.specs.declared.knows.Knows.{Knows}
use Rattle.append_ring.specs.declared.pass.RingKey.{RingKey}
use Rattle.append_ring.specs.Rules.{base_of, end_of}
use Rattle.append_ring.specs.Parts.{IsNew}
use Rattle.log_trucks.specs.Held.{AreHeld}
use Rattle.region_model.specs.Journal.{Base, Caller}
use Rattle.region_model.specs.Lines.{Line}
use Rattle.log_service.specs.log_halves.declared.item.Item.{Item}
use Rattle.log_service.specs.Items.{appended, number_of}
use Rattle.region_lock.specs.Parts.{IsPart}

same_of : {A : Type 0} → (x y : A) → Some x ≡ Some y → x ≡ y
same_of x y e = cc e

got : {A : Type 0} → (n : ℕ) (x : A) (k : ℕ) (q : A) → slice_get (replicate n x) k ≡ Some q → x ≡ q
got zero x k q e = absurd (cc e)
got (suc n) x zero q e = same_of x q e
got (suc n) x (suc k) q e = got n x k q e

part_of_none : (flushes : List Caller) (r : ℕ) (base : Base) (n : ℕ) (id : TableId) (lasts : List ℕ) (pass : RingKey Item) → IsNew id lasts r pass → base_of lasts r ≡ base.last
    → IsPart flushes r base [] None (replicate n empty) (replicate n empty) pass
part_of_none flushes r base n id lasts pass new last =
    let none : (view pass.pass).pushed ≡ [] = ap (λ (v : Knows Item). v.pushed) new.2 in
    record {
      pushed = subst (λ (l : List Item). AreHeld (appended l) []) (sym none) tt;
      drawn = (λ i. end_of number_of (base_of (new.2 i).lasts (new.1 i)) (new.2 i).pushed) ∙ last ∙ omega arith;
      own = λ k q at. sym (ap (λ (t : Record Line). t.list) (got n empty k q at));
      owners = tt;
      told = λ k q m at has. absurd (none_in q.list m (ap (λ (t : Record ℕ). t.list) (got n empty k q at)) has);
      marks = λ k q at. sym (ap (λ (t : Record Line). t.mark) (got n empty k q at));
      listed = λ c e. absurd (cc e);
    }
  where
    none_in : (l : List ℕ) (m : ℕ) → [] ≡ l → Rattle.std.proofs.Common.Contains l m → ⊥
    none_in [] m e (k, low, is) = omega (arith, low)
    none_in (x ∷ xs) m e has = cc e

pub part_new : (flushes : List Caller) (r : ℕ) (base : Base) (xs : List Line) (n : ℕ) (ours : List (Record Line)) (theirs : List (Record ℕ)) (id : TableId) (lasts : List ℕ) (pass : RingKey Item)
    → xs ≡ [] → ours ≡ replicate n empty → theirs ≡ replicate n empty → IsNew id lasts r pass → base_of lasts r ≡ base.last → IsPart flushes r base xs None ours theirs pass
part_new flushes r base xs n ours theirs id lasts pass none a b new last =
    subst (λ (l : List Line). IsPart flushes r base l None ours theirs pass) (sym none)
    (subst (λ (l : List (Record Line)). IsPart flushes r base [] None l theirs pass) (sym a)
    (subst (λ (l : List (Record ℕ)). IsPart flushes r base [] None (replicate n empty) l pass) (sym b) (part_of_none flushes r base n id lasts pass new last)))

pub len_replicate : {A : Type 0} → (n : ℕ) (x : A) → length (replicate n x) ≡ n
len_replicate zero x = refl
len_replicate (suc n) x = ap suc (len_replicate n x)
