-- What a call ships is a step.
use Rattle.std.proofs.Common.{◌≡◌, ◌⊎◌, List, [], ◌∷◌, ◌++◌, Option, Some, None, refl, sym, ap, ◌∙◌, subst, inl, inr, append_assoc}
use Rattle.cell_model.specs.Lists.{IsPrefix}
use Rattle.chronicle_model.specs.Chronicle.{Placed, Position, behind}
use Rattle.chronicle_model.specs.Shipping.{Step, Ships}
use Rattle.ship_queue.specs.Messages.{Message, Entry_of, Record_of, shipped_in, recorded_from, recorded_in}
use Rattle.ship_queue.specs.Shipping.{AreRecords, recorded_or, position_or, PartShipIsAStep, ShipIsAPartShip}
use Rattle.ship_queue.proofs.Told.{shipped_append, recorded_append}

pub step_of : PartShipIsAStep
step_of first c before after part = elim part.recorded as (λ _. Step first (record { chronicle = c; shipped = shipped_in before; recorded = recorded_or first before }) (record { chronicle = c; shipped = shipped_in after; recorded = recorded_or first after })) [
  | inl same ↦ Ships part.more refl part.begins part.shipped [] (part.more, refl) (ap (λ (r : Option Position). behind c (position_or first r)) (sym same))
  | inr (q, last, done, up, is) ↦
      Ships part.more refl part.begins part.shipped done up (is ∙ ap (λ (r : Option Position). done ++ behind c (position_or first r)) (sym last))
]

module _ (c : List Placed) (p : Position) where
  abbrev IsTrueOf : List Placed → Option Position → Type 0
  IsTrueOf more r = (q : Position) × (r ≡ Some q) × (done : List Placed) × IsPrefix done more × (behind c p ≡ done ++ behind c q)

  last_record : (r : Option Position) (done : List Placed) (ms : List Message) → AreRecords c p done ms → (recorded_from r ms ≡ r) ⊎ IsTrueOf (done ++ shipped_in ms) (recorded_from r ms)
  last_record r done [] a = inl refl
  last_record r done (Entry_of x ∷ ms) a =
      subst (λ (l : List Placed). (recorded_from r ms ≡ r) ⊎ IsTrueOf l (recorded_from r ms)) (append_assoc done (x ∷ []) (shipped_in ms)) (last_record r (done ++ x ∷ []) ms a)
  last_record r done (Record_of q ∷ ms) a = elim (last_record (Some q) done ms a.1) as (λ _. (recorded_from (Some q) ms ≡ r) ⊎ IsTrueOf (done ++ shipped_in ms) (recorded_from (Some q) ms)) [
    | inl same ↦ inr (q, same, done, (shipped_in ms, refl), a.0)
    | inr its ↦ inr its
  ]

pub part_of : ShipIsAPartShip
part_of c p before ms ship = record {
  more = shipped_in ms;
  shipped = shipped_append before ms;
  begins = ship.begins;
  recorded =
      let is : recorded_in (before ++ ms) ≡ recorded_from (recorded_in before) ms = recorded_append None before ms in
      elim (last_record c p (recorded_in before) [] ms ship.records) as (λ _. (recorded_in (before ++ ms) ≡ recorded_in before) ⊎ IsTrueOf c p (shipped_in ms) (recorded_in (before ++ ms))) [
        | inl same ↦ inl (is ∙ same)
        | inr its ↦ inr (subst (IsTrueOf c p (shipped_in ms)) (sym is) its)
      ];
}
