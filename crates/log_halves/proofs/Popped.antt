-- What is popped from the ring of chains.
use Rattle.std.proofs.Common.{◌≡◌, List, [], ◌++◌, sym, ap, ◌∙◌}
use Rattle.std.specs.Prelude.{Option, Some, None, MatchOption}
use Rattle.std.proofs.lemmas.List.{append-nil}
use Rattle.append_ring.specs.declared.knows.Knows.{Knows}
use Rattle.append_ring.specs.Rules.{HasPopped}
use Rattle.log_trucks.specs.Held.{Held}
use Rattle.log_halves.specs.Trucks.{AreSpelled}
use Rattle.log_halves.specs.Chains.{all_trucks, IsWholeChain, AreInOrder}
use Rattle.log_halves.proofs.ItemLaws.{all_with}

-- at most one chain more was popped
pub record PoppedMore (v w : Knows (List Held)) : Type 0 where
  pub more : List Held
  pub spelled : AreSpelled more
  pub all : all_trucks w.popped ≡ all_trucks v.popped ++ more
  pub lasts : w.lasts ≡ v.lasts

pub popped_more : (X : Type 0) (v w : Knows (List Held)) (o : Option (List Held)) → MatchOption o ((w ≡ v) × X) (λ chain. HasPopped (λ _. 1) (λ _. None) IsWholeChain AreInOrder v chain w) → PoppedMore v w
popped_more X v w None p = record { more = []; spelled = tt; all = ap (λ (k : Knows (List Held)). all_trucks k.popped) p.0 ∙ sym (append-nil (all_trucks v.popped)); lasts = ap (λ (k : Knows (List Held)). k.lasts) p.0 }
popped_more X v w (Some chain) p = record {
  more = chain;
  spelled = p.good.0.2;
  all = ap (λ (k : Knows (List Held)). all_trucks k.popped) p.now ∙ all_with v.popped chain;
  lasts = ap (λ (k : Knows (List Held)). k.lasts) p.now;
}
