use Rattle.std.proofs.Common.{◌≡◌, ◌++◌, [], ◌∷◌, List, length, reverse, ap, ◌∙◌, arith, length-append}
use Rattle.std.proofs.lemmas.Grind.{reverse_onto}
use Rattle.log_trucks.specs.Held.{Held, Haul, held_of}
use Rattle.log_halves.specs.Trucks.{size_of}
use Rattle.log_halves.proofs.Chains.{size_one_more}
use Rattle.log_halves.proofs.chain.FrameChain.push.Goals as goal

pub invariant_of-self : goal.invariant_of-self
invariant_of-self c =
    let t : Held = held_of c.args.truck.value in
    let old : List Held = reverse c.self.inside.trucks in
    let now : reverse c.push.new.self ≡ old ++ t ∷ [] = ap (λ (l : List Held). reverse l) c.push.ensures ∙ reverse_onto c.self.inside.trucks t [] in
    let len = ap length now in
    let size = ap size_of now ∙ size_one_more old t in
    let room = ap size_of c.self.view_is in
    let bytes = ap (λ (h : Haul). length h.bytes) c.deref.ensures in
    record {
      entries_are = omega (arith, len, length-append old (t ∷ []), c.self.invariant.entries_are);
      bytes_are = omega (arith, size, c.self.invariant.bytes_are, c.len_of.ensures.len, bytes);
      room = omega (arith, c.self.invariant.bytes_are, c.len_of.ensures.len, room, bytes, c.requires.room);
      fewer = omega (arith, c.self.invariant.fewer);
    }

pub returns : goal.returns
returns c =
    let t : Held = held_of c.args.truck.value in
    ap (λ (l : List Held). reverse l) c.push.ensures ∙ (reverse_onto c.self.inside.trucks t [] ∙ ap (λ (l : List Held). l ++ t ∷ []) c.self.view_is)
