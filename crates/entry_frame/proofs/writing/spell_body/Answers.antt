use Rattle.std.proofs.Common.{◌≡◌, ◌++◌, ◌∙◌, List, ℕ, [], ◌∷◌, length}
use Rattle.std.proofs.Math.Logic.{∥∥₁_map}
use Rattle.std.proofs.lemmas.List.{append_assoc}
use Rattle.byteorder.specs.Endian.{big_bytes}
use Rattle.log_model.specs.Entry.{frame}
use Rattle.entry_frame.proofs.writing.spell_body.Goals as goal

-- what is written piece by piece is the frame
framed_body : (kind : ℕ) (body x0 x1 x2 x : List ℕ) → x0 ≡ [] → x1 ≡ x0 ++ kind ∷ [] → x2 ≡ x1 ++ big_bytes 4 (length body) → x ≡ x2 ++ body → x ≡ frame kind body
framed_body kind body x0 x1 x2 x e0 e1 e2 e3 =
    let all : x ≡ (([] ++ kind ∷ []) ++ big_bytes 4 (length body)) ++ body = cc in
    all ∙ append_assoc (kind ∷ []) (big_bytes 4 (length body)) body

pub of_spelling-requires : goal.of_spelling-requires
of_spelling-requires c = ∥∥₁_map c.requires.entry (λ x. (
  x.0,
  x.1,
  framed_body c.args.kind c.args.body.now c.reserve.new.self.items c.put.new.out.items c.put_u32.new.out.items c.put-2.new.out.items (c.reserve.ensures.items ∙ c.new-bytes.ensures.items) c.put.ensures.items c.put_u32.ensures.items c.put-2.ensures.items ∙ (λ i. frame (x.2 i) (x.3 i)),
))

pub returns : goal.returns
returns c =
    c.of_spelling.ensures
    ∙ framed_body c.args.kind c.args.body.now c.reserve.new.self.items c.put.new.out.items c.put_u32.new.out.items c.put-2.new.out.items (c.reserve.ensures.items ∙ c.new-bytes.ensures.items) c.put.ensures.items c.put_u32.ensures.items c.put-2.ensures.items
