use Rattle.std.proofs.Common.{◌∷◌, [], List, ℕ, ◌++◌, length, ap, ◌∙◌, append_assoc}
use Rattle.store_file.proofs.Writing.{appended_fields}
use Rattle.store_file.proofs.buffer.Buffer.add_fields.Goals as goal

pub returns-clause-bytes : goal.returns-clause-bytes
returns-clause-bytes c =
    let family : List ℕ = c.args.family.now in
    appended_fields c.args.self.now c.put.new.out.items c.put_u32.new.out.items c.put-3.new.out.items c.put_u64.new.out.items c.put_u64-2.new.out.items c.put_u64-3.new.out.items family c.args.region c.args.scope c.args.from c.args.to c.args.count
    (c.put.ensures.items ∙ ap (λ (l : List ℕ). l ++ (72 ∷ 87 ∷ 83 ∷ 50 ∷ [])) c.self.view_is) c.put_u32.ensures.items
    (c.put-3.ensures.items ∙ ap (λ (l : List ℕ). l ++ family) c.put-2.ensures.items ∙ append_assoc c.put_u32.new.out.items (c.args.scope ∷ (length family ∷ [])) family)
    c.put_u64.ensures.items c.put_u64-2.ensures.items c.put_u64-3.ensures.items
