use Rattle.std.proofs.Common.{ℕ, List, [], ◌∷◌, ◌++◌, true, refl, ap, ◌∙◌}
use Rattle.std.specs.Fmt.{decimal}
use Rattle.kv_cell.specs.Kind.{code_of}
use Rattle.script_model.specs.Report.{kind_name}
use Rattle.script_model.specs.Text.{printed}
use Rattle.ship_command.proofs.Cuts.{cut_here, cut_then, cut_as, stamp_is}
use Rattle.ship_command.proofs.cells.put_stamp.Goals as goal

pub returns-in_err-put_number-clause-cut : goal.returns-in_err-put_number-clause-cut
returns-in_err-put_number-clause-cut g c told err =
    let ts : List ℕ = 32 ∷ decimal c.args.ts in
    let kind : List ℕ = kind_name (code_of c.args.kind) in
    let value : List ℕ = 32 ∷ printed c.args.value.now in
    cut_as (stamp_is c.args.ts (code_of c.args.kind) c.args.value.now) (cut_here ts ((32 ∷ []) ++ (kind ++ value)) (c.in_err-put_number.ensures.cut told (refl {a = true})))

pub returns-in_err-put-clause-cut : goal.returns-in_err-put-clause-cut
returns-in_err-put-clause-cut g c told err =
    let ts : List ℕ = 32 ∷ decimal c.args.ts in
    let kind : List ℕ = kind_name (code_of c.args.kind) in
    let value : List ℕ = 32 ∷ printed c.args.value.now in
    cut_as (stamp_is c.args.ts (code_of c.args.kind) c.args.value.now)
    (cut_then ts ((32 ∷ []) ++ (kind ++ value)) (c.in_ok-put_number.ensures.ok told) (cut_here (32 ∷ []) (kind ++ value) (c.in_err-put.ensures.cut told (refl {a = true}))))

pub returns-in_err-put-2-clause-cut : goal.returns-in_err-put-2-clause-cut
returns-in_err-put-2-clause-cut g c told err =
    let ts : List ℕ = 32 ∷ decimal c.args.ts in
    let kind : List ℕ = kind_name (code_of c.args.kind) in
    let value : List ℕ = 32 ∷ printed c.args.value.now in
    cut_as (stamp_is c.args.ts (code_of c.args.kind) c.args.value.now)
    (cut_then ts ((32 ∷ []) ++ (kind ++ value)) (c.in_ok-put_number.ensures.ok told) (cut_then (32 ∷ []) (kind ++ value) (c.in_ok-put.ensures.ok told)
    (cut_here kind value (cut_as c.kind_name.ensures (c.in_err-put-2.ensures.cut told (refl {a = true}))))))

pub returns-clause-cut : goal.returns-clause-cut
returns-clause-cut g c told err =
    let ts : List ℕ = 32 ∷ decimal c.args.ts in
    let kind : List ℕ = kind_name (code_of c.args.kind) in
    let value : List ℕ = 32 ∷ printed c.args.value.now in
    let held : List ℕ = g.K.Sink.taken c.put.new.out ++ c.put.new.held.items in
    cut_as (stamp_is c.args.ts (code_of c.args.kind) c.args.value.now)
    (cut_then ts ((32 ∷ []) ++ (kind ++ value)) (c.in_ok-put_number.ensures.ok told) (cut_then (32 ∷ []) (kind ++ value) (c.in_ok-put.ensures.ok told)
    (cut_then kind value (c.in_ok-put-2.ensures.ok told ∙ ap (λ (l : List ℕ). held ++ l) c.kind_name.ensures) (c.put_word.ensures.cut told err))))
