use Rattle.std.proofs.Common.{◌≡◌, [], ◌∷◌, ◌++◌, codes, ap, ◌∙◌, append_assoc}
use Rattle.std.specs.Fmt.{decimal}
use Rattle.std.proofs.lemmas.Result.{on_ok_weaker}
use Rattle.made_script.specs.declared.counts.CallCounts.{CallCounts}
use Rattle.load_model.specs.Text.{counts_text}
use Rattle.load_command.proofs.Lines.{six}
use Rattle.load_command.proofs.text.append_counts.Goals as goal

pieces : (c : CallCounts) → (codes "load puts " ++ decimal c.puts) ++ ((codes " scans " ++ decimal c.scans) ++ ((codes " flushes " ++ decimal c.flushes) ++ ((codes " rolls " ++ decimal c.rolls)
    ++ ((10 ∷ codes "value bytes " ++ decimal c.value_bytes) ++ (10 ∷ []))))) ≡ counts_text c
unfolding counts_text
pieces c = simp append_assoc

pub returns : goal.returns
returns c =
    on_ok_weaker c.append.result (λ last.
    six c.args.out.now.items c.append_number.new.out.items c.append_number-2.new.out.items c.append_number-3.new.out.items c.append_number-4.new.out.items c.append_number-5.new.out.items c.append.new.out.items
    _ _ _ _ _ _ c.in_ok-append_number.ensures.ok c.in_ok-append_number-2.ensures.ok c.in_ok-append_number-3.ensures.ok c.in_ok-append_number-4.ensures.ok c.in_ok-append_number-5.ensures.ok last
    ∙ ap (λ l. c.args.out.now.items ++ l) (pieces c.args.counts)) c.append.ensures.ok
