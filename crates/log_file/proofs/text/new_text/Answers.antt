use Rattle.std.proofs.Common.{List, [], ◌∷◌, ◌++◌, ℕ, sym, ap, ◌∙◌}
use Rattle.std.proofs.lemmas.List.{append-nil}
use Rattle.log_model.specs.LogText.{header}
use Rattle.log_file.specs.LogText.{front}
use Rattle.log_file.proofs.text.new_text.Goals as goal

pub returns : goal.returns
unfolding front
returns c = ap (λ (x : List ℕ). x ++ 0 ∷ []) (c.copy_from_slice.ensures.after ∙ c.file_header.ensures ∙ sym (append-nil (header 2 c.args.number)))
