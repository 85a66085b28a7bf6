-- A file of entries has one list of them.
use Rattle.std.proofs.Common.{◌≡◌, ℕ, List, Some, sym, ◌∙◌, subst}
use Rattle.log_model.specs.declared.name.Name.{Name}
use Rattle.log_model.specs.Entry.{Entry}
use Rattle.log_model.specs.LogText.{IsLogText}
use Rattle.log_model.specs.Files.{Files, IsLogFile, key_of}
use Rattle.log_model.proofs.TextLaws.{one_text}

same_bytes : (x y : List ℕ) → Some x ≡ Some y → x ≡ y
same_bytes x y e = cc e

pub one_list : (files : Files) (name : Name) (l k : List Entry) → IsLogFile files name l → IsLogFile files name k → l ≡ k
one_list files name l k first second =
    (one_text (key_of name) second.bytes l k first.ended second.ended (subst (λ (b : List ℕ). IsLogText (key_of name) b l first.ended) (same_bytes first.bytes second.bytes (sym first.there ∙ second.there)) first.text) second.text).0
