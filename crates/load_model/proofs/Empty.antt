-- A store without files.
use Rattle.std.proofs.Common.{◌≡◌, ℕ, List, [], length, Some, None, sym, ap, ◌∙◌, subst, inl, inr}
use Rattle.std.specs.FinMap.{get, get-empty, keys, entries, len-entries, empty_of_len}
use Rattle.std.proofs.lemmas.List.{length-map}
use Rattle.cell_model.specs.Order.{VersionKey, Payload}
use Rattle.log_model.specs.declared.name.Name.{Name}
use Rattle.log_model.specs.Entry.{Entry}
use Rattle.log_model.specs.Files.{Files, name_cmp, IsLogged, IsSound}
use Rattle.log_model.specs.Recovered.{IsRecovered, IsLast}

pub no_file : (files : Files) (name : Name) → keys files ≡ [] → get files name ≡ None
no_file files name none =
    subst (λ (f : Files). get f name ≡ None) (sym (empty_of_len files (len-entries files ∙ sym (length-map (entries files) (λ e. e.0)) ∙ ap length none))) (get-empty name_cmp name)

pub no_bytes : {X : Type 0} (files : Files) (name : Name) (bytes : List ℕ) → keys files ≡ [] → get files name ≡ Some bytes → X
no_bytes files name bytes none there = let no : None ≡ Some bytes = sym (no_file files name none) ∙ there in absurd cc

none_logged : {X : Type 0} (files : Files) (e : Entry) → keys files ≡ [] → IsLogged files e → X
none_logged files e none logged = no_bytes files logged.name logged.file.bytes none logged.file.there

pub none_recovered : (files : Files) (r : ℕ) (v : VersionKey) (p : Payload) → keys files ≡ [] → IsRecovered files r v p → ⊥
none_recovered files r v p none (inl stored) = no_bytes files stored.name stored.file.file.bytes none stored.file.file.there
none_recovered files r v p none (inr unflushed) = none_logged files unflushed.entry none unflushed.logged

pub last_is_0 : (files : Files) (r n : ℕ) → keys files ≡ [] → IsLast files r n → n ≡ 0
last_is_0 files r n none last = elim last.reached [
  | inl (inl flushed) ↦ no_bytes files flushed.0 flushed.2.file.bytes none flushed.2.file.there
  | inl (inr logged) ↦ none_logged files logged.0 none logged.1
  | inr zero ↦ zero
]

pub empty_is_sound : (files : Files) → keys files ≡ [] → IsSound files
empty_is_sound files none = record {
  fit = record {
    logs = λ name bytes kind there. no_bytes files name bytes none there;
    stores = λ name bytes kind there gate. no_bytes files name bytes none there;
    agree = λ d e first second region number. none_logged files d none first;
  };
  regions = λ name here kind. absurd (here (no_file files name none));
  numbers = λ name here. absurd (here (no_file files name none));
  apart = λ a b first second log old. absurd (first (no_file files a none));
}
