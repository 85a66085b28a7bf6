use Rattle.std.proofs.Common.{◌≡◌, inl, inr, refl, sym, ◌∙◌}
use Rattle.std.proofs.lemmas.Result.{on_ok_weaker}
use Rattle.log_model.specs.declared.name.NameKind.TheVariants as kinds
use Rattle.found_files.proofs.checking.read_file.Goals as goal

pub returns-in-Log-clause-read : goal.returns-in-Log-clause-read
returns-in-Log-clause-read g c =
    let not_store : c.args.name.kind ≡ kinds.Store → ⊥ = λ store. elim c.in-Log.is as (λ _. ⊥) [ inl log ↦ absurd (cc (sym log ∙ store)) | inr edits ↦ absurd (cc (sym edits ∙ store)) ] in
    on_ok_weaker c.read_entries.result
    (λ reads. record {
      entries = λ holds. reads;
      no_entries = λ none. absurd (none c.in-Log.is);
      store = λ store. absurd (not_store store);
      no_store = λ none. refl;
    })
    c.read_entries.ensures.read

pub returns-in-Store-clause-read : goal.returns-in-Store-clause-read
returns-in-Store-clause-read g c =
    on_ok_weaker c.read_found_store.result
    (λ reads. record {
      entries = λ holds. elim holds [ inl log ↦ absurd (cc (sym log ∙ c.in-Store.is)) | inr edits ↦ absurd (cc (sym edits ∙ c.in-Store.is)) ];
      no_entries = λ none. refl;
      store = λ store. reads;
      no_store = λ none. absurd (none c.in-Store.is);
    })
    c.read_found_store.ensures.read

pub returns-in-Old-clause-read : goal.returns-in-Old-clause-read
returns-in-Old-clause-read g c = record {
  entries = λ holds. elim holds [ inl log ↦ absurd (cc (sym log ∙ c.in-Old.is)) | inr edits ↦ absurd (cc (sym edits ∙ c.in-Old.is)) ];
  no_entries = λ none. refl;
  store = λ store. absurd (cc (sym store ∙ c.in-Old.is));
  no_store = λ none. refl;
}
