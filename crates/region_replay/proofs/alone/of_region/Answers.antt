use Rattle.std.proofs.Common.{◌∙◌, inl, inr, ◌++◌, ◌∷◌, [], List, Contains, sym, ap, subst}
use Rattle.std.proofs.lemmas.List.Elements.{Contains-append_cases, filter-append}
use Rattle.log_model.specs.Entry.{Entry, IsEntry}
use Rattle.log_model.specs.Recovered.{is_of, entries_of}
use Rattle.found_files.proofs.Filters.{in_filter}
use Rattle.region_replay.proofs.Sorting.{none_in, first_or_later}
use Rattle.region_replay.proofs.alone.of_region.Goals as goal

pub loop-entry-preserved : goal.loop-entry-preserved
loop-entry-preserved c =
    let r = c.args.region in
    let x = c.in-Some.entry in
    let old = c.loop-entry.own.items in
    let added = c.in_ok-add_own.ensures.added in
    record {
      of = added ∙ ap (λ (l : List Entry). l ++ entries_of r (x ∷ [])) c.loop-entry.invariant.of ∙ sym (filter-append (is_of r) c.loop-entry.yielded (x ∷ []));
      valid = λ e has. elim (Contains-append_cases old (entries_of r (x ∷ [])) e (subst (λ (l : List Entry). Contains l e) added has)) as (λ _. IsEntry e) [
        | inl before ↦ c.loop-entry.invariant.valid e before
        | inr new ↦ elim (first_or_later x [] e (in_filter (is_of r) (x ∷ []) e new).0) as (λ _. IsEntry e) [
          | inl is ↦ subst IsEntry is c.in_ok-add_own.ensures.valid
          | inr none ↦ absurd (none_in e none)
        ]
      ];
    }
