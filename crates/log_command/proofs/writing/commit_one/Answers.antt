use Rattle.std.proofs.Math.Logic.{∥∥₁_map, ∥∥₁_elim, ∥∥₁_prop}
use Rattle.std.proofs.Common.{◌≢◌, [], ◌∷◌, ◌++◌, ◌∙◌, refl, sym, subst}
use Rattle.log_model.specs.declared.name.Name.{Name}
use Rattle.log_file.proofs.Committed.{open_still}
use Rattle.log_command.proofs.Committing.{in_log, never_full, commit_named}
use Rattle.log_command.proofs.writing.commit_one.Goals as goal

pub stage-requires : goal.stage-requires
stage-requires g c = ∥∥₁_map c.requires.entry (λ r. (r.0, r.1, in_log c.args.log.now.name r.0 c.requires.named r.2))

pub unreachable-requires : goal.unreachable-requires
unreachable-requires g c = ∥∥₁_elim c.requires.entry (λ a b. absurd a) (λ r. never_full c.args.log.now c.args.frame.now r.0 c.requires.empty r.1 r.2 (c.in-Err.ensures.full.0 refl))

pub commit-requires : goal.commit-requires
commit-requires g c told =
    ∥∥₁_elim (c.requires.begun told) ∥∥₁_prop (λ a. ∥∥₁_map c.requires.entry (λ r. (
      a.0,
      r.0 ∷ [],
      open_still c.args.log.now c.stage.new.self _ a.0 c.in-Ok.ensures.same_file a.1,
      c.in-Ok.ensures.staged [] r.0 c.requires.empty r.1 (in_log c.args.log.now.name r.0 c.requires.named r.2),
    )))

pub returns-in_err-commit-clause-any_moment : goal.returns-in_err-commit-clause-any_moment
returns-in_err-commit-clause-any_moment g c told entries e opened is entry =
    commit_named c.stage.new.self.name entries (entries ++ e ∷ []) _ _ (c.in-Ok.ensures.same_file.name ∙ c.requires.named)
    (c.commit.ensures.commits told entries (e ∷ []) (open_still c.args.log.now c.stage.new.self _ entries c.in-Ok.ensures.same_file opened)
    (c.in-Ok.ensures.staged [] e c.requires.empty is (in_log c.args.log.now.name e c.requires.named entry))).atomic

pub returns-in_err-commit-clause-others : goal.returns-in_err-commit-clause-others
returns-in_err-commit-clause-others g c told m other =
    (c.commit.ensures.no_other_file told).others m (subst (λ (n : Name). m ≢ n) (sym (c.in-Ok.ensures.same_file.name ∙ c.requires.named)) other)

pub returns-clause-any_moment : goal.returns-clause-any_moment
returns-clause-any_moment g c told entries e opened is entry =
    commit_named c.stage.new.self.name entries (entries ++ e ∷ []) _ _ (c.in-Ok.ensures.same_file.name ∙ c.requires.named)
    (c.commit.ensures.commits told entries (e ∷ []) (open_still c.args.log.now c.stage.new.self _ entries c.in-Ok.ensures.same_file opened)
    (c.in-Ok.ensures.staged [] e c.requires.empty is (in_log c.args.log.now.name e c.requires.named entry))).atomic

pub returns-clause-others : goal.returns-clause-others
returns-clause-others g c told m other =
    (c.commit.ensures.no_other_file told).others m (subst (λ (n : Name). m ≢ n) (sym (c.in-Ok.ensures.same_file.name ∙ c.requires.named)) other)
