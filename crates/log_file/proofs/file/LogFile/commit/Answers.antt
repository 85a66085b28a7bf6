use Rattle.std.proofs.Math.Logic.{∥∥₁_map}
use Rattle.std.proofs.Common.{rules, ◌≡◌, [], ◌+◌, List, ℕ, length, refl, sym, ◌∙◌, ap, subst}
use Rattle.log_file.specs.LogText.{front}
use Rattle.log_file.specs.Open.{OpenLog, IsOpen, IsStaged}
use Rattle.log_file.proofs.Texts.{behind_none}
use Rattle.log_file.proofs.Committed.{CommitMoments, none_added, unwritten, commit_moments, committed_log}
use Rattle.log_file.proofs.file.LogFile.commit.Goals as goal

pub returns-then-count-eq0-clause-commits : goal.returns-then-count-eq0-clause-commits
returns-then-count-eq0-clause-commits g c told entries batch open_log staged =
    let v = g.D.Disk.view c.args.disk.now in
    let none : c.args.self.now.staged ≡ 0 = ap (λ (l : OpenLog). l.staged) (sym c.self.view_is) ∙ c.if-count-eq0.true in
    record {
      durable = none_added c.args.self.now v entries batch none open_log staged;
      atomic = unwritten c.args.self.now.name entries batch v open_log.each open_log.file;
    }

pub returns-then-count-eq0-clause-stage_emptied : goal.returns-then-count-eq0-clause-stage_emptied
returns-then-count-eq0-clause-stage_emptied g c =
    subst (λ (l : OpenLog). IsStaged l []) c.self.view_is (record { each = tt; bytes = c.self.invariant.none c.if-count-eq0.true ∙ sym behind_none; count = c.if-count-eq0.true })

pub commit_behind_gate-requires-clause-closed : goal.commit_behind_gate-requires-clause-closed
commit_behind_gate-requires-clause-closed g c told =
    ∥∥₁_map (c.requires told) (λ r.
    let open_log = subst (λ (l : OpenLog). IsOpen l (g.D.Disk.view c.args.disk.now) r.0) (sym c.self.view_is) r.2 in
    (front c.self.inside.name.number r.0, open_log.file, open_log.gate))

pub returns-in_err-commit_behind_gate-clause-commits : goal.returns-in_err-commit_behind_gate-clause-commits
returns-in_err-commit_behind_gate-clause-commits g c told entries batch open_log staged =
    let log : OpenLog = record { name = c.self.inside.name; gate = c.self.inside.gate; entries = c.self.inside.entries; bytes = c.self.inside.stage; staged = c.self.inside.staged } in
    let v = g.D.Disk.view c.args.disk.now in
    let w = g.D.Disk.view c.commit_behind_gate.new.disk in
    record {
      durable = search rules;
      atomic = (subst (λ (l : OpenLog). CommitMoments l v w) c.self.view_is (commit_moments log c.as_slice.result.now v w c.if-count-eq0.false c.as_slice.ensures.value (c.commit_behind_gate.ensures.any_moment told))) entries batch open_log staged;
    }

pub returns-clause-commits : goal.returns-clause-commits
returns-clause-commits g c told entries batch open_log staged =
    let log : OpenLog = record { name = c.self.inside.name; gate = c.self.inside.gate; entries = c.self.inside.entries; bytes = c.self.inside.stage; staged = c.self.inside.staged } in
    let v = g.D.Disk.view c.args.disk.now in
    let w = g.D.Disk.view c.commit_behind_gate.new.disk in
    record {
      durable = committed_log log (record { name = c.self.inside.name; gate = c.self.inside.gate + length c.as_slice-2.result.now; entries = c.self.inside.entries + c.self.inside.staged; bytes = c.clear.new.self; staged = 0 })
          c.as_slice.result.now v w entries batch c.if-count-eq0.false c.as_slice.ensures.value (c.in_ok-commit_behind_gate.ensures.committed told)
          (subst (λ (l : OpenLog). IsOpen l v entries) (sym c.self.view_is) open_log)
          (subst (λ (l : OpenLog). IsStaged l batch) (sym c.self.view_is) staged)
          refl
          (ap (λ (l : List ℕ). c.self.inside.gate + length l) (c.as_slice-2.ensures.value ∙ sym c.as_slice.ensures.value))
          refl;
      atomic = (subst (λ (l : OpenLog). CommitMoments l v w) c.self.view_is (commit_moments log c.as_slice.result.now v w c.if-count-eq0.false c.as_slice.ensures.value (c.commit_behind_gate.ensures.any_moment told))) entries batch open_log staged;
    }

pub returns-clause-stage_emptied : goal.returns-clause-stage_emptied
returns-clause-stage_emptied g c = record { each = tt; bytes = c.clear.ensures ∙ sym behind_none; count = refl }
