use Rattle.std.proofs.Math.Logic.{∥∥₁_map}
use Rattle.std.proofs.Common.{rules, List, Some, sym, subst}
use Rattle.log_model.specs.Files.{content}
use Rattle.log_model.specs.Entry.{Entry}
use Rattle.disk_images.specs.OneFile.{IsDurableFile}
use Rattle.recovery_laws.specs.Change.{HasText}
use Rattle.log_file.specs.LogText.{front, ended_text}
use Rattle.log_file.specs.Open.{OpenLog, IsOpen}
use Rattle.log_file.proofs.Committed.{EndMoments, end_moments, finished_file, finished_text}
use Rattle.log_file.proofs.file.LogFile.finish.Goals as goal

pub commit_behind_gate-requires-clause-closed : goal.commit_behind_gate-requires-clause-closed
commit_behind_gate-requires-clause-closed g c told =
    ∥∥₁_map (c.requires.«open» told) (λ r.
    let open_log = subst (λ (l : OpenLog). IsOpen l (g.D.Disk.view c.args.disk.now) r.0) (sym c.self.view_is) r.1 in
    (front c.self.inside.name.number r.0, open_log.file, open_log.gate))

pub returns-in_err-commit_behind_gate-clause-finishes : goal.returns-in_err-commit_behind_gate-clause-finishes
returns-in_err-commit_behind_gate-clause-finishes g c told entries open_log =
    let log : OpenLog = record { name = c.self.inside.name; gate = c.self.inside.gate; entries = c.self.inside.entries; bytes = c.self.inside.stage; staged = c.self.inside.staged } in
    let v = g.D.Disk.view c.args.disk.now in
    let w = g.D.Disk.view c.commit_behind_gate.new.disk in
    record {
      durable = search rules;
      counted = search rules;
      atomic = (subst (λ (l : OpenLog). EndMoments l v w) c.self.view_is (end_moments log c.end_text.result v w c.end_text.ensures (c.commit_behind_gate.ensures.any_moment told))) entries open_log;
    }

pub returns-clause-finishes : goal.returns-clause-finishes
returns-clause-finishes g c told entries open_log =
    let log : OpenLog = record { name = c.self.inside.name; gate = c.self.inside.gate; entries = c.self.inside.entries; bytes = c.self.inside.stage; staged = c.self.inside.staged } in
    let v = g.D.Disk.view c.args.disk.now in
    let w = g.D.Disk.view c.commit_behind_gate.new.disk in
    record {
      durable = (subst (λ (l : OpenLog). (es : List Entry) → IsOpen l v es → IsDurableFile w l.name (ended_text l.name.number es)) c.self.view_is
          (λ es is. finished_file log c.end_text.result v w es c.end_text.ensures (c.in_ok-commit_behind_gate.ensures.committed told) is)) entries open_log;
      counted = (subst (λ (l : OpenLog). (es : List Entry) → IsOpen l v es → HasText l.name es (Some c.self.inside.entries) (content w.files l.name)) c.self.view_is
          (λ es is. finished_text log c.end_text.result v w es c.end_text.ensures (c.in_ok-commit_behind_gate.ensures.committed told) is)) entries open_log;
      atomic = (subst (λ (l : OpenLog). EndMoments l v w) c.self.view_is (end_moments log c.end_text.result v w c.end_text.ensures (c.commit_behind_gate.ensures.any_moment told))) entries open_log;
    }
