use Rattle.std.proofs.Common.{◌≡◌, List, ℕ, length, subst, ap, arith}
use Rattle.std.proofs.lemmas.Result.{on_ok_weaker}
use Rattle.log_model.specs.Files.{content, Reads}
use Rattle.disk_images.specs.Crash.{overwritten}
use Rattle.disk_fakes.specs.Table.{files_in}
use Rattle.disk_fakes.specs.Laws.{reached}
use Rattle.disk_fakes.proofs.table.FileTable.write_within.Goals as goal

pub returns-then-reaches : goal.returns-then-reaches
returns-then-reaches c =
    let text = reached (content (files_in c.args.self.now) c.args.name) c.args.at (c.reaches.ensures.0 c.if-reaches.true) in
    let one : (d : List ℕ) → Reads (files_in c.args.self.now) c.args.name d → text.0 ≡ d = λ d reads. let there = text.1 in cc (there, reads) in
    on_ok_weaker c.overwrite.result
    (λ (now : Reads (files_in c.overwrite.new.self) c.args.name (overwritten text.0 c.args.at c.args.bytes.now)). record {
      others = c.overwrite.ensures.others;
      absent = λ none. let there = text.1 in absurd (cc (none, there));
      short = λ d reads lt. absurd (omega (arith, lt, text.2, ap length (one d reads)));
      written = λ d reads le. subst (λ (l : List ℕ). Reads (files_in c.overwrite.new.self) c.args.name (overwritten l c.args.at c.args.bytes.now)) (one d reads) now;
    })
    (c.overwrite.ensures.written text.0 text.1)
