use Rattle.std.proofs.Common.{rules, ◌≢◌}
use Rattle.std.proofs.lemmas.Fn.{All-from_retain}
use Rattle.std.proofs.lemmas.List.Elements.{All-contains}
use Rattle.folder_system.proofs.Retained.{kept_there}
use Rattle.folder_system.proofs.open_files.OpenFiles.close.Goals as goal

pub returns-clause-closed : goal.returns-clause-closed
returns-clause-closed g c f has =
    All-contains (λ e. e.name ≢ c.args.name) c.retain.new.self.items f
    (All-from_retain _ (λ e. e.name ≢ c.args.name) _ (λ x b f' k. search rules) _ _ c.retain.ensures.filtered) has

pub returns-clause-kept : goal.returns-clause-kept
returns-clause-kept g c f has = kept_there _ _ c.args.self.now.files.items c.retain.new.self.items c.retain.ensures.filtered f has
