-- What a refusal says.
use Rattle.std.specs.Prelude.{ℕ, List, [], ◌∷◌, codes}
use Rattle.std.specs.Fmt.{decimal}
use Rattle.script_model.specs.Why.{why_of}
use Rattle.script_model.specs.Outputs.{refused, refused_memory, refused_usage, refused_script, refused_source, refused_disk, refused_damaged, refused_disagree, refused_store}
use Rattle.report_text.specs.declared.refusal.Refusal.{Refusal}
use Rattle.report_text.specs.declared.refusal.Refusal.TheVariants.{Memory, Usage, Script, Source, Disk, Damaged, Disagree, Store, Position}

-- a log and how many entries it has, where a position stands after more of them
unfoldable pub refused_position : ℕ → ℕ → List ℕ
refused_position file has = refused (codes "position" ∷ decimal file ∷ decimal has ∷ [])

abbrev pub refusal_text : Refusal → List ℕ
refusal_text Memory = refused_memory
refusal_text Usage = refused_usage
refusal_text (Script line why) = refused_script line (why_of why)
refusal_text Source = refused_source
refusal_text Disk = refused_disk
refusal_text (Damaged name at) = refused_damaged name at
refusal_text (Disagree first second region number) = refused_disagree first second region number
refusal_text (Store name) = refused_store name
refusal_text (Position file has) = refused_position file has
