use Rattle.std.proofs.Common.{◌≡◌, ◌⊎◌, inl, inr}
use Rattle.std.proofs.Math.Logic.{∥∥₁_map, ∥∥₁_elim}
use Rattle.disk_images.proofs.RenamedOrGone.{renaming}
use Rattle.disk_images.proofs.moving.rename_durable.Goals as goal

pub rename-requires-clause-from : goal.rename-requires-clause-from
rename-requires-clause-from g c told = ∥∥₁_map (c.requires.durable told) (λ r. (r.0, r.1.reads))

pub returns-clause-any_moment : goal.returns-clause-any_moment
returns-clause-any_moment g c told bytes file =
    let free = c.requires.free told in
    renaming c.args.from c.args.to bytes (g.D.Disk.view c.args.disk.now) (g.D.Disk.view c.rename.new.self) (g.met.D.Disk.is_true c.args.disk.now told) file free.0 free.1 (c.rename.ensures.renames told)

pub returns-clause-touches : goal.returns-clause-touches
returns-clause-touches g c told =
    let u = g.D.Disk.view c.args.disk.now in
    let renames = c.rename.ensures.renames told in record {
      others = renames.others;
      gone = renames.gone;
      formerly = λ n m former. elim (renames.formerly n m former) as (λ _. u.formerly n m ⊎ ((n ≡ c.args.to) × (m ≡ c.args.from))) [
        | inl before ↦ inl before
        | inr new ↦ inr (
          new.0,
          elim new.1 as (λ _. m ≡ c.args.from) [
            | inl is ↦ is
            | inr once ↦ absurd (∥∥₁_elim (c.requires.durable told) (λ a b. absurd a) (λ r. r.1.unmoved m once))
          ],
        )
      ];
    }
