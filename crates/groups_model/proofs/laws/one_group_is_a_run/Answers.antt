use Rattle.std.proofs.Common.{ℕ}
use Rattle.disk_images.specs.Calls.{Rose}
use Rattle.groups_model.proofs.OneGroup.{to_run, from_run}
use Rattle.groups_model.proofs.laws.one_group_is_a_run.Goals as goal

pub returns : goal.returns
returns g c script before after status text =
    let rose : ℕ → Type 0 = λ k. Rose (g.D.Disk.faults (before k)) (g.D.Disk.faults (after k)) in (
      to_run script (λ k. g.D.Disk.view (before k)) (λ k. g.D.Disk.view (after k)) rose status text,
      (λ both. from_run script (λ k. g.D.Disk.view (before k)) (λ k. g.D.Disk.view (after k)) rose status text both.0 both.1),
    )
