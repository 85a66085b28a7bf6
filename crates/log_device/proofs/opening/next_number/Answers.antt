use Rattle.std.proofs.Common.{◌≡◌, ◌≤◌, ◌∙◌, List, Contains, refl, sym, subst, arith}
use Rattle.log_model.specs.declared.name.Name.{Name}
use Rattle.log_model.specs.Recovered.{IsGreatest}
use Rattle.log_device.specs.Opened.{log_number}
use Rattle.log_device.proofs.Starting.{HasLog, among_names, number_low}
use Rattle.log_device.proofs.LastNumber.{last_of_names, last_low, names_low}
use Rattle.log_device.proofs.opening.next_number.Goals as goal

pub returns-clause-next : goal.returns-clause-next
returns-clause-next g c told small last greatest =
    let files = (g.D.Disk.view c.args.disk.now).files in
    let found = subst (λ (l : List Name). IsGreatest (HasLog l) c.last_number-last.result) (c.as_slice.ensures ∙ c.in_ok-names.ensures.names told) c.last_number-last.ensures in
    let same : c.last_number-last.result ≡ last = last_of_names files c.last_number-last.result last found greatest in
    omega (arith, same, last_low files last small greatest, c.min.ensures)

pub returns-clause-above : goal.returns-clause-above
returns-clause-above g c told small m there =
    let among : Contains c.as_slice.result.now m = subst (λ (l : List Name). Contains l m) (sym (c.as_slice.ensures ∙ c.in_ok-names.ensures.names told)) (among_names (g.D.Disk.view c.args.disk.now).files m there) in
    let up : log_number m ≤ c.last_number-last.result = c.last_number-last.ensures.bound (log_number m) (m, among, refl) in
    omega (arith, up, number_low m, small m there, c.min.ensures)

pub returns-clause-reached : goal.returns-clause-reached
returns-clause-reached g c told limit low =
    let files = (g.D.Disk.view c.args.disk.now).files in
    let found = subst (λ (l : List Name). IsGreatest (HasLog l) c.last_number-last.result) (c.as_slice.ensures ∙ c.in_ok-names.ensures.names told) c.last_number-last.ensures in
    let least : c.last_number-last.result ≤ limit = names_low files c.last_number-last.result limit found low in
    omega (arith, least, c.min.ensures)
