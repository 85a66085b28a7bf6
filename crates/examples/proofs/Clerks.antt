-- What clerks promise together, once their server is closed.
use Rattle.std.proofs.Common.{◌≡◌, ℕ, List, Contains, Some, refl, sym, ap, ◌∙◌, subst, arith}
use Rattle.disk_images.specs.Crash.{DiskView}
use Rattle.server_model.specs.Pass.{Pass, Naming}
use Rattle.run_model.proofs.Lists.{mapped, map_contains}
use Rattle.embedded_run.specs.Deeds.{Deed, lasts_in, HaveDone}
use Rattle.embedded_run.specs.Receipts.{KeepsReceipts}
use Rattle.embedded_run.proofs.Doing.{done_each}
use Rattle.examples.specs.Persons.{KnowsPerson, person}
use Rattle.examples.specs.Clerks.{AreThereForGood}
use Rattle.examples.specs.declared.clerk.Clerk.{Clerk}
use Rattle.examples.proofs.Persons.{one_cell_puts}

-- what a clerk says of its work
abbrev pub says : Clerk → Naming → ℕ → Pass → Pass → Clerk → Type 0
says before name time first last after = (n : ℕ) → after.acknowledged ≡ Some n → KnowsPerson after.row.now after.name.now n last

pub there_for_good : (left : DiskView) (time : ℕ) (befores afters : List Clerk) (name : Naming) (deeds : List (Deed Clerk)) → HaveDone says time 1 befores afters name deeds
    → KeepsReceipts left name.regions (lasts_in deeds) → AreThereForGood left afters
there_for_good left time befores afters name deeds done receipts c n there is J image =
    let m = mapped (λ (d : Deed Clerk). d.after) deeds c (subst (λ l. Contains l c) (sym done.after) there) in
    let d = m.0 in
    let k : KnowsPerson c.row.now c.name.now n d.last =
    subst (λ (x : Clerk). KnowsPerson x.row.now x.name.now n d.last) m.2 ((done_each says name time 1 deeds d done.each m.1).1.said n (ap (λ (x : Clerk). x.acknowledged) m.2 ∙ is)) in
    receipts d.last 1 k.edit (map_contains (λ (x : Deed Clerk). x.last) deeds d m.1) (omega arith) (omega (arith, done.regions_are)) k.own (omega (arith, k.number_is, k.synced)) J _ _ image
    (one_cell_puts k.edit.entry n (person c.row.now c.name.now) k.cells k.number_is)
