-- What the closes of several servers say of the handlers' replies, and of the cells that were found.
use Rattle.std.proofs.Common.{◌≡◌, ℕ, ◌≤◌, Bool, true, List, map, Contains, Some, refl, sym, subst}
use Rattle.std.proofs.lemmas.Bool.{eq-eqb}
use Rattle.std.proofs.Math.Logic.{∥∥₁_map}
use Rattle.cell_model.specs.Batch.{Batch}
use Rattle.log_model.specs.Files.{Files}
use Rattle.region_model.specs.Calls.{Call, Put, Scan, Flush, Roll, Answer, PutSpent, IsAnswerTo, Reply}
use Rattle.script_model.specs.Calls.{Script, Asked}
use Rattle.disk_images.specs.Crash.{DiskView}
use Rattle.server_model.specs.Pass.{Naming}
use Rattle.server_model.specs.Steps.{IsFault}
use Rattle.server_model.specs.Closing.{Region, Handled, IsClosedRegion, Survives, passes_of, replies_of}
use Rattle.server_model.proofs.JournalLaws.{filter_has}
use Rattle.server_model.proofs.RepliesLaw.{kept_of}
use Rattle.run_model.specs.declared.spent.Spent.{Spent}
use Rattle.run_model.specs.Spent.{IsSpent, IsFirstSpent, OnlyPuts, first_spent}
use Rattle.run_model.specs.Closed.{ClosedAt, ClosedOn}
use Rattle.run_model.specs.Headline.{AllKeep, KeepsFound}
use Rattle.run_model.proofs.FromClose.{fault_is_told, region_there}
use Rattle.run_model.proofs.KeepsFound.{all_keep, left_keeps}
use Rattle.run_model.proofs.SpentLaws.{found as found_first}
use Rattle.groups_model.specs.Groups.{group_for, IsGroup, is_on}
use Rattle.groups_model.specs.Closed.{GroupHandled, all_replies, handled_on, AreClosed}
use Rattle.groups_model.proofs.Parts.{group_there, replies_joined}

-- ---- replies

-- a call is on one of the groups
call_there : (groups h : ℕ) (call : Call) → 1 ≤ groups → IsGroup groups (group_for groups h call)
call_there groups h (Put r sync batch) some = group_there groups r some
call_there groups h (Scan view r from to) some = group_there groups r some
call_there groups h (Flush r family) some = group_there groups r some
call_there groups h Roll some = group_there groups h some

-- only puts are answered spent
spent_of_put : (call : Call) (answer : Answer) → IsAnswerTo call answer → IsSpent answer → (region : ℕ) × (sync : Bool) × (batch : Batch) × (call ≡ Put region sync batch)
spent_of_put (Put region sync batch) answer fits told = (region, sync, batch, refl)
spent_of_put (Scan view region from to) (PutSpent n) fits told = absurd cc
spent_of_put (Flush region family) (PutSpent n) fits told = absurd cc
spent_of_put Roll (PutSpent n) fits told = absurd cc
spent_of_put (Scan view region from to) answer fits told = absurd told
spent_of_put (Flush region family) answer fits told = absurd told
spent_of_put Roll answer fits told = absurd told

module _ {groups : ℕ} {script : Script} {found left : ℕ → DiskView} {names : ℕ → Naming} {hs : List GroupHandled} {xs : ℕ → List ClosedAt} {broken : ℕ → Bool}
    (some : 1 ≤ groups) (c : AreClosed groups script found left names hs xs broken) where
  -- a reply is one of its group's server
  reply_of_group : (x : Reply) → Contains (all_replies hs) x → let k = group_for groups x.handler x.call in IsGroup groups k × Contains (replies_of (map (handled_on groups k) hs)) x
  reply_of_group x is =
      let k = group_for groups x.handler x.call in (
        call_there groups x.handler x.call some,
        subst (λ l. Contains l x) (sym (replies_joined groups k hs)) (filter_has (is_on groups k) (all_replies hs) x is (eq-eqb k k refl)),
      )

  -- a fault among the replies is of a group whose log is broken
  pub fault_broke : (x : Reply) → Contains (all_replies hs) x → IsFault x.answer → (k : ℕ) × IsGroup groups k × (broken k ≡ true)
  fault_broke x is fault =
      let k = group_for groups x.handler x.call in
      let on = reply_of_group x is in
      (k, on.0, fault_is_told (c.each k on.0) x on.1 fault)

  only_puts : OnlyPuts (all_replies hs)
  only_puts x is spent =
      let k = group_for groups x.handler x.call in
      let on = reply_of_group x is in
      spent_of_put x.call x.answer (kept_of (names k) script.time (map (handled_on groups k) hs) (c.each k on.0).runs x on.1).2.answers spent

  -- where a put was answered spent the first one is named
  pub first_of_closes : (s : Spent) → first_spent (all_replies hs) ≡ Some s → IsFirstSpent s (all_replies hs)
  first_of_closes s first = found_first (all_replies hs) only_puts s first

-- ---- disks

module _ {asks : List Asked} {script : Script} {found : Files} {left : DiskView} {name : Naming} {hs : List Handled} {xs : List ClosedAt} {broken : Bool}
    (c : ClosedOn asks script found left name hs xs broken) where
  close_keeps : AllKeep found left
  close_keeps = left_keeps found left name (passes_of hs) script.regions broken c.script_right.some_region at c.leaves c.bases
    where
      at : (r : ℕ) → 1 ≤ r → r ≤ script.regions → ∥ ((x : Region) × IsClosedRegion name r (passes_of hs) x × Survives left broken r x) ∥₁
      at r low high =
          let x = region_there c r low high in
          ∥∥₁_map (c.survives x.0 x.1) (λ kept. (x.0.it, subst (λ k. IsClosedRegion name k (passes_of hs) x.0.it) x.2 (c.regions x.0 x.1), subst (λ k. Survives left broken k x.0.it) x.2 kept))

-- each disk keeps what was found
pub closes_keep : {groups : ℕ} {script : Script} {found left : ℕ → DiskView} {names : ℕ → Naming} {hs : List GroupHandled} {xs : ℕ → List ClosedAt} {broken : ℕ → Bool}
    → AreClosed groups script found left names hs xs broken → (k : ℕ) → IsGroup groups k → KeepsFound (found k) (left k)
closes_keep {groups} {script} {found} {left} {names} {hs} {xs} {broken} c k is = all_keep (found k) (left k) (close_keeps (c.each k is))
