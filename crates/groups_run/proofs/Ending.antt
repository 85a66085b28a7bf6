-- How many regions closed servers have.
use Rattle.std.proofs.Common.{◌≡◌, ℕ, zero, suc, Bool, List, map, length, Option, Some, None, IfSome, option_map, refl, sym, ◌∙◌, ap}
use Rattle.std.proofs.lemmas.List.{length-map}
use Rattle.std.proofs.lemmas.List.FromFn.{length-range_with_len}
use Rattle.std.specs.List.{range_with_len}
use Rattle.std.specs.Global.{Vec}
use Rattle.disk_images.specs.declared.disk.Disk.{Ghosts}
use Rattle.group_calls.specs.log_service.log_halves.declared.name.ServiceNaming.{Ghosts as LogGhosts}
use Rattle.group_calls.specs.log_service.declared.seats.LogSeat.{LogSeat}
use Rattle.group_calls.specs.log_service.Places.{ServiceId}
use Rattle.group_calls.specs.region_calls.declared.closed.ClosedRegion.{ClosedRegion}
use Rattle.group_calls.specs.region_calls.declared.naming.ServerNaming.{Ghosts as NameGhosts}
use Rattle.group_calls.specs.region_calls.declared.passes.Passes.{Passes}
use Rattle.group_calls.specs.region_calls.Deals.{passes_back}
use Rattle.group_calls.specs.region_lock.declared.naming.LockNaming.{Ghosts as LockGhosts}
use Rattle.region_versions.specs.declared.naming.VersionsNaming.{Ghosts as VersionGhosts}
use Rattle.server_model.specs.Pass.{Pass as ThePass}
use Rattle.group_calls.specs.group_servers.group_lists.declared.lists.GroupList.{GroupList}
use Rattle.group_calls.specs.group_servers.group_lists.Choosing.{AreAsMany}
use Rattle.group_calls.specs.group_servers.declared.shutting.ServerEnd.{ServerEnd}
use Rattle.group_calls.specs.group_servers.Closing.{EndsSo, HasEndedAt}
use Rattle.group_calls.specs.group_servers.Dealing.{AreBackAt}
use Rattle.groups_run.specs.Closing.{regions_in}

numbered : (n : ℕ) (cs : List ClosedRegion) → map (λ (x : ClosedRegion). x.region) cs ≡ range_with_len 1 n → length cs ≡ n
numbered n cs numbers = sym (length-map cs (λ (x : ClosedRegion). x.region)) ∙ ap length numbers ∙ length-range_with_len 1 n

module _ {D N : Type 0} (f : Ghosts D) (s : NameGhosts N) (g : LockGhosts N) (l : LogGhosts N) (v : VersionGhosts N) where
  pub ended_so : (n : ℕ) (passes : List ThePass) (disk : D) (broken : Bool) (rs : Option (Vec ClosedRegion)) → s.name.regions ≡ n
      → EndsSo f s g l v passes disk broken rs → (xs : Vec ClosedRegion) → rs ≡ Some xs → length xs.items ≡ n
  ended_so n passes disk broken None same ends xs is = absurd (cc is)
  ended_so n passes disk broken (Some cs) same ends xs is =
      let one : xs ≡ cs = cc is in
      ap (λ (v : Vec ClosedRegion). length v.items) one ∙ numbered s.name.regions cs.items ends.numbers ∙ same

  pub ended_at : (n handlers : ℕ) (place : Option ServiceId) (p : Option (Passes N g)) (seats : Option (List LogSeat)) (e : Option (ServerEnd D))
      → AreBackAt place handlers p seats → IfSome place (λ _. s.name.regions ≡ n) → HasEndedAt f s g l v p e
      → (xs : Vec ClosedRegion) → option_map (λ e. e.regions) e ≡ Some (Some xs) → length xs.items ≡ n
  ended_at n handlers place None seats None back same ends xs is = absurd (cc is)
  ended_at n handlers place None seats (Some e) back same ends xs is = absurd ends
  ended_at n handlers place (Some p) seats None back same ends xs is = absurd ends
  ended_at n handlers None (Some p) seats (Some e) back same ends xs is = absurd back
  ended_at n handlers (Some place) (Some p) seats (Some e) back same ends xs is =
      let at : e.regions ≡ Some xs = cc is in
      ended_so n (passes_back p) e.disk e.broken e.regions same ends xs at

-- both seats of those that help are back
pub two_back : {N : Type 0} {g : LockGhosts N} (place : Option ServiceId) (handlers : ℕ) (p : Option (Passes N g)) (seats : Option (List LogSeat)) → AreBackAt place handlers p seats
    → IfSome seats (λ seats. length seats ≡ 2)
two_back place handlers p None back = tt
two_back None handlers None (Some seats) back = absurd back
two_back None handlers (Some p) (Some seats) back = absurd back
two_back (Some place) handlers None (Some seats) back = absurd back
two_back (Some place) handlers (Some p) (Some seats) back = back.seats.0

-- all have as many
pub as_many : {D : Type 0} (n : ℕ) (ends : GroupList (ServerEnd D)) → ((xs : Vec ClosedRegion) → ends.first.regions ≡ Some xs → length xs.items ≡ n)
    → ((xs : Vec ClosedRegion) → option_map (λ e. e.regions) ends.second ≡ Some (Some xs) → length xs.items ≡ n)
    → ((xs : Vec ClosedRegion) → option_map (λ e. e.regions) ends.third ≡ Some (Some xs) → length xs.items ≡ n)
    → ((xs : Vec ClosedRegion) → option_map (λ e. e.regions) ends.fourth ≡ Some (Some xs) → length xs.items ≡ n)
    → AreAsMany n (regions_in ends)
as_many n ends a b c d zero xs is = absurd (cc is)
as_many n ends a b c d (suc zero) xs is = (let one : ends.first.regions ≡ Some xs = cc is in a xs one)
as_many n ends a b c d (suc (suc zero)) xs is = b xs is
as_many n ends a b c d (suc (suc (suc zero))) xs is = c xs is
as_many n ends a b c d (suc (suc (suc (suc zero)))) xs is = d xs is
as_many n ends a b c d (suc (suc (suc (suc (suc k))))) xs is = absurd (cc is)

-- as many as the first one's, where those are there
pub as_first : (n : ℕ) (rs : Option (Vec ClosedRegion)) (lists : GroupList (Option (Vec ClosedRegion)))
    → ((xs : Vec ClosedRegion) → rs ≡ Some xs → length xs.items ≡ n) → AreAsMany n lists → IfSome rs (λ xs. AreAsMany (length xs.items) lists)
as_first n None lists first many = tt
as_first n (Some cs) lists first many = λ k xs is. many k xs is ∙ sym (first cs refl)
