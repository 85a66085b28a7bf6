-- Passes of several servers, as they are handed out and come back.
use Rattle.std.proofs.Common.{◌≡◌, ℕ, ◌+◌, ◌<◌, ◌≤◌, List, [], ◌∷◌, ◌++◌, length, map, Option, Some, None, IfSome, refl, sym, ap, subst, ◌∙◌, arith}
use Rattle.std.proofs.lemmas.List.{map-append, length-map}
use Rattle.disk_images.specs.declared.disk.Disk.{Ghosts as Disks}
use Rattle.group_calls.specs.log_service.log_halves.declared.name.ServiceNaming.{Ghosts as LogGhosts}
use Rattle.group_calls.specs.log_service.declared.seats.LogSeat.{LogSeat}
use Rattle.group_calls.specs.log_service.Places.{ServiceId}
use Rattle.server_model.specs.Pass.{Pass as ThePass, IsFresh}
use Rattle.group_calls.specs.region_lock.declared.naming.LockNaming.{Ghosts}
use Rattle.region_versions.specs.declared.naming.VersionsNaming.{Ghosts as VersionGhosts}
use Rattle.group_calls.specs.region_calls.declared.naming.ServerNaming.{Ghosts as NameGhosts}
use Rattle.group_calls.specs.region_calls.declared.pass.Pass.{Pass}
use Rattle.group_calls.specs.region_calls.declared.passes.Passes.{Passes}
use Rattle.group_calls.specs.region_calls.Deals.{passes_out, passes_back}
use Rattle.group_calls.specs.region_calls.Passes.{knows}
use Rattle.group_calls.specs.script_handlers.declared.handler.Handler.{Handler}
use Rattle.group_calls.specs.group_servers.declared.shutting.ServerEnd.{ServerEnd}
use Rattle.group_calls.specs.group_servers.Closing.{HasEnded, HasEndedAt}
use Rattle.group_calls.specs.group_servers.Dealing.{ArePassesAt, AreBackAt, IsBackAt, IsEvenAt, IsNextAt, IsRoomAt}
use Rattle.group_calls.specs.group_servers.Helping.{AreSeatsAt}
use Rattle.group_calls.specs.group_servers.Passes.{known_by}
use Rattle.group_calls.specs.declared.groups.GroupPass.{GroupPass}
use Rattle.groups_run.specs.declared.helpers.GroupHelpers.{GroupHelpers}
use Rattle.groups_run.specs.declared.passes.GroupPasses.{GroupPasses}
use Rattle.groups_run.specs.Dealing.{AreAllBack, AreGroupPassesOf, HasBack, HasNext, HasRoom, NoneIsOut, groups_out}
use Rattle.groups_run.specs.Helpers.{AreHelpersOf, AreTwoEach}
use Rattle.group_calls.specs.Passes.{known}
use Rattle.group_calls.specs.Servers.{Servers}
use Rattle.groups_run.specs.Ended.{HasEndedOf}
use Rattle.groups_run.specs.Handing.{IsFreshAt, AreFresh, NoneIsBack, HaveBack, known_on}

-- ---- one group's

module _ {N : Type 0} {g : Ghosts N} where
  none_at : (p : Option (Passes N g)) (x : Option (Pass N g)) (q : Option (Passes N g)) → IsNextAt p x q → IfSome p (λ p. passes_back p ≡ []) → IfSome q (λ q. passes_back q ≡ [])
  none_at p x None step none = tt
  none_at None None (Some q) step none = absurd step
  none_at None (Some x) (Some q) step none = absurd step
  none_at (Some p) None (Some q) step none = absurd step
  none_at (Some p) (Some x) (Some q) step none = step.back ∙ none

  fresh_at : (h these out n : ℕ) (p : Option (Passes N g)) (x : Option (Pass N g)) (q : Option (Passes N g)) → IsEvenAt h out these p → n ≡ out + 1 → IsNextAt p x q → IsFreshAt n x
  fresh_at h these out n p None q even is step = tt
  fresh_at h these out n None (Some x) q even is step = absurd step
  fresh_at h these out n (Some p) (Some x) None even is step = absurd step
  fresh_at h these out n (Some p) (Some x) (Some q) even is step =
      let same : passes_out p + 1 ≡ n = omega (arith, even.1, is) in
      subst (λ m. IsFresh m (knows x)) same step.fresh

  back_at : (ls : List ThePass) (p : Option (Passes N g)) (x : Option (Pass N g)) (q : Option (Passes N g)) → IsBackAt p x q → IfSome p (λ p. passes_back p ≡ ls) → IfSome q (λ q. passes_back q ≡ ls ++ known_by x ∷ [])
  back_at ls p x None step is = tt
  back_at ls None None (Some q) step is = absurd step
  back_at ls None (Some x) (Some q) step is = absurd step
  back_at ls (Some p) None (Some q) step is = absurd step
  back_at ls (Some p) (Some x) (Some q) step is = step.back ∙ ap (λ l. l ++ knows x ∷ []) is

  pub same_back : (ls ms : List ThePass) (p : Option (Passes N g)) → ls ≡ ms → IfSome p (λ p. passes_back p ≡ ls) → IfSome p (λ p. passes_back p ≡ ms)
  same_back ls ms None same is = tt
  same_back ls ms (Some p) same is = is ∙ same

  room_at : (h these out : ℕ) (ls : List ThePass) (p : Option (Passes N g)) → IfSome p (λ p. passes_back p ≡ ls) → length ls < out → IsEvenAt h out these p → IsRoomAt p
  room_at h these out ls None is few even = tt
  room_at h these out ls (Some p) is few even = let e = even.1 in omega (arith, ap length is, few, e)

  all_at : (place : Option ServiceId) (h these out : ℕ) (ls : List ThePass) (p : Option (Passes N g)) (seats : Option (List LogSeat)) → ArePassesAt place these p → IsEvenAt h out these p → out ≡ h
      → IfSome p (λ p. passes_back p ≡ ls) → length ls ≡ h → AreSeatsAt place seats → IfSome seats (λ ss. length ss ≡ 2) → AreBackAt place these p seats
  all_at None h these out ls None None are even full is len sat two = tt
  all_at None h these out ls None (Some ss) are even full is len sat two = absurd sat
  all_at None h these out ls (Some p) seats are even full is len sat two = absurd are
  all_at (Some place) h these out ls None seats are even full is len sat two = absurd are
  all_at (Some place) h these out ls (Some p) None are even full is len sat two = absurd sat
  all_at (Some place) h these out ls (Some p) (Some ss) are even full is len sat two =
      record { of = are; out = even.1 ∙ full ∙ sym even.0; back = ap length is ∙ len ∙ sym even.0; seats = (two, sat) }

module _ {D N : Type 0} (f : Disks D) (s : NameGhosts N) (g : Ghosts N) (l : LogGhosts N) (v : VersionGhosts N) where
  pub ended_of : (place : Option ServiceId) (h : ℕ) (ls : List ThePass) (p : Option (Passes N g)) (seats : Option (List LogSeat)) (e : Option (ServerEnd D)) → AreBackAt place h p seats
      → IfSome p (λ p. passes_back p ≡ ls) → HasEndedAt f s g l v p e → HasEndedOf f s g l v place ls e
  ended_of None h ls None seats None back is ends = tt
  ended_of None h ls None seats (Some e) back is ends = absurd ends
  ended_of None h ls (Some p) seats e back is ends = absurd back
  ended_of (Some place) h ls None seats e back is ends = absurd back
  ended_of (Some place) h ls (Some p) seats None back is ends = absurd ends
  ended_of (Some place) h ls (Some p) seats (Some e) back is ends = subst (λ ps. HasEnded f s g l v ps e) is ends

-- ---- those of all groups

module _ {N1 N2 N3 N4 : Type 0} {g1 : Ghosts N1} {g2 : Ghosts N2} {g3 : Ghosts N3} {g4 : Ghosts N4} where
  pub none_out : (p : GroupPasses N1 N2 N3 N4 g1 g2 g3 g4) → NoneIsOut p → NoneIsBack p
  none_out p none = record { first = none.first.1; second = at p.second none.second; third = at p.third none.third; fourth = at p.fourth none.fourth }
    where
      at : {N : Type 0} {g : Ghosts N} (q : Option (Passes N g)) → IfSome q (λ q. (passes_out q ≡ 0) × (passes_back q ≡ [])) → IfSome q (λ q. passes_back q ≡ [])
      at None is = tt
      at (Some q) is = is.1

  pub none_next : (old : GroupPasses N1 N2 N3 N4 g1 g2 g3 g4) (x : GroupPass N1 N2 N3 N4 g1 g2 g3 g4) (new : GroupPasses N1 N2 N3 N4 g1 g2 g3 g4) → HasNext old x new → NoneIsBack old → NoneIsBack new
  none_next old x new step none = record {
    first = step.first.back ∙ none.first;
    second = none_at old.second x.second new.second step.second none.second;
    third = none_at old.third x.third new.third step.third none.third;
    fourth = none_at old.fourth x.fourth new.fourth step.fourth none.fourth;
  }

  pub next_fresh : (s : Servers) (h1 h2 h3 h4 n : ℕ) (old : GroupPasses N1 N2 N3 N4 g1 g2 g3 g4) (x : GroupPass N1 N2 N3 N4 g1 g2 g3 g4) (new : GroupPasses N1 N2 N3 N4 g1 g2 g3 g4)
      → AreGroupPassesOf s h1 h2 h3 h4 old → HasNext old x new → n ≡ groups_out old + 1 → AreFresh n x
  next_fresh s h1 h2 h3 h4 n old x new are step is = record {
    first = subst (λ m. IsFresh m (knows x.first)) (sym is) step.first.fresh;
    second = fresh_at h1 h2 (passes_out old.first) n old.second x.second new.second are.second_even is step.second;
    third = fresh_at h1 h3 (passes_out old.first) n old.third x.third new.third are.third_even is step.third;
    fourth = fresh_at h1 h4 (passes_out old.first) n old.fourth x.fourth new.fourth are.fourth_even is step.fourth;
  }

  -- none of no handler is back
  pub back_none : (p : GroupPasses N1 N2 N3 N4 g1 g2 g3 g4) → NoneIsBack p → HaveBack p []
  back_none p none = record { first = none.first; second = none.second; third = none.third; fourth = none.fourth }

  pub back_more : (old : GroupPasses N1 N2 N3 N4 g1 g2 g3 g4) (hs : List (Handler (GroupPass N1 N2 N3 N4 g1 g2 g3 g4))) (h : Handler (GroupPass N1 N2 N3 N4 g1 g2 g3 g4)) (new : GroupPasses N1 N2 N3 N4 g1 g2 g3 g4)
      → HaveBack old hs → HasBack old h.pass new → HaveBack new (hs ++ h ∷ [])
  back_more old hs h new have step = record {
    first = step.first.back ∙ ap (λ l. l ++ knows h.pass.first ∷ []) have.first ∙ sym (pushed 1);
    second = same_back (known_on 2 hs ++ known_by h.pass.second ∷ []) (known_on 2 (hs ++ h ∷ [])) new.second (sym (pushed 2)) (back_at (known_on 2 hs) old.second h.pass.second new.second step.second have.second);
    third = same_back (known_on 3 hs ++ known_by h.pass.third ∷ []) (known_on 3 (hs ++ h ∷ [])) new.third (sym (pushed 3)) (back_at (known_on 3 hs) old.third h.pass.third new.third step.third have.third);
    fourth = same_back (known_on 4 hs ++ known_by h.pass.fourth ∷ []) (known_on 4 (hs ++ h ∷ [])) new.fourth (sym (pushed 4)) (back_at (known_on 4 hs) old.fourth h.pass.fourth new.fourth step.fourth have.fourth);
  }
    where
      pushed : (k : ℕ) → known_on k (hs ++ h ∷ []) ≡ known_on k hs ++ known h.pass k ∷ []
      pushed k = map-append (λ (x : Handler (GroupPass N1 N2 N3 N4 g1 g2 g3 g4)). known x.pass k) hs (h ∷ [])

  length_on : (k : ℕ) (hs : List (Handler (GroupPass N1 N2 N3 N4 g1 g2 g3 g4))) → length (known_on k hs) ≡ length hs
  length_on k hs = length-map hs (λ (x : Handler (GroupPass N1 N2 N3 N4 g1 g2 g3 g4)). known x.pass k)

  pub has_room : (s : Servers) (h1 h2 h3 h4 : ℕ) (p : GroupPasses N1 N2 N3 N4 g1 g2 g3 g4) (hs : List (Handler (GroupPass N1 N2 N3 N4 g1 g2 g3 g4))) → AreGroupPassesOf s h1 h2 h3 h4 p → HaveBack p hs
      → length hs < groups_out p → HasRoom p
  has_room s h1 h2 h3 h4 p hs are have few = record {
    first = omega (arith, ap length have.first, length_on 1 hs, few);
    second = room_at h1 h2 (passes_out p.first) (known_on 2 hs) p.second have.second (omega (arith, length_on 2 hs, few)) are.second_even;
    third = room_at h1 h3 (passes_out p.first) (known_on 3 hs) p.third have.third (omega (arith, length_on 3 hs, few)) are.third_even;
    fourth = room_at h1 h4 (passes_out p.first) (known_on 4 hs) p.fourth have.fourth (omega (arith, length_on 4 hs, few)) are.fourth_even;
  }

  pub all_back : (s : Servers) (h1 h2 h3 h4 : ℕ) (p : GroupPasses N1 N2 N3 N4 g1 g2 g3 g4) (hs : List (Handler (GroupPass N1 N2 N3 N4 g1 g2 g3 g4))) (seats : GroupHelpers) → AreGroupPassesOf s h1 h2 h3 h4 p
      → HaveBack p hs → groups_out p ≡ h1 → length hs ≡ h1 → AreHelpersOf s seats → AreTwoEach seats → AreAllBack s h1 h2 h3 h4 p seats
  all_back s h1 h2 h3 h4 p hs seats are have full len sat two = record {
    first = record { of = are.first; out = full; back = ap length have.first ∙ length_on 1 hs ∙ len; seats = (two.first, sat.first) };
    second = all_at s.second h1 h2 (passes_out p.first) (known_on 2 hs) p.second seats.second are.second are.second_even full have.second (length_on 2 hs ∙ len) sat.second two.second;
    third = all_at s.third h1 h3 (passes_out p.first) (known_on 3 hs) p.third seats.third are.third are.third_even full have.third (length_on 3 hs ∙ len) sat.third two.third;
    fourth = all_at s.fourth h1 h4 (passes_out p.first) (known_on 4 hs) p.fourth seats.fourth are.fourth are.fourth_even full have.fourth (length_on 4 hs ∙ len) sat.fourth two.fourth;
  }
