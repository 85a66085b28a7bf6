-- Servers of opened stores.
use Rattle.std.proofs.Common.{◌≡◌, ◌≢◌, ℕ, ◌<◌, ◌≤◌, List, [], length, Option, Some, None, IfSome, sym, subst, ◌∙◌, arith, option_map}
use Rattle.group_calls.specs.log_service.declared.seats.LogSeat.{LogSeat}
use Rattle.group_calls.specs.log_service.Places.{ServiceId}
use Rattle.group_calls.specs.region_calls.declared.passes.Passes.{Passes}
use Rattle.group_calls.specs.region_calls.Deals.{passes_out, passes_back}
use Rattle.disk_images.specs.declared.disk.Disk.{Ghosts}
use Rattle.group_calls.specs.log_service.log_halves.declared.name.ServiceNaming.{Ghosts as LogGhosts}
use Rattle.group_calls.specs.region_calls.declared.naming.ServerNaming.{Ghosts as NameGhosts}
use Rattle.group_calls.specs.region_calls.declared.store.OpenedStore.{OpenedStore}
use Rattle.group_calls.specs.region_calls.Store.{disk_now, handlers_of}
use Rattle.group_calls.specs.region_lock.declared.naming.LockNaming.{Ghosts as LockGhosts}
use Rattle.region_versions.specs.declared.naming.VersionsNaming.{Ghosts as VersionGhosts}
use Rattle.group_calls.specs.group_servers.group_lists.declared.lists.GroupList.{GroupList}
use Rattle.group_calls.specs.group_servers.group_lists.Lists.{AtBoth, at_group, counted}
use Rattle.group_calls.specs.group_servers.Dealing.{ArePassesAt, IsEvenAt}
use Rattle.group_calls.specs.group_servers.Helping.{AreSeatsAt}
use Rattle.group_calls.specs.group_servers.Starting.{IsNamedAt, IsNewAt, HasLetGo, HasLetGoAt}
use Rattle.groups_run.specs.Starting.{IsAlike, HeldOrLetGo, HeldOrLetGoAt}

pub map_some_there : {A B : Type 0} (f : A → B) (o : Option A) (d : B) → option_map f o ≡ Some d → o ≢ None
map_some_there f None d is = absurd (cc is)
map_some_there f (Some x) d is = λ e. absurd (cc e)

pub first_there : {A : Type 0} (l : GroupList A) → at_group l 1 ≢ None
first_there l = λ e. absurd (cc e)

pub counted_as : (n : ℕ) (a b c x y z : Option ServiceId) → a ≡ x → b ≡ y → c ≡ z → n ≡ counted x y z → n ≡ counted a b c
counted_as n a b c x y z two three four is = rw (two, three, four) is

pub both_mapped : {A B C : Type 0} (P : A → B → Type 0) (Q : A → C → Type 0) (f : B → C) → ((x : A) (y : B) → P x y → Q x (f y)) → (x : Option A) (y : Option B) → AtBoth P x y
    → AtBoth Q x (option_map f y)
both_mapped P Q f then None None both = tt
both_mapped P Q f then None (Some y) both = absurd both
both_mapped P Q f then (Some x) None both = absurd both
both_mapped P Q f then (Some x) (Some y) both = then x y both

module _ {D N : Type 0} (f : Ghosts D) (s : NameGhosts N) (g : LockGhosts N) (l : LogGhosts N) (v : VersionGhosts N) where
  -- each server that is there has the first one's handlers
  pub even : {S : Type 0} (P : OpenedStore D → S → Type 0) (first : OpenedStore D) (h : ℕ) (o : Option (OpenedStore D)) (x : Option S) → AtBoth P o x → IsNamedAt f s g l v o
      → IfSome o (IsAlike first) → h ≡ handlers_of first → IfSome x (λ _. g.handlers ≡ h)
  even P first h None None both named alike is = tt
  even P first h None (Some y) both named alike is = absurd both
  even P first h (Some o) None both named alike is = absurd both
  even P first h (Some o) (Some y) both named alike is = named.name.handlers_are ∙ alike.1 ∙ sym is

  pub let_go_from : {S : Type 0} (P : OpenedStore D → S → Type 0) (o : Option (OpenedStore D)) (x : Option S) (d : Option D) → AtBoth P o x → AtBoth (λ y d. HasLetGo f s g l v d) x d
      → HasLetGoAt f s g l v o d
  let_go_from P None None None p q = tt
  let_go_from P None None (Some d) p q = absurd q
  let_go_from P None (Some x) d p q = absurd p
  let_go_from P (Some o) None d p q = absurd p
  let_go_from P (Some o) (Some x) None p q = absurd q
  let_go_from P (Some o) (Some x) (Some d) p q = q

  -- the store that was refused, or one after it, is as it was opened
  pub held : (k n : ℕ) (o : OpenedStore D) (d : D) → n ≤ k → d ≡ disk_now o → HeldOrLetGo f s g l v k n o d
  held k n o d low is = (λ _. is, λ high. absurd (omega (arith, low, high)))

  pub held_at : (k n : ℕ) (o : Option (OpenedStore D)) (d : Option D) → n ≤ k → d ≡ option_map disk_now o → HeldOrLetGoAt f s g l v k n o d
  held_at k n o d low is = (λ _. is, λ high. absurd (omega (arith, low, high)))

  -- one before it was let go
  pub gone : (k n : ℕ) (o : OpenedStore D) (d : D) → k < n → HasLetGo f s g l v d → HeldOrLetGo f s g l v k n o d
  gone k n o d high is = (λ low. absurd (omega (arith, low, high)), λ _. is)

  pub gone_at : (k n : ℕ) (o : Option (OpenedStore D)) (d : Option D) → k < n → HasLetGoAt f s g l v o d → HeldOrLetGoAt f s g l v k n o d
  gone_at k n o d high is = (λ low. absurd (omega (arith, low, high)), λ _. is)

-- the parts of servers that were started
module _ {N : Type 0} {g : LockGhosts N} where
  pub passes_new : (h : ℕ) (place : Option ServiceId) (p : Option (Passes N g)) (seats : Option (List LogSeat)) → IsNewAt h place p seats → ArePassesAt place h p
  passes_new h None None None new = tt
  passes_new h None None (Some seats) new = absurd new
  passes_new h None (Some p) seats new = absurd new
  passes_new h (Some place) None seats new = absurd new
  passes_new h (Some place) (Some p) None new = absurd new
  passes_new h (Some place) (Some p) (Some seats) new = new.passes

  pub none_new : (h : ℕ) (place : Option ServiceId) (p : Option (Passes N g)) (seats : Option (List LogSeat)) → IsNewAt h place p seats
      → IfSome p (λ q. (passes_out q ≡ 0) × (passes_back q ≡ []))
  none_new h place None seats new = tt
  none_new h None (Some p) seats new = absurd new
  none_new h (Some place) (Some p) None new = absurd new
  none_new h (Some place) (Some p) (Some seats) new = new.none

  pub seats_new : (h : ℕ) (place : Option ServiceId) (p : Option (Passes N g)) (seats : Option (List LogSeat)) → IsNewAt h place p seats → AreSeatsAt place seats
  seats_new h None None None new = tt
  seats_new h None None (Some seats) new = absurd new
  seats_new h None (Some p) seats new = absurd new
  seats_new h (Some place) None seats new = absurd new
  seats_new h (Some place) (Some p) None new = absurd new
  seats_new h (Some place) (Some p) (Some seats) new = new.seats_are.1

  pub two_new : (h : ℕ) (place : Option ServiceId) (p : Option (Passes N g)) (seats : Option (List LogSeat)) → IsNewAt h place p seats
      → IfSome seats (λ seats. length seats ≡ 2)
  two_new h place p None new = tt
  two_new h None None (Some seats) new = absurd new
  two_new h None (Some p) (Some seats) new = absurd new
  two_new h (Some place) None (Some seats) new = absurd new
  two_new h (Some place) (Some p) (Some seats) new = new.seats_are.0

  pub even_new : {S : Type 0} (view : S → ServiceId) (h these out : ℕ) (started : Option S) (place : Option ServiceId) (p : Option (Passes N g)) (seats : Option (List LogSeat))
      → IfSome started (λ _. these ≡ h) → place ≡ option_map view started → IsNewAt these place p seats → out ≡ 0 → IsEvenAt h out these p
  even_new view h these out started place None seats even is new zero_is = tt
  even_new view h these out None place (Some p) seats even is new zero_is = absurd (subst (λ (o : Option ServiceId). IsNewAt these o (Some p) seats) is new)
  even_new view h these out (Some x) None (Some p) seats even is new zero_is = absurd new
  even_new view h these out (Some x) (Some place) (Some p) None even is new zero_is = absurd new
  even_new view h these out (Some x) (Some place) (Some p) (Some seats) even is new zero_is = (even, new.none.0 ∙ sym zero_is)
