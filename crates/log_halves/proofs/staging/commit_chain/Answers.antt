use Rattle.std.proofs.Common.{◌≡◌, ℕ, List, [], ◌++◌, length, get_or, sym, ap, subst, arith}
use Rattle.std.proofs.Math.Logic.{∥∥₁_map₂}
use Rattle.log_model.specs.declared.name.Name.{Name}
use Rattle.log_model.specs.Entry.{Entry}
use Rattle.log_model.specs.Files.{Files}
use Rattle.disk_images.specs.Crash.{DiskView, Throughout}
use Rattle.log_trucks.specs.Held.{Held, AreHeld}
use Rattle.log_device.specs.Bears.{Bears}
use Rattle.log_device.specs.Leaves.{Leaves}
use Rattle.log_device.specs.Whole.{disk_of, numbers_of}
use Rattle.log_halves.specs.Trucks.{AreSpelled, FollowOn, size_of}
use Rattle.log_halves.specs.Commits.{all_staged_in, AreServed, drawn_in}
use Rattle.log_halves.proofs.Committed.{spelled_entries}
use Rattle.log_halves.proofs.staging.commit_chain.Goals as goal

pub stage_all-requires-clause-served : goal.stage_all-requires-clause-served
stage_all-requires-clause-served g c = subst (AreServed (numbers_of c.args.device.now)) (sym c.into_chain.ensures) c.requires.served

pub stage_all-requires-clause-spelled : goal.stage_all-requires-clause-spelled
stage_all-requires-clause-spelled g c = subst AreSpelled (sym c.into_chain.ensures) c.requires.spelled

pub stage_all-requires-clause-rising : goal.stage_all-requires-clause-rising
stage_all-requires-clause-rising g c = (c.requires.rising.0, subst (FollowOn c.requires.rising.0 (drawn_in (numbers_of c.args.device.now))) (sym c.into_chain.ensures) c.requires.rising.1)

pub stage_all-requires-clause-room : goal.stage_all-requires-clause-room
stage_all-requires-clause-room g c file is =
    let none = ap length (c.requires.idle file is).1 in
    let size = ap size_of c.into_chain.ensures in
    omega (arith, none, size, c.requires.size)

pub sync-requires : goal.sync-requires
sync-requires g c told unbroken =
    ∥∥₁_map₂ (c.requires.whole told) (spelled_entries c.args.chain c.requires.spelled)
    (λ w e. (all_staged_in w.0 e.0, c.stage_all.ensures.whole told w.0 e.0 w.1 (subst (λ (l : List Held). AreHeld l e.0) (sym c.into_chain.ensures) e.1)))

moments : {D : Type 0} (view : D → DiskView) (stored stored' closed closed' : List ℕ) (a b : D) (w : DiskView) (staged es : List Entry) → stored' ≡ stored → closed' ≡ closed → b ≡ a → staged ≡ []
    → Throughout (Leaves stored' closed' (view b).files (staged ++ es)) 4 (view b) w → Throughout (Leaves stored closed (view a).files es) 4 (view a) w
moments {D} view stored stored' closed closed' a b w staged es s c d none over =
    subst (λ (p : List ℕ × List ℕ × D × List Entry). Throughout (Leaves p.0 p.1 (view p.2).files (p.3 ++ es)) 4 (view p.2) w) (λ i. (s i, c i, d i, none i)) over

pub returns-in-Ok-clause-any_moment : goal.returns-in-Ok-clause-any_moment
returns-in-Ok-clause-any_moment g c told h es whole none held =
    let mid = c.stage_all.new.device in
    let staged = c.stage_all.ensures.whole told h es whole (subst (λ (l : List Held). AreHeld l es) (sym c.into_chain.ensures) held) in
    moments g.D.Disk.view (numbers_of c.args.device.now).stored (numbers_of mid).stored (numbers_of c.args.device.now).closed (numbers_of mid).closed (disk_of c.args.device.now) (disk_of mid) (g.D.Disk.view (disk_of c.sync.new.self)) h.kept.staged es
    c.stage_all.ensures.same.stored c.stage_all.ensures.same.closed c.stage_all.ensures.disk none (c.sync.ensures.syncs told (all_staged_in h es) staged).any_moment

pub returns-in-Err-clause-any_moment : goal.returns-in-Err-clause-any_moment
returns-in-Err-clause-any_moment g c told h es whole none held =
    let mid = c.stage_all.new.device in
    let staged = c.stage_all.ensures.whole told h es whole (subst (λ (l : List Held). AreHeld l es) (sym c.into_chain.ensures) held) in
    moments g.D.Disk.view (numbers_of c.args.device.now).stored (numbers_of mid).stored (numbers_of c.args.device.now).closed (numbers_of mid).closed (disk_of c.args.device.now) (disk_of mid) (g.D.Disk.view (disk_of c.sync.new.self)) h.kept.staged es
    c.stage_all.ensures.same.stored c.stage_all.ensures.same.closed c.stage_all.ensures.disk none (c.sync.ensures.syncs told (all_staged_in h es) staged).any_moment

names_from : {D : Type 0} (view : D → DiskView) (base : Files) (next next' : List ℕ) (a b : D) (w : DiskView) (m n : Name) → next' ≡ next → b ≡ a → m ≡ n
    → Throughout (Bears base next' m.number) 4 (view b) w → Throughout (Bears base next n.number) 4 (view a) w
names_from {D} view base next next' a b w m n s d is over =
    subst (λ (p : List ℕ × D × Name). Throughout (Bears base p.0 p.2.number) 4 (view p.1) w) (λ i. (s i, d i, is i)) over

pub returns-in-Ok-clause-names : goal.returns-in-Ok-clause-names
returns-in-Ok-clause-names g c told h es file whole held is =
    let mid = c.stage_all.new.device in
    let staged = c.stage_all.ensures.whole told h es whole (subst (λ (l : List Held). AreHeld l es) (sym c.into_chain.ensures) held) in
    let now = c.stage_all.ensures.file file is in
    names_from g.D.Disk.view h.kept.base (numbers_of c.args.device.now).next_store (numbers_of mid).next_store (disk_of c.args.device.now) (disk_of mid) (g.D.Disk.view (disk_of c.sync.new.self)) now.0.name file.name
    c.stage_all.ensures.same.next_store c.stage_all.ensures.disk now.3 ((c.sync.ensures.syncs told (all_staged_in h es) staged).names now.0 now.1)

pub returns-in-Err-clause-names : goal.returns-in-Err-clause-names
returns-in-Err-clause-names g c told h es file whole held is =
    let mid = c.stage_all.new.device in
    let staged = c.stage_all.ensures.whole told h es whole (subst (λ (l : List Held). AreHeld l es) (sym c.into_chain.ensures) held) in
    let now = c.stage_all.ensures.file file is in
    names_from g.D.Disk.view h.kept.base (numbers_of c.args.device.now).next_store (numbers_of mid).next_store (disk_of c.args.device.now) (disk_of mid) (g.D.Disk.view (disk_of c.sync.new.self)) now.0.name file.name
    c.stage_all.ensures.same.next_store c.stage_all.ensures.disk now.3 ((c.sync.ensures.syncs told (all_staged_in h es) staged).names now.0 now.1)

pub returns-in-Ok-clause-few : goal.returns-in-Ok-clause-few
returns-in-Ok-clause-few g c limit few = c.sync.ensures.numbers.few limit (c.stage_all.ensures.same.few limit few)

pub returns-in-Err-clause-few : goal.returns-in-Err-clause-few
returns-in-Err-clause-few g c limit few = c.sync.ensures.numbers.few limit (c.stage_all.ensures.same.few limit few)

pub returns-in-Ok-clause-rises : goal.returns-in-Ok-clause-rises
returns-in-Ok-clause-rises g c r = let same = ap (λ (l : List ℕ). get_or l r 0) c.stage_all.ensures.same.synced in omega (arith, same, c.sync.ensures.numbers.never_falls r)

pub returns-in-Err-clause-rises : goal.returns-in-Err-clause-rises
returns-in-Err-clause-rises g c r = let same = ap (λ (l : List ℕ). get_or l r 0) c.stage_all.ensures.same.synced in omega (arith, same, c.sync.ensures.numbers.never_falls r)
