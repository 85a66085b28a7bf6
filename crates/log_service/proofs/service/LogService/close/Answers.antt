use Rattle.std.proofs.Common.{◌≡◌, ◌≤◌, ◌*◌, ◌∷◌, [], ℕ, List, Bool, true, length, sym, ap, ◌∙◌, subst, arith}
use Rattle.std.specs.Prelude.{◌↔◌, Option}
use Rattle.std.specs.Coded.{le_prop}
use Rattle.std.proofs.Math.Logic.{∥∥₁_elim}
use Rattle.crossbeam_queue.specs.Passes.{view}
use Rattle.atomic_table.specs.Seated.{TableId}
use Rattle.append_ring.specs.declared.knows.Knows.{Knows}
use Rattle.append_ring.specs.declared.pass.RingKey.{RingKey}
use Rattle.append_ring.specs.Rules.{base_of}
use Rattle.append_ring.specs.Parts.{EachThere, AreNewAfter, IsCounted, IsEqual}
use Rattle.append_ring.proofs.Places.{drained_counted}
use Rattle.disk_images.specs.Calls.{Rose}
use Rattle.log_berth.specs.Standing.{Standing, AllSaw, AreBack}
use Rattle.log_trucks.specs.Held.{Held}
use Rattle.log_device.specs.Whole.{IsBroken, disk_of, numbers_of}
use Rattle.log_halves.specs.declared.item.Item.{Item}
use Rattle.log_halves.specs.Items.{region_of, appended}
use Rattle.log_halves.specs.Trucks.{FollowFrom}
use Rattle.log_halves.specs.Chains.{all_trucks}
use Rattle.log_halves.specs.Numbers.{told_numbers}
use Rattle.log_service.specs.Places.{ServiceId}
use Rattle.log_service.specs.Closed.{CommitsRegion, CommitsSince, LeavesFiles}
use Rattle.log_halves.specs.Moments.{GoesOnFrom, OthersSince}
use Rattle.log_berth.proofs.Joined.{no_more-trans}
use Rattle.log_service.proofs.CloseLaws.{region_commits, region_since}
use Rattle.log_service.proofs.FilesLeft.{either_leaves, either_others}
use Rattle.log_service.proofs.Popped.{all_popped, chains_pushed, idle_empty, idle_back, idle_first}
use Rattle.log_halves.proofs.Faults.{is_broken}
use Rattle.log_service.proofs.service.LogService.close.Goals as goal

pub close-mover-requires-clause-back : goal.close-mover-requires-clause-back
close-mover-requires-clause-back g c = subst (λ (p : ServiceId). AreBack p.consumer c.args.seats.consumers.seats) (sym c.self.view_is) c.requires.consumers

pub close-mover-requires-clause-all : goal.close-mover-requires-clause-all
close-mover-requires-clause-all g c = c.args.seats.pairs ∙ (c.requires.all ∙ (sym (ap (λ (p : ServiceId). p.seats) c.self.view_is) ∙ sym c.self.invariant.8))

pub close-committer-requires-clause-back : goal.close-committer-requires-clause-back
close-committer-requires-clause-back g c = subst (λ (p : ServiceId). AreBack p.device c.args.seats.devices.seats) (sym c.self.view_is) c.requires.devices

pub close-committer-requires-clause-all : goal.close-committer-requires-clause-all
close-committer-requires-clause-all g c = c.requires.all ∙ sym (ap (λ (p : ServiceId). p.seats) c.self.view_is)

pub settle_items-requires-clause-all : goal.settle_items-requires-clause-all
settle_items-requires-clause-all g c = c.requires.passes.1 ∙ (sym (ap (λ (p : ServiceId). p.regions) c.self.view_is) ∙ c.self.invariant.6)

pub settle_items-requires-clause-there : goal.settle_items-requires-clause-there
settle_items-requires-clause-there g c = subst (λ (id : TableId). EachThere (λ p. p.pass.table_id ≡ id) c.args.passes) (sym (ap (λ (p : ServiceId). p.ring) c.self.view_is)) c.requires.passes.0

pub put_back-requires : goal.put_back-requires
put_back-requires g c =
    let mover = c.settle_items.new.mover in
    let rest = subst (λ (l : List (Option (RingKey (List Held)))). ∥ AreNewAfter g.N.ServiceNaming.chain_ring g.N.ServiceNaming.lasts 0 1 l ∥₁) (sym c.into_passes-items.ensures.2) mover.rest.0 in
    idle_empty g.N.ServiceNaming.chain_ring g.N.ServiceNaming.lasts c.into_passes-items.result.2 c.into_passes-items.result.1 rest (ap (λ (p : RingKey (List Held)). p.region) c.into_passes-items.ensures.1 ∙ mover.to.1)

pub settle_chains-requires-clause-there : goal.settle_chains-requires-clause-there
settle_chains-requires-clause-there g c =
    let id = g.N.ServiceNaming.chain_ring in
    let pass = c.into_passes-items.result.1 in
    let mover = c.settle_items.new.mover in
    let is = c.into_passes-items.ensures.1 in
    let there = idle_back id g.N.ServiceNaming.lasts c.into_passes-items.result.2 pass (subst (λ (l : List (Option (RingKey (List Held)))). ∥ AreNewAfter g.N.ServiceNaming.chain_ring g.N.ServiceNaming.lasts 0 1 l ∥₁) (sym c.into_passes-items.ensures.2) c.settle_items.new.mover.rest.0) (ap (λ (p : RingKey (List Held)). p.pass.table_id) is ∙ mover.to.0) (ap (λ (p : RingKey (List Held)). p.region) is ∙ mover.to.1) in
    subst (λ (i : TableId). EachThere (λ p. p.pass.table_id ≡ i) c.put_back.new.self) (sym c.self.invariant.1) (subst (EachThere (λ p. p.pass.table_id ≡ id)) (sym c.put_back.ensures) there)

pub close-requires-clause-ring : goal.close-requires-clause-ring
close-requires-clause-ring g c = ap (λ k. k.pass.table_id) c.into_passes-items.ensures.0 ∙ (c.settle_items.new.mover.ring.0 ∙ sym c.self.invariant.0)

pub close-requires-clause-all : goal.close-requires-clause-all
close-requires-clause-all g c =
    let regions = sym (ap (λ (p : ServiceId). p.regions) c.self.view_is) ∙ c.self.invariant.6 in
    let lasts = ap (λ k. (view {T = Item} {V = Knows Item} k.pass).lasts) c.into_passes-items.ensures.0 ∙ c.settle_items.new.mover.ring.1 in
    c.requires.passes.1 ∙ (regions ∙ sym (ap length lasts))

pub close-requires-2-clause-ring : goal.close-requires-2-clause-ring
close-requires-2-clause-ring g c = ap (λ k. k.pass.table_id) c.into_parts-device.ensures.1 ∙ (c.settle_chains.new.committer.from.0 ∙ sym c.self.invariant.1)

pub close-requires-clause-there : goal.close-requires-clause-there
close-requires-clause-there g c = subst (λ (id : TableId). EachThere (λ p. p.pass.table_id ≡ id) c.args.passes) (sym (ap (λ (p : ServiceId). p.ring) c.self.view_is)) c.requires.passes.0

pub close-requires-clause-counts : goal.close-requires-clause-counts
close-requires-clause-counts g c =
    let popped = (view c.settle_items.new.mover.consumer.pass).popped in
    subst (λ k. EachThere (IsCounted region_of (view {T = Item} {V = Knows Item} k.pass).popped) c.args.passes) (sym c.into_passes-items.ensures.0) (drained_counted region_of popped c.args.passes c.settle_items.ensures.moved.drained)

pub close-requires-2-clause-there : goal.close-requires-2-clause-there
close-requires-2-clause-there g c =
    let id = g.N.ServiceNaming.chain_ring in
    let pass = c.into_passes-items.result.1 in
    let mover = c.settle_items.new.mover in
    let is = c.into_passes-items.ensures.1 in
    let there = idle_back id g.N.ServiceNaming.lasts c.into_passes-items.result.2 pass (subst (λ (l : List (Option (RingKey (List Held)))). ∥ AreNewAfter g.N.ServiceNaming.chain_ring g.N.ServiceNaming.lasts 0 1 l ∥₁) (sym c.into_passes-items.ensures.2) c.settle_items.new.mover.rest.0) (ap (λ (p : RingKey (List Held)). p.pass.table_id) is ∙ mover.to.0) (ap (λ (p : RingKey (List Held)). p.region) is ∙ mover.to.1) in
    subst (λ (i : TableId). EachThere (λ p. p.pass.table_id ≡ i) c.put_back.new.self) (sym c.self.invariant.1) (subst (EachThere (λ p. p.pass.table_id ≡ id)) (sym c.put_back.ensures) there)

pub close-requires-2-clause-counts : goal.close-requires-2-clause-counts
close-requires-2-clause-counts g c =
    let popped = (view c.settle_chains.new.committer.consumer.pass).popped in
    subst (λ k. EachThere (IsCounted (λ (_ : List Held). 1) (view {T = List Held} {V = Knows (List Held)} k.pass).popped) c.put_back.new.self) (sym c.into_parts-device.ensures.1) (drained_counted (λ (_ : List Held). 1) popped c.put_back.new.self c.settle_chains.ensures.drained)

all_saw-later : (ss : List Standing) (numbers : List ℕ) (b c : Bool) → (b ≡ true → c ≡ true) → AllSaw ss numbers b → AllSaw ss numbers c
all_saw-later [] numbers b c then p = tt
all_saw-later (s ∷ ss) numbers b c then p = (record { seen = p.0.seen; fault = λ broken. let f = p.0.fault broken in (then f.0, f.1) }, all_saw-later ss numbers b c then p.1)

pub returns-clause-words : goal.returns-clause-words
returns-clause-words g c = c.close-committer.ensures.all ∙ (c.self.invariant.5 ∙ ap (λ (p : ServiceId). 3 * p.regions) c.self.view_is)

pub returns-clause-saw : goal.returns-clause-saw
returns-clause-saw g c =
    let ware = c.close-committer.result.ware in
    let half = c.settle_chains.new.committer in
    let is = subst (λ d. (c.broken-broken.result ≡ true) ↔ IsBroken d) c.into_parts-device.ensures.0 c.broken-broken.ensures in
    all_saw-later c.args.seats.devices.seats c.close-committer.result.synced c.close-committer.result.broken c.broken-broken.result
    (λ broken. is.1 (c.settle_chains.ensures.broken (c.settle_items.ensures.broken (is_broken _ (sym c.close-committer.ensures.ware.1 ∙ broken)))))
    c.close-committer.ensures.saw

pub returns-clause-commits : goal.returns-clause-commits
returns-clause-commits g c told r content pushed p =
    let half = c.settle_chains.new.committer in
    let mover = c.settle_items.new.mover in
    let mid = c.settle_items.new.committer in
    let ware = c.close-committer.result.ware in
    let words : List ℕ = c.close-committer.result.synced in
    let lasts : List ℕ = g.N.ServiceNaming.lasts in
    let base = g.N.ServiceNaming.begun in
    let disk = g.D.Disk.view (disk_of half.device) in
    let pass = c.into_passes-items.result.1 in
    let pass_is = c.into_passes-items.ensures.1 in
    let region : pass.region ≡ 1 = ap (λ (p : RingKey (List Held)). p.region) pass_is ∙ mover.to.1 in
    let items : List Item = (view mover.consumer.pass).popped in
    let chains : List (List Held) = (view half.consumer.pass).popped in
    let popped : List (List Held) = (view c.into_parts-device.result.1.pass).popped in
    let popped_is : popped ≡ chains = ap (λ k. (view {T = List Held} {V = Knows (List Held)} k.pass).popped) c.into_parts-device.ensures.1 in
    let back = subst (EachThere (IsEqual (λ (_ : List Held). 1) popped)) c.put_back.ensures c.close-2.ensures.equal in
    let equal_chains = idle_first g.N.ServiceNaming.chain_ring lasts (IsEqual (λ (_ : List Held). 1) popped) c.into_passes-items.result.2 pass (subst (λ (l : List (Option (RingKey (List Held)))). ∥ AreNewAfter g.N.ServiceNaming.chain_ring g.N.ServiceNaming.lasts 0 1 l ∥₁) (sym c.into_passes-items.ensures.2) c.settle_items.new.mover.rest.0) region back in
    let through : chains ≡ (view mover.chain_key.pass).pushed = chains_pushed pass mover.chain_key chains popped pass_is region popped_is equal_chains in
    let moved = c.settle_items.ensures.moved in
    let every : all_trucks chains ≡ appended items = all_popped (view mover.chain_key.pass).pushed chains mover.chain mover.held items mover.tie moved.chain moved.held through in
    let follow : FollowFrom lasts (all_trucks chains) = subst (FollowFrom lasts) (sym every) mover.follow in
    let equal = subst (λ k. EachThere (IsEqual region_of (view {T = Item} {V = Knows Item} k.pass).popped) c.args.passes) c.into_passes-items.ensures.0 c.close.ensures.equal in
    let is = subst (λ d. (c.broken-broken.result ≡ true) ↔ IsBroken d) c.into_parts-device.ensures.0 c.broken-broken.ensures in
    let n_is : half.regions ≡ c.args.self.regions = half.all.0 ∙ (sym c.self.invariant.6 ∙ ap (λ (p : ServiceId). p.regions) c.self.view_is) in
    let there : length c.args.passes ≡ half.regions = c.requires.passes.1 ∙ sym n_is in
    let disk_is = c.into_disk.ensures ∙ ap disk_of c.into_parts-device.ensures.0 in
    let told_at_close = c.close-committer.ensures.ware.0 in
    let mid_low = no_more-trans words (told_numbers ware.regions (numbers_of ware.device)) (told_numbers mid.regions (numbers_of mid.device)) told_at_close c.settle_items.ensures.later in
    let low = no_more-trans words (told_numbers mid.regions (numbers_of mid.device)) (told_numbers half.regions (numbers_of half.device)) mid_low c.settle_chains.ensures.later in
    let here = region_commits base lasts half.device disk (all_trucks chains) follow half.regions half.all.0 c.broken-broken.result is (half.stands told) (half.fell told) items every c.args.passes there equal r content pushed p words low half.served half.stored in
    subst (λ (n : ℕ). ∥ CommitsRegion (g.D.Disk.view c.into_disk.result) c.broken-broken.result n words lasts r content pushed ∥₁) n_is
    (subst (λ d. ∥ CommitsRegion (g.D.Disk.view d) c.broken-broken.result half.regions words lasts r content pushed ∥₁) (sym disk_is) here)

pub returns-clause-since : goal.returns-clause-since
returns-clause-since g c told r content pushed p =
    let half = c.settle_chains.new.committer in
    let mover = c.settle_items.new.mover in
    let mid = c.settle_items.new.committer in
    let ware = c.close-committer.result.ware in
    let words : List ℕ = c.close-committer.result.synced in
    let lasts : List ℕ = g.N.ServiceNaming.lasts in
    let base = g.N.ServiceNaming.begun in
    let disk = g.D.Disk.view (disk_of half.device) in
    let pass = c.into_passes-items.result.1 in
    let pass_is = c.into_passes-items.ensures.1 in
    let region : pass.region ≡ 1 = ap (λ (p : RingKey (List Held)). p.region) pass_is ∙ mover.to.1 in
    let items : List Item = (view mover.consumer.pass).popped in
    let chains : List (List Held) = (view half.consumer.pass).popped in
    let popped : List (List Held) = (view c.into_parts-device.result.1.pass).popped in
    let popped_is : popped ≡ chains = ap (λ k. (view {T = List Held} {V = Knows (List Held)} k.pass).popped) c.into_parts-device.ensures.1 in
    let back = subst (EachThere (IsEqual (λ (_ : List Held). 1) popped)) c.put_back.ensures c.close-2.ensures.equal in
    let equal_chains = idle_first g.N.ServiceNaming.chain_ring lasts (IsEqual (λ (_ : List Held). 1) popped) c.into_passes-items.result.2 pass (subst (λ (l : List (Option (RingKey (List Held)))). ∥ AreNewAfter g.N.ServiceNaming.chain_ring g.N.ServiceNaming.lasts 0 1 l ∥₁) (sym c.into_passes-items.ensures.2) c.settle_items.new.mover.rest.0) region back in
    let through : chains ≡ (view mover.chain_key.pass).pushed = chains_pushed pass mover.chain_key chains popped pass_is region popped_is equal_chains in
    let moved = c.settle_items.ensures.moved in
    let every : all_trucks chains ≡ appended items = all_popped (view mover.chain_key.pass).pushed chains mover.chain mover.held items mover.tie moved.chain moved.held through in
    let follow : FollowFrom lasts (all_trucks chains) = subst (FollowFrom lasts) (sym every) mover.follow in
    let equal = subst (λ k. EachThere (IsEqual region_of (view {T = Item} {V = Knows Item} k.pass).popped) c.args.passes) c.into_passes-items.ensures.0 c.close.ensures.equal in
    let is = subst (λ d. (c.broken-broken.result ≡ true) ↔ IsBroken d) c.into_parts-device.ensures.0 c.broken-broken.ensures in
    let n_is : half.regions ≡ c.args.self.regions = half.all.0 ∙ (sym c.self.invariant.6 ∙ ap (λ (p : ServiceId). p.regions) c.self.view_is) in
    let there : length c.args.passes ≡ half.regions = c.requires.passes.1 ∙ sym n_is in
    let disk_is = c.into_disk.ensures ∙ ap disk_of c.into_parts-device.ensures.0 in
    let here = region_since base lasts half.device disk (all_trucks chains) follow half.regions half.all.0 c.broken-broken.result is (half.stands told) (half.fell told) items every c.args.passes there equal r content pushed p g.N.ServiceNaming.start (half.since told) in
    subst (λ d. ∥ CommitsSince g.N.ServiceNaming.start (g.D.Disk.view d) r (base_of lasts r) content pushed ∥₁) (sym disk_is) here

pub returns-clause-goes_on : goal.returns-clause-goes_on
returns-clause-goes_on g c told =
    let half = c.settle_chains.new.committer in
    subst (λ d. ∥ GoesOnFrom g.N.ServiceNaming.start g.N.ServiceNaming.past (g.D.Disk.view d) ∥₁) (sym (c.into_disk.ensures ∙ ap disk_of c.into_parts-device.ensures.0)) (half.goes_on told)

pub returns-clause-others_since : goal.returns-clause-others_since
returns-clause-others_since g c told =
    let half = c.settle_chains.new.committer in
    let mover = c.settle_items.new.mover in
    let lasts : List ℕ = g.N.ServiceNaming.lasts in
    let base = g.N.ServiceNaming.begun in
    let disk = g.D.Disk.view (disk_of half.device) in
    let pass = c.into_passes-items.result.1 in
    let pass_is = c.into_passes-items.ensures.1 in
    let region : pass.region ≡ 1 = ap (λ (p : RingKey (List Held)). p.region) pass_is ∙ mover.to.1 in
    let items : List Item = (view mover.consumer.pass).popped in
    let chains : List (List Held) = (view half.consumer.pass).popped in
    let popped : List (List Held) = (view c.into_parts-device.result.1.pass).popped in
    let popped_is : popped ≡ chains = ap (λ k. (view {T = List Held} {V = Knows (List Held)} k.pass).popped) c.into_parts-device.ensures.1 in
    let back = subst (EachThere (IsEqual (λ (_ : List Held). 1) popped)) c.put_back.ensures c.close-2.ensures.equal in
    let equal_chains = idle_first g.N.ServiceNaming.chain_ring lasts (IsEqual (λ (_ : List Held). 1) popped) c.into_passes-items.result.2 pass (subst (λ (l : List (Option (RingKey (List Held)))). ∥ AreNewAfter g.N.ServiceNaming.chain_ring g.N.ServiceNaming.lasts 0 1 l ∥₁) (sym c.into_passes-items.ensures.2) c.settle_items.new.mover.rest.0) region back in
    let through : chains ≡ (view mover.chain_key.pass).pushed = chains_pushed pass mover.chain_key chains popped pass_is region popped_is equal_chains in
    let moved = c.settle_items.ensures.moved in
    let every : all_trucks chains ≡ appended items = all_popped (view mover.chain_key.pass).pushed chains mover.chain mover.held items mover.tie moved.chain moved.held through in
    let follow : FollowFrom lasts (all_trucks chains) = subst (FollowFrom lasts) (sym every) mover.follow in
    let is = subst (λ d. (c.broken-broken.result ≡ true) ↔ IsBroken d) c.into_parts-device.ensures.0 c.broken-broken.ensures in
    let n_is : half.regions ≡ c.args.self.regions = half.all.0 ∙ (sym c.self.invariant.6 ∙ ap (λ (p : ServiceId). p.regions) c.self.view_is) in
    let disk_is = c.into_disk.ensures ∙ ap disk_of c.into_parts-device.ensures.0 in
    let few : length lasts ≤ 64 = (let n = half.all.0 in omega (arith, n, half.all.1)) in
    let here = either_others base lasts few half.device disk (all_trucks chains) follow c.broken-broken.result is (half.stands told) (half.fell told) g.N.ServiceNaming.start (half.since told) in
    subst (λ (n : ℕ). ∥ OthersSince g.N.ServiceNaming.start base n (g.D.Disk.view c.into_disk.result) ∥₁) (sym half.all.0 ∙ n_is)
    (subst (λ d. ∥ OthersSince g.N.ServiceNaming.start base (length lasts) (g.D.Disk.view d) ∥₁) (sym disk_is) here)

pub returns-clause-leaves : goal.returns-clause-leaves
returns-clause-leaves g c told =
    let half = c.settle_chains.new.committer in
    let mover = c.settle_items.new.mover in
    let lasts : List ℕ = g.N.ServiceNaming.lasts in
    let base = g.N.ServiceNaming.begun in
    let disk = g.D.Disk.view (disk_of half.device) in
    let pass = c.into_passes-items.result.1 in
    let pass_is = c.into_passes-items.ensures.1 in
    let region : pass.region ≡ 1 = ap (λ (p : RingKey (List Held)). p.region) pass_is ∙ mover.to.1 in
    let items : List Item = (view mover.consumer.pass).popped in
    let chains : List (List Held) = (view half.consumer.pass).popped in
    let popped : List (List Held) = (view c.into_parts-device.result.1.pass).popped in
    let popped_is : popped ≡ chains = ap (λ k. (view {T = List Held} {V = Knows (List Held)} k.pass).popped) c.into_parts-device.ensures.1 in
    let back = subst (EachThere (IsEqual (λ (_ : List Held). 1) popped)) c.put_back.ensures c.close-2.ensures.equal in
    let equal_chains = idle_first g.N.ServiceNaming.chain_ring lasts (IsEqual (λ (_ : List Held). 1) popped) c.into_passes-items.result.2 pass (subst (λ (l : List (Option (RingKey (List Held)))). ∥ AreNewAfter g.N.ServiceNaming.chain_ring g.N.ServiceNaming.lasts 0 1 l ∥₁) (sym c.into_passes-items.ensures.2) c.settle_items.new.mover.rest.0) region back in
    let through : chains ≡ (view mover.chain_key.pass).pushed = chains_pushed pass mover.chain_key chains popped pass_is region popped_is equal_chains in
    let moved = c.settle_items.ensures.moved in
    let every : all_trucks chains ≡ appended items = all_popped (view mover.chain_key.pass).pushed chains mover.chain mover.held items mover.tie moved.chain moved.held through in
    let follow : FollowFrom lasts (all_trucks chains) = subst (FollowFrom lasts) (sym every) mover.follow in
    let is = subst (λ d. (c.broken-broken.result ≡ true) ↔ IsBroken d) c.into_parts-device.ensures.0 c.broken-broken.ensures in
    let n_is : half.regions ≡ c.args.self.regions = half.all.0 ∙ (sym c.self.invariant.6 ∙ ap (λ (p : ServiceId). p.regions) c.self.view_is) in
    let disk_is = c.into_disk.ensures ∙ ap disk_of c.into_parts-device.ensures.0 in
    let few : length lasts ≤ 64 = (let n = half.all.0 in omega (arith, n, half.all.1)) in
    let here = either_leaves base lasts few half.device disk (all_trucks chains) follow (g.met.D.Disk.is_true (disk_of half.device) told) c.broken-broken.result is (half.stands told) (half.fell told) in
    subst (λ (n : ℕ). ∥ LeavesFiles base (g.D.Disk.view c.into_disk.result) c.broken-broken.result n ∥₁) (sym half.all.0 ∙ n_is)
    (subst (λ d. ∥ LeavesFiles base (g.D.Disk.view d) c.broken-broken.result (length lasts) ∥₁) (sym disk_is) here)

pub returns-clause-faults : goal.returns-clause-faults
returns-clause-faults g c =
    let half = c.settle_chains.new.committer in
    subst (λ d. g.N.ServiceNaming.faults ≤ g.D.Disk.faults d) (sym (c.into_disk.ensures ∙ ap disk_of c.into_parts-device.ensures.0)) (∥∥₁_elim half.cause le_prop (λ k. k.later))

pub returns-clause-cause : goal.returns-clause-cause
returns-clause-cause g c broken =
    let half = c.settle_chains.new.committer in
    let is = subst (λ d. (c.broken-broken.result ≡ true) ↔ IsBroken d) c.into_parts-device.ensures.0 c.broken-broken.ensures in
    subst (λ d. Rose g.N.ServiceNaming.faults (g.D.Disk.faults d)) (sym (c.into_disk.ensures ∙ ap disk_of c.into_parts-device.ensures.0)) (∥∥₁_elim half.cause le_prop (λ k. k.risen (is.0 broken)))
