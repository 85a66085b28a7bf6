use Rattle.std.proofs.Common.{◌≡◌, ℕ, ◌++◌, ◌∷◌, [], List, Contains, option_map, refl, sym, ap, ap₂, ◌∙◌, subst}
use Rattle.region_model.specs.Calls.{Answer, Put, Scan, Raw, Newest, Flush, Roll}
use Rattle.group_servers.specs.region_calls.Answers.{put_answer, scan_answer, flush_answer, roll_answer}
use Rattle.script_calls.specs.Answers.{answer_of}
use Rattle.script_calls.specs.Calls.{call_of, is_sync}
use Rattle.groups_model.specs.Groups.{group_of}
use Rattle.server_model.specs.Pass.{Naming}
use Rattle.server_model.proofs.GetLaws.{scans_nothing}
use Rattle.script_handlers.proofs.GetLaws.{scan_rises}
use Rattle.group_calls.specs.Passes.{known, named}
use Rattle.group_calls.specs.Servers.{Servers, AreServers}
use Rattle.group_calls.proofs.Doing.{among, calls_next, group_within, keeps_calls, keeps_handler, listed, one_of_four, same_handler, serves}
use Rattle.group_calls.proofs.Gets.{row_got}
use Rattle.group_calls.proofs.serving.GroupsServes.make.Goals as goal

pub put-requires-clause-region : goal.put-requires-clause-region
put-requires-clause-region g c =
    let names : ℕ → Naming = named g.N1.ServerNaming.name g.N2.ServerNaming.name g.N3.ServerNaming.name g.N4.ServerNaming.name in
    among names (known c.args.pass.now 1).handler c.args.number c.args.call (Put c.in-Put.region (is_sync c.in-Put.durability) c.in-Put.batch) (ap call_of c.in-Put.is) c.requires.call (group_of c.args.self.now.count c.in-Put.region)

pub put-requires-clause-call : goal.put-requires-clause-call
put-requires-clause-call g c =
    let are = subst (λ (s : Servers). AreServers s.count s.second s.third s.fourth) c.self.view_is c.self.invariant in
    calls_next (known c.args.pass.now) (group_of c.args.self.now.count c.in-Put.region) c.args.number (one_of_four c.args.self.now are c.args.pass.now c.requires.of (Put c.in-Put.region (is_sync c.in-Put.durability) c.in-Put.batch)) c.requires.number

pub returns-in-Put-clause-does : goal.returns-in-Put-clause-does
returns-in-Put-clause-does g c =
    let names : ℕ → Naming = named g.N1.ServerNaming.name g.N2.ServerNaming.name g.N3.ServerNaming.name g.N4.ServerNaming.name in
    let are = subst (λ (s : Servers). AreServers s.count s.second s.third s.fourth) c.self.view_is c.self.invariant in
    serves c.args.self.now are c.args.pass.now c.requires.of names c.args.time c.args.number c.args.call (Put c.in-Put.region (is_sync c.in-Put.durability) c.in-Put.batch) (ap call_of c.in-Put.is)
    (answer_of c.of_put.result) (put_answer c.put.result) c.of_put.ensures.answer (known c.put.new.pass) (group_of c.args.self.now.count c.in-Put.region) refl c.put.ensures.puts c.put.ensures.elsewhere

pub returns-in-Put-clause-handler : goal.returns-in-Put-clause-handler
returns-in-Put-clause-handler g c =
    let names : ℕ → Naming = named g.N1.ServerNaming.name g.N2.ServerNaming.name g.N3.ServerNaming.name g.N4.ServerNaming.name in
    keeps_handler c.args.self.now.count names c.args.time c.args.number (call_of c.args.call) (answer_of c.of_put.result) (known c.args.pass.now) (known c.put.new.pass) (returns-in-Put-clause-does g c) 1

pub returns-in-Put-clause-calls : goal.returns-in-Put-clause-calls
returns-in-Put-clause-calls g c =
    let names : ℕ → Naming = named g.N1.ServerNaming.name g.N2.ServerNaming.name g.N3.ServerNaming.name g.N4.ServerNaming.name in
    keeps_calls c.args.self.now.count names c.args.time c.args.number (call_of c.args.call) (answer_of c.of_put.result) (known c.args.pass.now) (known c.put.new.pass) (returns-in-Put-clause-does g c) c.requires.number

pub scan-requires-clause-region : goal.scan-requires-clause-region
scan-requires-clause-region g c =
    let names : ℕ → Naming = named g.N1.ServerNaming.name g.N2.ServerNaming.name g.N3.ServerNaming.name g.N4.ServerNaming.name in
    among names (known c.args.pass.now 1).handler c.args.number c.args.call (Scan Raw c.in-Scan.region c.in-Scan.from c.in-Scan.to) (ap call_of c.in-Scan.is) c.requires.call (group_of c.args.self.now.count c.in-Scan.region)

pub returns-in-Scan-clause-does : goal.returns-in-Scan-clause-does
returns-in-Scan-clause-does g c =
    let names : ℕ → Naming = named g.N1.ServerNaming.name g.N2.ServerNaming.name g.N3.ServerNaming.name g.N4.ServerNaming.name in
    let are = subst (λ (s : Servers). AreServers s.count s.second s.third s.fourth) c.self.view_is c.self.invariant in
    serves c.args.self.now are c.args.pass.now c.requires.of names c.args.time c.args.number c.args.call (Scan Raw c.in-Scan.region c.as_slice.result.now c.as_slice-in-Scan.result.now)
    (ap call_of c.in-Scan.is ∙ ap₂ (λ (from to : List ℕ). Scan Raw c.in-Scan.region from to) (sym c.as_slice.ensures) (sym c.as_slice-in-Scan.ensures))
    (answer_of c.of_scan.result) (scan_answer c.scan.result) c.of_scan.ensures.answer (known c.scan.new.pass) (group_of c.args.self.now.count c.in-Scan.region) refl c.scan.ensures.scans c.scan.ensures.elsewhere

pub returns-in-Scan-clause-handler : goal.returns-in-Scan-clause-handler
returns-in-Scan-clause-handler g c =
    let names : ℕ → Naming = named g.N1.ServerNaming.name g.N2.ServerNaming.name g.N3.ServerNaming.name g.N4.ServerNaming.name in
    keeps_handler c.args.self.now.count names c.args.time c.args.number (call_of c.args.call) (answer_of c.of_scan.result) (known c.args.pass.now) (known c.scan.new.pass) (returns-in-Scan-clause-does g c) 1

pub returns-in-Scan-clause-calls : goal.returns-in-Scan-clause-calls
returns-in-Scan-clause-calls g c =
    let names : ℕ → Naming = named g.N1.ServerNaming.name g.N2.ServerNaming.name g.N3.ServerNaming.name g.N4.ServerNaming.name in
    keeps_calls c.args.self.now.count names c.args.time c.args.number (call_of c.args.call) (answer_of c.of_scan.result) (known c.args.pass.now) (known c.scan.new.pass) (returns-in-Scan-clause-does g c) c.requires.number

pub scan-cells-requires-clause-region : goal.scan-cells-requires-clause-region
scan-cells-requires-clause-region g c =
    let names : ℕ → Naming = named g.N1.ServerNaming.name g.N2.ServerNaming.name g.N3.ServerNaming.name g.N4.ServerNaming.name in
    among names (known c.args.pass.now 1).handler c.args.number c.args.call (Scan (Newest c.in-Get.versions) c.in-Get.region c.in-Get.row (c.in-Get.row ++ 0 ∷ [])) (ap call_of c.in-Get.is) c.requires.call (group_of c.args.self.now.count c.in-Get.region)

pub of_get-requires : goal.of_get-requires
of_get-requires g c =
    let k = group_of c.args.self.now.count c.in-Get.region in
    let name : Naming = named g.N1.ServerNaming.name g.N2.ServerNaming.name g.N3.ServerNaming.name g.N4.ServerNaming.name k in
    record {
      order = scan_rises name c.in-Get.region c.as_slice-row.result.now c.as_slice-end.result.now (known c.args.pass.now k) (known c.scan-cells.new.pass k)
          c.scan-cells.result c.scan-cells.ensures.scans;
    }

pub returns-in-Ok-clause-does : goal.returns-in-Ok-clause-does
returns-in-Ok-clause-does g c =
    let names : ℕ → Naming = named g.N1.ServerNaming.name g.N2.ServerNaming.name g.N3.ServerNaming.name g.N4.ServerNaming.name in
    let are = subst (λ (s : Servers). AreServers s.count s.second s.third s.fourth) c.self.view_is c.self.invariant in
    let k = group_of c.args.self.now.count c.in-Get.region in
    let get : Answer = answer_of c.of_get.result in
    let row : c.as_slice-row.result.now ≡ c.in-Get.row = c.as_slice-row.ensures in
    let end : c.as_slice-end.result.now ≡ c.in-Get.row ++ 0 ∷ [] = c.as_slice-end.ensures.value ∙ c.in-Ok.ensures ∙ ap (λ (r : List ℕ). r ++ 0 ∷ []) row in
    let got = row_got (names k) c.in-Get.region c.in-Get.row c.as_slice-row.result.now c.as_slice-end.result.now (known c.args.pass.now k) (known c.scan-cells.new.pass k)
    c.in-Get.versions c.scan-cells.result get row end c.scan-cells.ensures.scans c.of_get.ensures.gets in
    serves c.args.self.now are c.args.pass.now c.requires.of names c.args.time c.args.number c.args.call (Scan (Newest c.in-Get.versions) c.in-Get.region c.in-Get.row (c.in-Get.row ++ 0 ∷ [])) (ap call_of c.in-Get.is)
    get get refl (known c.scan-cells.new.pass) k refl got c.scan-cells.ensures.elsewhere

pub returns-in-Ok-clause-handler : goal.returns-in-Ok-clause-handler
returns-in-Ok-clause-handler g c =
    let names : ℕ → Naming = named g.N1.ServerNaming.name g.N2.ServerNaming.name g.N3.ServerNaming.name g.N4.ServerNaming.name in
    keeps_handler c.args.self.now.count names c.args.time c.args.number (call_of c.args.call) (answer_of c.of_get.result) (known c.args.pass.now) (known c.scan-cells.new.pass) (returns-in-Ok-clause-does g c) 1

pub returns-in-Ok-clause-calls : goal.returns-in-Ok-clause-calls
returns-in-Ok-clause-calls g c =
    let names : ℕ → Naming = named g.N1.ServerNaming.name g.N2.ServerNaming.name g.N3.ServerNaming.name g.N4.ServerNaming.name in
    keeps_calls c.args.self.now.count names c.args.time c.args.number (call_of c.args.call) (answer_of c.of_get.result) (known c.args.pass.now) (known c.scan-cells.new.pass) (returns-in-Ok-clause-does g c) c.requires.number

pub returns-in-Get-clause-does : goal.returns-in-Get-clause-does
returns-in-Get-clause-does g c =
    let names : ℕ → Naming = named g.N1.ServerNaming.name g.N2.ServerNaming.name g.N3.ServerNaming.name g.N4.ServerNaming.name in
    let are = subst (λ (s : Servers). AreServers s.count s.second s.third s.fourth) c.self.view_is c.self.invariant in
    let k = group_of c.args.self.now.count c.in-Get.region in
    serves c.args.self.now are c.args.pass.now c.requires.of names c.args.time c.args.number c.args.call (Scan (Newest c.in-Get.versions) c.in-Get.region c.in-Get.row (c.in-Get.row ++ 0 ∷ [])) (ap call_of c.in-Get.is)
    _ _ refl (known c.args.pass.now) k refl (scans_nothing (names k) (Newest c.in-Get.versions) c.in-Get.region c.in-Get.row (c.in-Get.row ++ 0 ∷ []) (known c.args.pass.now k)) (λ j other. refl)

pub flush-requires-clause-region : goal.flush-requires-clause-region
flush-requires-clause-region g c =
    let names : ℕ → Naming = named g.N1.ServerNaming.name g.N2.ServerNaming.name g.N3.ServerNaming.name g.N4.ServerNaming.name in
    let is = among names (known c.args.pass.now 1).handler c.args.number c.args.call (Flush c.in-Flush.region c.in-Flush.family) (ap call_of c.in-Flush.is) c.requires.call (group_of c.args.self.now.count c.in-Flush.region) in
    (is.0, is.1)

pub lent-requires : goal.lent-requires
lent-requires g c =
    let names : ℕ → Naming = named g.N1.ServerNaming.name g.N2.ServerNaming.name g.N3.ServerNaming.name g.N4.ServerNaming.name in
    (among names (known c.args.pass.now 1).handler c.args.number c.args.call (Flush c.in-Flush.region c.in-Flush.family) (ap call_of c.in-Flush.is) c.requires.call 1).2

pub flush-requires-clause-call : goal.flush-requires-clause-call
flush-requires-clause-call g c =
    let are = subst (λ (s : Servers). AreServers s.count s.second s.third s.fourth) c.self.view_is c.self.invariant in
    calls_next (known c.args.pass.now) (group_of c.args.self.now.count c.in-Flush.region) c.args.number (one_of_four c.args.self.now are c.args.pass.now c.requires.of (Flush c.in-Flush.region c.in-Flush.family)) c.requires.number

pub flush-requires-clause-listed : goal.flush-requires-clause-listed
flush-requires-clause-listed g c =
    let names : ℕ → Naming = named g.N1.ServerNaming.name g.N2.ServerNaming.name g.N3.ServerNaming.name g.N4.ServerNaming.name in
    let are = subst (λ (s : Servers). AreServers s.count s.second s.third s.fourth) c.self.view_is c.self.invariant in
    let k = group_of c.args.self.now.count c.in-Flush.region in
    let same = same_handler c.args.self.now are c.args.pass.now c.requires.of k (group_within c.args.self.now.count c.in-Flush.region are.some.0) in
    subst (λ (h : ℕ). Contains ((names k).flushes c.in-Flush.region) (record { handler = h; call = c.args.number })) (sym same)
    (listed names (known c.args.pass.now 1).handler c.args.number c.in-Flush.region c.args.call c.in-Flush.family (ap call_of c.in-Flush.is) c.requires.call k)

pub returns-in-Flush-clause-does : goal.returns-in-Flush-clause-does
returns-in-Flush-clause-does g c =
    let names : ℕ → Naming = named g.N1.ServerNaming.name g.N2.ServerNaming.name g.N3.ServerNaming.name g.N4.ServerNaming.name in
    let are = subst (λ (s : Servers). AreServers s.count s.second s.third s.fourth) c.self.view_is c.self.invariant in
    serves c.args.self.now are c.args.pass.now c.requires.of names c.args.time c.args.number c.args.call (Flush c.in-Flush.region (option_map (λ f. f.now) c.lent.result))
    (ap call_of c.in-Flush.is ∙ ap (Flush c.in-Flush.region) (sym c.lent.ensures.same))
    (answer_of c.of_flush.result) (flush_answer c.flush.result) c.of_flush.ensures.answer (known c.flush.new.pass) (group_of c.args.self.now.count c.in-Flush.region) refl c.flush.ensures.flushes c.flush.ensures.elsewhere

pub returns-in-Flush-clause-handler : goal.returns-in-Flush-clause-handler
returns-in-Flush-clause-handler g c =
    let names : ℕ → Naming = named g.N1.ServerNaming.name g.N2.ServerNaming.name g.N3.ServerNaming.name g.N4.ServerNaming.name in
    keeps_handler c.args.self.now.count names c.args.time c.args.number (call_of c.args.call) (answer_of c.of_flush.result) (known c.args.pass.now) (known c.flush.new.pass) (returns-in-Flush-clause-does g c) 1

pub returns-in-Flush-clause-calls : goal.returns-in-Flush-clause-calls
returns-in-Flush-clause-calls g c =
    let names : ℕ → Naming = named g.N1.ServerNaming.name g.N2.ServerNaming.name g.N3.ServerNaming.name g.N4.ServerNaming.name in
    keeps_calls c.args.self.now.count names c.args.time c.args.number (call_of c.args.call) (answer_of c.of_flush.result) (known c.args.pass.now) (known c.flush.new.pass) (returns-in-Flush-clause-does g c) c.requires.number

pub roll-requires-clause-handler : goal.roll-requires-clause-handler
roll-requires-clause-handler g c = c.requires.call.numbered

pub returns-clause-does : goal.returns-clause-does
returns-clause-does g c =
    let names : ℕ → Naming = named g.N1.ServerNaming.name g.N2.ServerNaming.name g.N3.ServerNaming.name g.N4.ServerNaming.name in
    let are = subst (λ (s : Servers). AreServers s.count s.second s.third s.fourth) c.self.view_is c.self.invariant in
    serves c.args.self.now are c.args.pass.now c.requires.of names c.args.time c.args.number c.args.call Roll (ap call_of c.in-Roll.is)
    (answer_of c.of_roll.result) (roll_answer c.roll.result) c.of_roll.ensures.answer (known c.roll.new.pass) (group_of c.args.self.now.count (known c.args.pass.now 1).handler) refl c.roll.ensures.rolls c.roll.ensures.elsewhere

pub returns-clause-handler : goal.returns-clause-handler
returns-clause-handler g c =
    let names : ℕ → Naming = named g.N1.ServerNaming.name g.N2.ServerNaming.name g.N3.ServerNaming.name g.N4.ServerNaming.name in
    keeps_handler c.args.self.now.count names c.args.time c.args.number (call_of c.args.call) (answer_of c.of_roll.result) (known c.args.pass.now) (known c.roll.new.pass) (returns-clause-does g c) 1

pub returns-clause-calls : goal.returns-clause-calls
returns-clause-calls g c =
    let names : ℕ → Naming = named g.N1.ServerNaming.name g.N2.ServerNaming.name g.N3.ServerNaming.name g.N4.ServerNaming.name in
    keeps_calls c.args.self.now.count names c.args.time c.args.number (call_of c.args.call) (answer_of c.of_roll.result) (known c.args.pass.now) (known c.roll.new.pass) (returns-clause-does g c) c.requires.number
