-- A worked example: two handlers on two regions, with the report of their run byte by byte.
use Rattle.std.proofs.Common.{◌≡◌, ℕ, true, false, List, [], ◌∷◌, ◌++◌, length, map, codes, refl, ap, arith, inl}
use Rattle.std.specs.FinMap.{empty}
use Rattle.std.specs.Fmt.{digits}
use Rattle.std.proofs.lemmas.List.Elements.{All-from_recursion, All-contains}
use Rattle.cell_model.specs.Batch.{batch_of}
use Rattle.cell_model.specs.Cell.{Cell}
use Rattle.cell_model.specs.Order.{cells_of, cell_of, VersionKey, Payload}
use Rattle.cell_model.proofs.OrderLaws.{entries-empty}
use Rattle.region_model.specs.Journal.{Base, Edit, Done}
use Rattle.region_model.specs.Calls.{Call, Put, Scan, Raw, Flush, Roll, Answer, PutOk, PutSpent, PutMemory, Scanned, FlushOk, RollOk, Reply}
use Rattle.script_model.specs.Fields.{number_fault, token_fault, sized_fault, ts_fault, kind_fault, room_fault, mode_fault, here_fault, one_here_fault, mode_here_fault, kind_here_fault}
use Rattle.script_model.specs.Script.{script_fault}
use Rattle.script_model.specs.Calls.{Script, Says, asked, asked_by}
use Rattle.script_model.specs.Report.{report_text, region_text, edit_text, reply_text, cell_line, end_line}
use Rattle.script_model.specs.declared.command.Command.TheVariants.{Run}
use Rattle.server_model.specs.Steps.{IsFault}
use Rattle.run_model.specs.Spent.{IsSpent, first_spent}
use Rattle.run_model.specs.Headline.{History, report_of, reply_line, FitsStatus, IsClean}
use Rattle.std.specs.Prelude.{Some, None}

abbrev name_cell : Cell
name_cell = record { row = codes "user1"; family = codes "info"; qualifier = codes "name"; ts = 1700000000000; kind = 4; value = codes "Ann"; tags = [] }

abbrev mail_cell : Cell
mail_cell = record { row = codes "user1"; family = codes "info"; qualifier = codes "mail"; ts = 1700000000000; kind = 4; value = codes "ann@x"; tags = [] }

abbrev key_cell : Cell
key_cell = record { row = codes "k1"; family = codes "f"; qualifier = codes "q"; ts = 5; kind = 4; value = codes "v"; tags = [] }

abbrev text : List ℕ
text =
    codes "time 1700000000000\nregions 2\nhandlers 2\nput 1 1 sync 2\ncell user1 info name now put Ann\ncell user1 info mail now put ann@x\n"
    ++ codes "put 2 2 sync 1\ncell k1 f q 5 put v\nscan 1 1 - -\nflush 1 1\nroll 2\nscan 2 2 k1 k2\n"

abbrev script : Script
script = record {
  time = 1700000000000;
  regions = 2;
  handlers = (Put 1 true (batch_of (name_cell ∷ mail_cell ∷ [])) ∷ Scan Raw 1 [] [] ∷ Flush 1 None ∷ []) ∷ (Put 2 true (batch_of (key_cell ∷ [])) ∷ Roll ∷ Scan Raw 2 (codes "k1") (codes "k2") ∷ []) ∷ [];
}

two_handlers_say : Says Run text script
unfolding script_fault number_fault token_fault sized_fault ts_fault kind_fault room_fault mode_fault here_fault one_here_fault mode_here_fault kind_here_fault
two_handlers_say = record { right = refl; is = refl }

abbrev reply : ℕ → ℕ → Call → Answer → Reply
reply h n call answer = record { handler = h; number = n; call = call; answer = answer }

abbrev replies : List Reply
replies =
    reply 1 1 (Put 1 true (batch_of (name_cell ∷ mail_cell ∷ []))) (PutOk 1) ∷ reply 1 2 (Scan Raw 1 [] []) (Scanned 1 ((1, mail_cell) ∷ (1, name_cell) ∷ [])) ∷ reply 1 3 (Flush 1 None) (FlushOk 1)
    ∷ reply 2 1 (Put 2 true (batch_of (key_cell ∷ []))) (PutOk 1) ∷ reply 2 2 Roll (RollOk 1 2) ∷ reply 2 3 (Scan Raw 2 (codes "k1") (codes "k2")) (Scanned 1 ((1, key_cell) ∷ [])) ∷ []

abbrev edit_in : ℕ → ℕ → List Cell → Edit
edit_in r h cells = record { entry = record { region = r; number = 1; time = 1700000000000; batch = batch_of cells }; caller = record { handler = h; call = 1 }; outcome = Done }

abbrev no_base : Base
no_base = record { content = empty; last = 0 }

abbrev histories : List History
histories = record { region = 1; base = no_base; edits = edit_in 1 1 (name_cell ∷ mail_cell ∷ []) ∷ [] } ∷ record { region = 2; base = no_base; edits = edit_in 2 2 (key_cell ∷ []) ∷ [] } ∷ []

-- one reply for each call, in order
each_call_has_its_reply : map asked_by replies ≡ asked script
each_call_has_its_reply = refl

two_handlers_report : report_text (report_of histories replies 0)
    ≡ codes "hwal 1\nregion 1 base 0 0\nedit 1 1 1 done\nregion 2 base 0 0\nedit 1 2 1 done\nreply 1 1 put ok 1\nreply 1 2 scan 1 2\n"
    ++ codes "cell 1 user1 info mail 1700000000000 put ann@x\ncell 1 user1 info name 1700000000000 put Ann\nreply 1 3 flush ok 1\nreply 2 1 put ok 1\n"
    ++ codes "reply 2 2 roll ok 1 2\nreply 2 3 scan 1 1\ncell 1 k1 f q 5 put v\nend 0\n"
unfolding report_text region_text edit_text reply_text cell_line end_line digits
two_handlers_report =
    ap (λ (n : ℕ). report_text (record {
      regions = record { region = 1; last = 0; count = n; edits = record { number = 1; handler = 1; call = 1; done = true } ∷ [] } ∷ record { region = 2; last = 0; count = n; edits = record { number = 1; handler = 2; call = 1; done = true } ∷ [] } ∷ [];
      replies = map reply_line replies;
      status = 0;
    })) none
  where
    none : length (cells_of empty) ≡ 0
    none = ap (λ (es : List (VersionKey × Payload)). length (map cell_of es)) entries-empty

its_status : FitsStatus 0 replies
its_status = record {
  one_of = inl refl;
  faults = λ r is f. absurd (All-contains (λ (r : Reply). IsFault r.answer → ⊥) replies r (All-from_recursion (λ (r : Reply). IsFault r.answer → ⊥) replies ((λ f. f), ((λ f. f), ((λ f. f), ((λ f. f), ((λ f. f), ((λ f. f), tt))))))) is f);
  clean = λ e r is. All-contains (λ (r : Reply). IsClean r.answer) replies r (All-from_recursion (λ (r : Reply). IsClean r.answer) replies (tt, (tt, (tt, (tt, (tt, (tt, tt))))))) is;
  spent = λ r is f. absurd (All-contains (λ (r : Reply). IsSpent r.answer → ⊥) replies r (All-from_recursion (λ (r : Reply). IsSpent r.answer → ⊥) replies ((λ f. f), ((λ f. f), ((λ f. f), ((λ f. f), ((λ f. f), ((λ f. f), tt))))))) is f);
  memory = λ e. absurd (omega (arith, e));
  spent_only = λ e. absurd (omega (arith, e));
}

-- of two puts that found the numbers spent the first one is named
first_of_two : first_spent (reply 1 1 (Put 1 true (batch_of (key_cell ∷ []))) (PutMemory None) ∷ reply 1 2 (Put 2 false (batch_of (key_cell ∷ []))) (PutSpent 281474976710655) ∷ reply 2 1 (Put 1 true (batch_of (key_cell ∷ []))) (PutSpent 281474976710655) ∷ [])
    ≡ Some (record { region = 2; last = 281474976710655 })
first_of_two = refl
