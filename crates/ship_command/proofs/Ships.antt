-- What the command printed, and how it ends.
use Rattle.std.specs.Fmt.{digits}
use Rattle.std.proofs.Common.{codes, Bool, false, IsTrue, ◌≡◌, ◌≢◌, ◌⊎◌, ◌≤◌, ℕ, List, [], ◌∷◌, ◌++◌, Some, None, Result, Ok, Err, IfOk, OnOk, inl, inr, refl, sym, ap, subst, ◌∙◌, arith}
use Rattle.std.proofs.lemmas.List.{append_assoc, append-nil}
use Rattle.log_model.specs.declared.damage.Damage.{Damage}
use Rattle.log_model.specs.declared.damage.Damage.TheVariants.{Bytes, Two}
use Rattle.log_model.specs.declared.name.Name.{Name}
use Rattle.log_model.specs.Files.{Files, content}
use Rattle.disk_images.specs.Crash.{DiskView, IsImageNow}
use Rattle.disk_images.specs.Calls.{Rose}
use Rattle.disk_images.proofs.Moments.{at_end}
use Rattle.log_tail.specs.Position.{position_of}
use Rattle.log_tail.specs.Reads.{OnlyReads, IsDamagedAt, IsNoPosition}
use Rattle.chronicle_model.specs.Chronicle.{Position}
use Rattle.ship_queue.specs.Course.{LeadsTo}
use Rattle.cell_model.specs.Lists.{IsPrefix}
use Rattle.ship_queue.specs.Messages.{Message}
use Rattle.ship_queue.specs.Refusals.{IsOrFailure}
use Rattle.ship_queue.specs.Shipping.{ShipsBeginning, ShipsUpTo, ShipsAll, AreTexts}
use Rattle.ship_command.specs.Sinks.{message_text, HasWritten, IsTorn}
use Rattle.script_model.specs.Report.{end_line}
use Rattle.ship_queue.specs.declared.error.Shipped.{Shipped}
use Rattle.ship_queue.specs.declared.error.ShipRefusal.{ShipRefusal}
use Rattle.ship_queue.specs.declared.error.ShipRefusal.TheVariants as ships
use Rattle.command_base.specs.Invocation.{invocation, taken_of, IsUnchanged, KeepsImages}
use Rattle.command_base.specs.Prints.{Prints}
use Rattle.command_base.specs.Status.{refusal_line, IsDamageOf, IsNoPositionOf, IsOrEarlier}
use Rattle.command_base.specs.declared.status.Status.{Status}
use Rattle.command_base.specs.declared.status.Status.TheVariants as ends
use Rattle.command_base.proofs.Endings.{taken_front}
use Rattle.ship_command.specs.Shipped.{messages_text, EndsShip, IsShipDamage, IsShipEnd, IsStopOf}
use Rattle.ship_command.specs.Refusals.{HasPrinted, HasCut, refused_as}
use Rattle.ship_command.proofs.Cuts.{cut_here, cut_as, cut_from}
use Rattle.ship_command.proofs.Written.{texts_of}

-- ---- the disk

pub unchanged : (v w : DiskView) → OnlyReads v w → IsUnchanged v w
unchanged v w (by, looks) = record { files = λ m. ap (λ (f : Files). content f m) looks.files; images = λ J image. at_end (IsImageNow v) by v w looks.moments J image }

pub kept : (v w : DiskView) → OnlyReads v w → KeepsImages v w
kept v w (by, looks) = ∣ (by, looks.moments) ∣₁

-- ---- what was written

-- a peer over a sink that has written nothing
pub begun : (told failed : Bool) (before now : List ℕ) → IsTrue told → failed ≡ false → now ≡ before → HasWritten told failed before now []
begun told failed before now tells whole is = record { tells = tells; whole = whole; is = is ∙ sym (append-nil before) }

pub same_err : {T : Type 0} (r : Result T ShipRefusal) (a b : ShipRefusal) → r ≡ Err a → r ≡ Err b → a ≡ b
same_err r a b x y = cc

-- all was shipped, up to where the tail stands
end_reached : (files : Files) (p stop : Position) (ms : List Message) (result : Result Shipped ShipRefusal) → IfOk result (λ x. ShipsAll files p ms (position_of x.position))
    → IfOk result (λ x. position_of x.position ≡ stop) → OnOk result (AreTexts files p.file) → OnOk result (ShipsAll files p ms stop × AreTexts files p.file)
end_reached files p stop ms (Ok x) all is texts = (subst (ShipsAll files p ms) is all, texts)
end_reached files p stop ms (Err e) all is texts = tt

-- what the refusal tells is there, where the tail stands
stopped : (files : Files) (stop : Position) (result : Result Shipped ShipRefusal) → ((name : Name) (at : ℕ) → result ≡ Err (ships.Damaged name at) → IsDamagedAt files stop.file name at)
    → ((file has : ℕ) → result ≡ Err (ships.NoPosition file has) → IsNoPosition files stop file has) → (refusal : ShipRefusal) → result ≡ Err refusal → IsStopOf (refused_as refusal) files stop
stopped files stop result damaged lacks ships.Memory is = tt
stopped files stop result damaged lacks ships.DiskFault is = tt
stopped files stop result damaged lacks (ships.Damaged name at) is = damaged name at is
stopped files stop result damaged lacks (ships.NoPosition file has) is = lacks file has is
stopped files stop result damaged lacks ships.PeerFault is = tt

-- what a peer has written since
pub printed : (files : Files) (p stop : Position) (told failed : Bool) (had before now : List ℕ) (result : Result Shipped ShipRefusal) → before ≡ had → LeadsTo files p stop
    → ((more : List Message) × HasWritten told failed before now more × ShipsBeginning files p more × ShipsUpTo files p more stop × IfOk result (λ x. ShipsAll files p more (position_of x.position)))
    → IfOk result (λ x. position_of x.position ≡ stop) → OnOk result (AreTexts files p.file) → ((name : Name) (at : ℕ) → result ≡ Err (ships.Damaged name at) → IsDamagedAt files stop.file name at)
    → ((file has : ℕ) → result ≡ Err (ships.NoPosition file has) → IsNoPosition files stop file has) → HasPrinted files p had now result
printed files p stop told failed had before now result same leads s is texts damaged lacks = record {
  messages = s.0;
  is = s.1.is ∙ ap (λ (l : List ℕ). l ++ messages_text s.0) same;
  records = s.2;
  stop = stop;
  leads = leads;
  shipped = s.3;
  all = end_reached files p stop s.0 result s.4 is texts;
  why = stopped files stop result damaged lacks;
}

-- nothing was shipped
pub none_written : (files : Files) (p : Position) (had : List ℕ) → HasPrinted {T = Shipped} files p had had (Err ships.Memory)
none_written files p had = record {
  messages = [];
  is = sym (append-nil had);
  records = λ c is. record { begins = (_, refl); records = tt; each = omega arith };
  stop = p;
  leads = ([], refl);
  shipped = λ c is. refl;
  all = tt;
  why = stopped files p (Err ships.Memory) (λ name at is. absurd cc) (λ file has is. absurd cc);
}

-- the sink failed within one message
pub torn : (files : Files) (p : Position) (told : Bool) (had before now : List ℕ) → before ≡ had
    → ((more : List Message) × (m : Message) × (rest : List Message) × IsTorn told before now more m × ShipsBeginning files p (more ++ m ∷ rest)) → HasCut files p had now
torn files p told had before now same s = record {
  messages = s.0 ++ s.1 ∷ s.2;
  records = s.4;
  cut = cut_from same (cut_as (append_assoc (messages_text s.0) _ (messages_text s.2) ∙ sym (texts_of s.0 (s.1 ∷ s.2))) (cut_here (messages_text s.0 ++ message_text s.1) (messages_text s.2) s.3.cut));
}

-- ---- what was printed

-- after what was shipped stands what was printed then
behind_it : (had mid has shipped front : List ℕ) → mid ≡ had ++ shipped → has ≡ mid ++ front → taken_of had has ≡ shipped ++ front
behind_it had mid has shipped front first then = taken_front had has (shipped ++ front) (then ∙ ap (λ (l : List ℕ). l ++ front) first ∙ append_assoc had shipped front)

-- what begins all that it has and a text has taken a beginning of the text
begun_of : (had has text rest : List ℕ) → had ++ text ≡ has ++ rest → IsPrefix (taken_of had has) text
begun_of [] has text rest is = (rest, is)
begun_of (h ∷ hs) [] text rest is = (text, refl)
begun_of (h ∷ hs) (k ∷ ks) text rest is = begun_of hs ks text rest (cc is)

end_bytes : end_line 0 ≡ codes "end 0\n"
unfolding end_line digits
end_bytes = refl

never_line : (status : Status) (line : List ℕ) → (status ≡ ends.Done) ⊎ (status ≡ ends.SinkFault) → refusal_line status ≡ Some line → ⊥
never_line status line (inl is) told = let no : None ≡ Some line = sym (ap refusal_line is) ∙ told in absurd cc
never_line status line (inr is) told = let no : None ≡ Some line = sym (ap refusal_line is) ∙ told in absurd cc

done_sink : (status : Status) → status ≡ ends.Done → status ≡ ends.SinkFault → ⊥
done_sink status done sink = let no : ends.Done ≡ ends.SinkFault = sym done ∙ sink in absurd cc

-- all was shipped, and the last line printed unless the sink failed
pub whole_ends : (x : Shipped) (p : Position) (status : Status) (script had mid has : List ℕ) (v w : DiskView) (sank : Type 0) → (status ≡ ends.Done) ⊎ (status ≡ ends.SinkFault)
    → HasPrinted v.files p had mid (Ok x) → Prints mid has (codes "end 0\n") (status ≡ ends.SinkFault) → EndsShip p status (invocation script v w had has) sank
whole_ends x p status script had mid has v w sank either written printed = record {
  cut = λ failed.
      let text : List ℕ = messages_text written.messages ++ end_line 0 in
      let taken : taken_of had has ≡ messages_text written.messages ++ printed.front = behind_it had mid has (messages_text written.messages) printed.front written.is printed.is in (
        text,
        (
          printed.begins.0,
          ap (λ (l : List ℕ). messages_text written.messages ++ l) (end_bytes ∙ printed.begins.1) ∙ sym (append_assoc (messages_text written.messages) printed.front printed.begins.0)
              ∙ ap (λ (l : List ℕ). l ++ printed.begins.0) (sym taken),
        ),
        inr (record { messages = written.messages; is = refl; records = written.records; last = written.stop; all = written.all.0; leads = written.leads; texts = written.all.1 }),
      );
  done = λ done. record {
    messages = written.messages;
    is = behind_it had mid has (messages_text written.messages) printed.front written.is printed.is
        ∙ ap (λ (l : List ℕ). messages_text written.messages ++ l) (printed.whole (done_sink status done) ∙ sym end_bytes);
    records = written.records;
    last = written.stop;
    all = written.all.0;
    leads = written.leads;
    texts = written.all.1;
  };
  refused = λ line told. absurd (never_line status line either told);
}

-- ---- refusals

pub rose_then : (a b c : ℕ) → Rose a b → b ≤ c → Rose a c
rose_then a b c rose later = omega (arith, rose, later)

never_done : (refusal : ShipRefusal) → refused_as refusal ≡ ends.Done → ⊥
never_done ships.Memory e = absurd cc
never_done ships.DiskFault e = absurd cc
never_done (ships.Damaged name at) e = absurd cc
never_done (ships.NoPosition file has) e = absurd cc
never_done ships.PeerFault e = absurd cc

pub sink_refused : (refusal : ShipRefusal) → refused_as refusal ≡ ends.SinkFault → refusal ≡ ships.PeerFault
sink_refused ships.Memory e = absurd cc
sink_refused ships.DiskFault e = absurd cc
sink_refused (ships.Damaged name at) e = absurd cc
sink_refused (ships.NoPosition file has) e = absurd cc
sink_refused ships.PeerFault e = refl

has_line : (refusal : ShipRefusal) (line : List ℕ) → refusal_line (refused_as refusal) ≡ Some line → refusal ≢ ships.PeerFault
has_line refusal line told is = let no : None ≡ Some line = sym (ap (λ (r : ShipRefusal). refusal_line (refused_as r)) is) ∙ told in absurd cc

-- what stands in front of it was shipped, and the line printed that refuses
pub refused_ends : (refusal : ShipRefusal) (p : Position) (status : Status) (script had mid has : List ℕ) (v w : DiskView) (cut sank : Type 0) → status ≡ refused_as refusal
    → (refusal ≢ ships.PeerFault → HasPrinted {T = Shipped} v.files p had mid (Err refusal)) → (cut → sank)
    → ((line : List ℕ) → refusal_line (refused_as refusal) ≡ Some line → Prints mid has line cut) → (refusal ≡ ships.PeerFault → HasCut v.files p had has)
    → EndsShip p status (invocation script v w had has) sank
refused_ends refusal p status script had mid has v w cut sank is wrote then prints tore = record {
  cut = λ failed.
      let t = tore (sink_refused refusal (sym is ∙ failed)) in
      (messages_text t.messages, begun_of had has (messages_text t.messages) t.cut.rest t.cut.is, inl (record { messages = t.messages; is = refl; records = t.records }));
  done = λ done. absurd (never_done refusal (sym is ∙ done));
  refused = λ line told.
      let told_so : refusal_line (refused_as refusal) ≡ Some line = sym (ap refusal_line is) ∙ told in
      let written = wrote (has_line refusal line told_so) in
      let printed = prints line told_so in
      record {
        messages = written.messages;
        rest = printed.front;
        is = behind_it had mid has (messages_text written.messages) printed.front written.is printed.is;
        records = written.records;
        stop = written.stop;
        leads = written.leads;
        why = subst (λ (s : Status). IsStopOf s v.files written.stop) (sym is) (written.why refusal refl);
        shipped = written.shipped;
        refused = record { begins = printed.begins; whole = λ uncut. printed.whole (λ c. uncut (then c)) };
      };
}

pub refused_end : (refusal : ShipRefusal) → IsShipEnd (refused_as refusal)
refused_end ships.Memory = tt
refused_end ships.DiskFault = tt
refused_end (ships.Damaged name at) = tt
refused_end (ships.NoPosition file has) = tt
refused_end ships.PeerFault = tt

pub refused_damage : (refusal : ShipRefusal) (P : Damage → Type 0) → ((name : Name) (at : ℕ) → refusal ≡ ships.Damaged name at → P (Bytes name at)) → IsDamageOf (refused_as refusal) P
refused_damage ships.Memory P found = tt
refused_damage ships.DiskFault P found = tt
refused_damage (ships.Damaged name at) P found = found name at refl
refused_damage (ships.NoPosition file has) P found = tt
refused_damage ships.PeerFault P found = tt

pub refused_position : (refusal : ShipRefusal) (P : ℕ → ℕ → Type 0) → ((file has : ℕ) → refusal ≡ ships.NoPosition file has → P file has) → IsNoPositionOf (refused_as refusal) P
refused_position ships.Memory P found = tt
refused_position ships.DiskFault P found = tt
refused_position (ships.Damaged name at) P found = tt
refused_position (ships.NoPosition file has) P found = found file has refl
refused_position ships.PeerFault P found = tt

pub disk_refused : (refusal : ShipRefusal) → refused_as refusal ≡ ends.DiskFault → refusal ≡ ships.DiskFault
disk_refused ships.Memory e = absurd cc
disk_refused ships.DiskFault e = refl
disk_refused (ships.Damaged name at) e = absurd cc
disk_refused (ships.NoPosition file has) e = absurd cc
disk_refused ships.PeerFault e = absurd cc

-- ---- refusals that must come

-- shipping that ends with Ok met none
pub none_met : (x : Shipped) (refusal : ShipRefusal) → IsOrFailure (Ok x) refusal → ⊥
none_met x refusal (inl is) = absurd cc
none_met x refusal (inr (inl is)) = absurd cc
none_met x refusal (inr (inr (inl is))) = absurd cc
none_met x refusal (inr (inr (inr is))) = absurd cc

-- it is this status, or one of a failure that came before
pub earlier_of : (refusal e : ShipRefusal) (status : Status) → status ≡ refused_as e → IsOrFailure {T = Shipped} (Err e) refusal → IsOrEarlier status (refused_as refusal) (ends.DiskFault ∷ ends.SinkFault ∷ [])
earlier_of refusal e status is (inl this) = inl (is ∙ ap refused_as (same_err (Err e) e refusal refl this))
earlier_of refusal e status is (inr (inl memory)) = inr (0, omega arith, sym (is ∙ ap refused_as (same_err (Err e) e ships.Memory refl memory)))
earlier_of refusal e status is (inr (inr (inl disk))) = inr (1, omega arith, sym (is ∙ ap refused_as (same_err (Err e) e ships.DiskFault refl disk)))
earlier_of refusal e status is (inr (inr (inr peer))) = inr (2, omega arith, sym (is ∙ ap refused_as (same_err (Err e) e ships.PeerFault refl peer)))

-- so of damage
pub damage_met : (p : Position) (files : Files) (damage : Damage) (P : Damage → Type 0) → IsShipDamage p files damage → ((name : Name) (at : ℕ) → IsShipDamage p files (Bytes name at) → P (Bytes name at)) → P damage
damage_met p files (Bytes name at) P there met = met name at there
damage_met p files (Two first second region number) P there met = absurd there
