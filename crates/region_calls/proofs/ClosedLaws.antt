-- What is closed is what the law of a server's calls speaks of.
use Rattle.std.proofs.Common.{◌≡◌, ℕ, zero, suc, ◌+◌, ◌-◌, ◌<◌, ◌≤◌, ◌^◌, Bool, List, [], ◌∷◌, length, map, take, Contains, refl, sym, ap, ◌∙◌, subst, arith}
use Rattle.std.proofs.lemmas.List.{length-map}
use Rattle.std.proofs.Math.Logic.{∥∥₁_map}
use Rattle.cell_model.specs.Order.{Content, put_cells}
use Rattle.log_model.specs.Entry.{Entry}
use Rattle.log_model.specs.Files.{Files}
use Rattle.log_model.specs.Recovered.{IsRecovered, IsContent, IsLast, put_entries}
use Rattle.disk_images.specs.Crash.{DiskView, Since}
use Rattle.log_berth.specs.Standing.{Saw}
use Rattle.pass_calls.specs.log_service.declared.seats.LogSeat.{LogSeat}
use Rattle.pass_calls.specs.log_service.Numbers.{seen_synced, seen_stored, seen_closed}
use Rattle.pass_calls.specs.log_service.Closed.{Image, Commits as ServiceCommits, synced_in, stored_in, closed_in}
use Rattle.region_model.specs.Journal.{Base, Edit, IsJournal, cut_at, put_edits}
use Rattle.region_model.specs.Lines.{Line, edit_in, edits_in}
use Rattle.region_model.specs.Crash.{Fits}
use Rattle.server_model.specs.Pass.{Pass, Naming}
use Rattle.server_model.specs.Closing.{Region, IsClosedRegion, Survives}
use Rattle.server_model.specs.Service.{Commits}
use Rattle.server_model.proofs.ServiceLaw.{survives_from, cut_is_take}
use Rattle.pass_calls.specs.region_lock.Parts.{AreOwned, entries_in}
use Rattle.pass_calls.proofs.region_lock_laws.Knowns.{last_same}
use Rattle.region_calls.specs.Closes.{HasMet, worded, AreWordsIn, HasSurvived}

-- each edit of lines of n handlers is of one of them
pub owned_edits : (n r : ℕ) (xs : List Line) → AreOwned n xs → (e : Edit) → Contains (edits_in r xs) e → (1 ≤ e.caller.handler) × (e.caller.handler ≤ n)
owned_edits n r [] owned e c = let lt = c.1 in absurd (omega arith)
owned_edits n r (x ∷ xs) owned e (zero, lt, is) = subst (λ (d : Edit). (1 ≤ d.caller.handler) × (d.caller.handler ≤ n)) is owned.0
owned_edits n r (x ∷ xs) owned e (suc k, lt, is) = owned_edits n r xs owned.1 e (k, omega (arith, lt), is)

-- what a seat had seen of a region is at most the words that a close gives
pub seen_in_words : (n r : ℕ) (seat : LogSeat) (words : List ℕ) (broken : Bool) → Saw seat.device words broken
    → (seen_synced seat.device.knows r ≤ synced_in words r) × (seen_stored n seat.device.knows r ≤ stored_in n words r) × (seen_closed n seat.device.knows r ≤ closed_in n words r)
seen_in_words n r seat words broken saw = (saw.seen (r - 1), saw.seen (n + r - 1), saw.seen (n + n + r - 1))

-- A region whose passes all met in its journal, and whose words are at or above what each of their seats had seen, is closed.
pub closed_region : (name : Naming) (handlers n r : ℕ) (passes : List Pass) (words : List ℕ) (base : Base) (xs : List Line) → HasMet name.bases handlers passes r base xs → AreWordsIn (synced_in words r) (stored_in n words r) base xs
    → ((h : ℕ) → 1 ≤ h → h ≤ handlers → (p : Pass) × Contains passes p × (p.handler ≡ h))
    → ((p : Pass) → Contains passes p → ((p.known r).synced ≤ synced_in words r) × ((p.known r).stored ≤ stored_in n words r) × ((p.known r).closed ≤ closed_in n words r))
    → IsClosedRegion name r passes (worded n words r base xs)
closed_region name handlers n r passes words base xs met within all seen = record {
  base = met.base_is;
  journal = met.journal;
  limit = subst (λ (k : ℕ). k < 2 ^ 48) (sym (last_same base r xs)) met.limit;
  shown = λ p c. (met.each p c).shown;
  own = λ p c. (met.each p c).own;
  owners = λ e c. let o = owned_edits handlers r xs met.owners e c in all e.caller.handler o.0 o.1;
  synced_seen = λ p c. (seen p c).0;
  stored_seen = λ p c. (seen p c).1;
  closed_seen = λ p c. (seen p c).2;
  synced = subst (λ (k : ℕ). synced_in words r ≤ k) (sym (last_same base r xs)) within.synced_most;
  stored = subst (λ (k : ℕ). stored_in n words r ≤ k) (sym (last_same base r xs)) within.most;
  stored_least = within.least;
  spent = λ p k c. (met.each p c).spent k;
}

-- the entries of lines are those of their edits
pub entries_are : (r : ℕ) (xs : List Line) → entries_in r xs ≡ map (λ (e : Edit). e.entry) (edits_in r xs)
entries_are r [] = refl
entries_are r (x ∷ xs) = ap (λ (l : List Entry). (edit_in r x).entry ∷ l) (entries_are r xs)

-- what a close of the service gives of a region's entries, as the law reads it
pub commits_of : (disk : DiskView) (broken : Bool) (r last : ℕ) (base : Base) (pushed : List Entry) (synced stored closed : ℕ) → last ≡ base.last
    → ServiceCommits disk broken r last base.content pushed synced stored closed → Commits disk broken r base pushed synced stored closed
commits_of disk broken r last base pushed synced stored closed same c =
    let d = subst (λ (k : ℕ). ServiceCommits disk broken r k base.content pushed synced stored closed) same c in
    record {
      images = λ J image. let i = d.images J image in (i.0, i.1.fit, i.1.within, i.1.content, i.1.last_is, i.2, i.3, i.4);
      keeps_stored = d.keeps_stored;
      keeps_closed = d.keeps_closed;
      bound = d.bound;
    }

-- A crash leaves of a journal whose entries were pushed what the service's close says.
pub survives_of : (disk : DiskView) (broken : Bool) (n r last : ℕ) (words : List ℕ) (base : Base) (xs : List Line) → IsJournal r base (edits_in r xs) → last ≡ base.last
    → ServiceCommits disk broken r last base.content (entries_in r xs) (synced_in words r) (stored_in n words r) (closed_in n words r) → Survives disk broken r (worded n words r base xs)
survives_of disk broken n r last words base xs journal same c =
    survives_from disk broken r (worded n words r base xs) (entries_in r xs) journal (entries_are r xs) (commits_of disk broken r last base (entries_in r xs) (synced_in words r) (stored_in n words r) (closed_in n words r) same c)

-- ---- a beginning of the entries is one of the edits

abbrev entry_of : Edit → Entry
entry_of e = e.entry

as_entries : (m : Content) (es : List Edit) → put_edits m es ≡ put_entries m (map entry_of es)
as_entries m [] = refl
as_entries m (e ∷ es) = as_entries (put_cells m e.entry.number e.entry.batch.cells) es

take_entries : (k : ℕ) (es : List Edit) → map entry_of (take k es) ≡ take k (map entry_of es)
take_entries zero es = refl
take_entries (suc k) [] = refl
take_entries (suc k) (e ∷ es) = ap (λ (l : List Entry). e.entry ∷ l) (take_entries k es)

-- an image with the first k entries of a journal fits it
pub fits_of : (J : Files) (r last k : ℕ) (x : Region) (pushed : List Entry) → IsJournal r x.base x.edits → pushed ≡ map entry_of x.edits → last ≡ x.base.last → Image r last x.base.content pushed J k → Fits J r x.base x.edits (x.base.last + k)
fits_of J r last k x pushed journal same first i =
    let long : length pushed ≡ length x.edits = ap length same ∙ length-map x.edits entry_of in
    let within : k ≤ length x.edits = omega (arith, i.within, long) in
    let content : put_entries x.base.content (take k pushed) ≡ put_edits x.base.content (cut_at (x.base.last + k) x.edits) =
    ap (λ l. put_entries x.base.content (take k l)) same
    ∙ ap (put_entries x.base.content) (sym (take_entries k x.edits))
    ∙ sym (as_entries x.base.content (take k x.edits))
    ∙ ap (put_edits x.base.content) (sym (cut_is_take x.base.last k x.edits journal.numbers within)) in
    record {
      fit = i.fit;
      least = omega arith;
      most = omega (arith, within);
      content = subst (IsContent (IsRecovered J r)) content i.content;
      last = subst (λ (m : ℕ). IsLast J r (m + k)) first i.last_is;
    }

-- so it was at each moment since the start
pub survived_of : (start : ℕ) (disk : DiskView) (n r last : ℕ) (words : List ℕ) (base : Base) (xs : List Line) → IsJournal r base (edits_in r xs) → last ≡ base.last
    → Since start (λ J. ∥ ((k : ℕ) × Image r last base.content (entries_in r xs) J k) ∥₁) disk → HasSurvived start disk r (worded n words r base xs)
survived_of start disk n r last words base xs journal same s = record {
  begun = s.begun;
  each = λ t J low high image. ∥∥₁_map (s.each t J low high image) (λ i. (base.last + i.0, fits_of J r last i.0 (worded n words r base xs) (entries_in r xs) journal (entries_are r xs) same i.1));
}
