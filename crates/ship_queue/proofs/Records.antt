-- What was recorded is true of a chronicle.
use Rattle.std.proofs.Common.{◌≡◌, ◌⊎◌, ℕ, ◌<◌, List, [], ◌∷◌, ◌++◌, Option, Some, None, refl, sym, ap, ◌∙◌, subst, inl, inr, append_assoc, append-nil}
use Rattle.cell_model.specs.Lists.{IsPrefix}
use Rattle.chronicle_model.specs.Chronicle.{Placed, IsOrdered, Position, behind}
use Rattle.ship_queue.specs.Messages.{Message, Entry_of, Record_of, shipped_in, recorded_from, recorded_in, position_behind, MayBeRecorded}
use Rattle.ship_queue.specs.Sent.{AreMarks, AreSent, IsCut, RecordsEach}
use Rattle.ship_queue.specs.Shipping.{AreRecords, IsShip, IsWholeShip, IsPartShip}
use Rattle.ship_queue.proofs.Told.{shipped_append, recorded_append}
use Rattle.ship_queue.proofs.Each.{each_so_far, each_at_end}
use Rattle.ship_queue.proofs.Sends.{IsLastOf, IsMark, last_mark}
use Rattle.ship_queue.proofs.Behind.{behind_mark}

pub some_is : (p q : Position) → Some p ≡ Some q → p ≡ q
some_is p q is = cc

module _ (c : List Placed) (p : Position) (o : IsOrdered c) where
  -- after the last one of what was shipped stands the rest
  at_last : (done rest : List Placed) (l : Option Position) (q : Position) → behind c p ≡ done ++ rest → IsLastOf done l → l ≡ Some q → behind c p ≡ done ++ behind c q
  at_last done rest l q is (inl none) some = absurd (cc (none, some))
  at_last done rest l q is (inr (front, x, ends, last)) some =
      let position : position_behind x ≡ q = some_is (position_behind x) q (sym last ∙ some) in
      let there : behind c (position_behind x) ≡ rest = behind_mark c p front x rest o (is ∙ ap (λ (l : List Placed). l ++ rest) ends) in
      is ∙ ap (λ (l : List Placed). done ++ l) (sym there ∙ ap (behind c) position)

  pub marks_are_records : (done : List Placed) (l : Option Position) (ms : List Message) (rest : List Placed) → behind c p ≡ done ++ (shipped_in ms ++ rest) → IsLastOf done l → AreMarks l ms → AreRecords c p done ms
  marks_are_records done l [] rest is last m = tt
  marks_are_records done l (Entry_of x ∷ ms) rest is last m =
      marks_are_records (done ++ x ∷ []) (Some (position_behind x)) ms rest (is ∙ sym (append_assoc done (x ∷ []) (shipped_in ms ++ rest))) (inr (done, x, refl, refl)) m
  marks_are_records done l (Record_of q ∷ ms) rest is last m =
      (at_last done (shipped_in ms ++ rest) l q is last m.0, marks_are_records done l ms rest is last m.1)

  -- what was sent, of a beginning
  pub sent_is_ship : (ms : List Message) (xs rest : List Placed) → behind c p ≡ xs ++ rest → AreSent ms xs → (m : ℕ) → RecordsEach 0 ms m → m < 64 → IsShip c p ms
  sent_is_ship ms xs rest is s m each lt =
      let split : behind c p ≡ shipped_in ms ++ rest = is ∙ ap (λ (l : List Placed). l ++ rest) (sym s.shipped) in
      record { begins = (rest, split); records = marks_are_records [] None ms rest split (inl refl) s.marks; each = each_so_far 0 m ms each lt }

  pub sent_up_to : (ms : List Message) (xs rest : List Placed) → behind c p ≡ xs ++ rest → AreSent ms xs → behind c p ≡ shipped_in ms ++ rest
  sent_up_to ms xs rest is s = is ∙ ap (λ (l : List Placed). l ++ rest) (sym s.shipped)

  -- one record more, at the end
  record_more : (done : List Placed) (ms : List Message) (q : Position) → AreRecords c p done ms → behind c p ≡ (done ++ shipped_in ms) ++ behind c q → AreRecords c p done (ms ++ Record_of q ∷ [])
  record_more done [] q a is = (is ∙ ap (λ (l : List Placed). l ++ behind c q) (append-nil done), tt)
  record_more done (Entry_of x ∷ ms) q a is =
      record_more (done ++ x ∷ []) ms q a (is ∙ ap (λ (l : List Placed). l ++ behind c q) (sym (append_assoc done (x ∷ []) (shipped_in ms))))
  record_more done (Record_of r ∷ ms) q a is = (a.0, record_more done ms q a.1 is)

  shipped_last : (ms : List Message) (q : Position) → shipped_in (ms ++ Record_of q ∷ []) ≡ shipped_in ms
  shipped_last ms q = shipped_append ms (Record_of q ∷ []) ∙ append-nil (shipped_in ms)

  pub end_up_to : (ms : List Message) (xs : List Placed) (q : Position) → behind c p ≡ xs ++ behind c q → AreSent ms xs → behind c p ≡ shipped_in (ms ++ Record_of q ∷ []) ++ behind c q
  end_up_to ms xs q is s = sent_up_to ms xs (behind c q) is s ∙ ap (λ (l : List Placed). l ++ behind c q) (sym (shipped_last ms q))

  pub end_is_ship : (ms : List Message) (xs : List Placed) (q : Position) → behind c p ≡ xs ++ behind c q → AreSent ms xs → (m : ℕ) → RecordsEach 0 ms m → m < 64 → IsShip c p (ms ++ Record_of q ∷ [])
  end_is_ship ms xs q is s m each lt =
      let first : IsShip c p ms = sent_is_ship ms xs (behind c q) is s m each lt in
      let split : behind c p ≡ shipped_in ms ++ behind c q = is ∙ ap (λ (l : List Placed). l ++ behind c q) (sym s.shipped) in
      record {
        begins = (behind c q, split ∙ ap (λ (l : List Placed). l ++ behind c q) (sym (shipped_last ms q)));
        records = record_more [] ms q first.records split;
        each = each_at_end 0 m ms q each lt;
      }

  pub end_is_whole : (ms : List Message) (xs : List Placed) (q : Position) → behind c p ≡ xs ++ behind c q → behind c q ≡ [] → AreSent ms xs → IsWholeShip c p (ms ++ Record_of q ∷ []) q
  end_is_whole ms xs q is none s = record {
    shipped = shipped_last ms q ∙ s.shipped ∙ sym (append-nil xs) ∙ ap (λ (l : List Placed). xs ++ l) (sym none) ∙ sym is;
    front = ms;
    last = refl;
    none = none;
  }

  -- ---- a peer that failed

  -- a position up to which these were shipped
  abbrev pub HasRecord : List Placed → Option Position → Type 0
  HasRecord more r = (q : Position) × (r ≡ Some q) × (done : List Placed) × IsPrefix done more × (behind c p ≡ done ++ behind c q)

  mark_is_record : (more rest : List Placed) (r : Option Position) → behind c p ≡ more ++ rest → IsMark more r → HasRecord more r
  mark_is_record more rest r is (done, x, begins, last) =
      let parts : behind c p ≡ (done ++ x ∷ []) ++ (begins.0 ++ rest) = is ∙ ap (λ (l : List Placed). l ++ rest) begins.1 ∙ append_assoc (done ++ x ∷ []) begins.0 rest in
      (position_behind x, last, done ++ x ∷ [], begins, parts ∙ ap (λ (l : List Placed). (done ++ x ∷ []) ++ l) (sym (behind_mark c p done x (begins.0 ++ rest) o parts)))

  pub cut_is_part : (ms ns : List Message) (xs rest : List Placed) → behind c p ≡ xs ++ rest → IsCut ms ns xs → IsPartShip c p ms ns
  cut_is_part ms ns xs rest is s =
      let split : behind c p ≡ s.more ++ (s.begins.0 ++ rest) = is ∙ ap (λ (l : List Placed). l ++ rest) s.begins.1 ∙ append_assoc s.more s.begins.0 rest in
      record {
        more = s.more;
        shipped = s.shipped;
        begins = (s.begins.0 ++ rest, split);
        recorded = elim s.recorded as (λ _. (recorded_in ns ≡ recorded_in ms) ⊎ HasRecord s.more (recorded_in ns)) [
          | inl same ↦ inl same
          | inr mark ↦ inr (mark_is_record s.more (s.begins.0 ++ rest) (recorded_in ns) split mark)
        ];
      }

  -- all was shipped, and the last record may have come
  pub end_is_part : (ms ns a : List Message) (xs : List Placed) (q : Position) → behind c p ≡ xs ++ behind c q → AreSent a xs → MayBeRecorded (ms ++ a) ns q → IsPartShip c p ms ns
  end_is_part ms ns a xs q is s (came, either) = record {
    more = xs;
    shipped = came ∙ shipped_append ms a ∙ ap (λ (l : List Placed). shipped_in ms ++ l) s.shipped;
    begins = (behind c q, is);
    recorded = elim either as (λ _. (recorded_in ns ≡ recorded_in ms) ⊎ HasRecord xs (recorded_in ns)) [
      | inl same ↦
          let all : recorded_in ns ≡ recorded_from (recorded_in ms) a = same ∙ recorded_append None ms a in
          elim (last_mark (recorded_in ms) [] None a (inl refl) s.marks) as (λ _. (recorded_in ns ≡ recorded_in ms) ⊎ HasRecord xs (recorded_in ns)) [
            | inl none ↦ inl (all ∙ none)
            | inr mark ↦
                inr (mark_is_record xs (behind c q) (recorded_in ns) is (subst (λ (l : List Placed). IsMark l (recorded_in ns)) s.shipped (subst (IsMark (shipped_in a)) (sym all) mark)))
          ]
      | inr its ↦ inr (q, its, xs, ([], sym (append-nil xs)), is)
    ];
  }
