-- How far a call that ships has come.
use Rattle.std.proofs.Common.{◌≡◌, ℕ, ◌≤◌, ◌<◌, ◌+◌, List, [], ◌∷◌, ◌++◌, length, refl, sym, ap, ◌∙◌, subst, inl, inr, arith, append_assoc, append-nil}
use Rattle.std.proofs.lemmas.Bool.{cases_lt}
use Rattle.log_model.specs.declared.name.Name.{Name}
use Rattle.log_model.specs.Files.{Files}
use Rattle.disk_images.specs.Crash.{DiskView, IsImageNow}
use Rattle.disk_images.proofs.Moments.{at_once}
use Rattle.file_base.proofs.Looking.{looks_joined}
use Rattle.chronicle_model.specs.Chronicle.{Placed, Position, IsChronicle, behind}
use Rattle.log_tail.specs.Reads.{OnlyReads, IsDamagedAt, IsNoPosition}
use Rattle.ship_queue.specs.Messages.{Message, Record_of, MayBeRecorded}
use Rattle.ship_queue.specs.Sent.{HasSent, HasStopped, HasTorn}
use Rattle.ship_queue.specs.Course.{counted, IsText, HasReadOn, IsAtEnd, LeadsTo}
use Rattle.ship_queue.specs.Shipping.{ShipsBeginning, ShipsUpTo, ShipsAll, IsPartShip, AreTexts}
use Rattle.ship_queue.proofs.Records.{sent_is_ship, sent_up_to, end_is_ship, end_up_to, end_is_whole, cut_is_part, end_is_part}

-- ---- reading

pub read_none : (files : Files) (p : Position) → HasReadOn files p p []
read_none files p = record { read = λ c is. refl; texts = λ n low high. absurd (omega (arith, low, high)); forward = omega arith }

pub read_on : (files : Files) (p q r : Position) (xs ys : List Placed) → HasReadOn files p q xs → HasReadOn files q r ys → HasReadOn files p r (xs ++ ys)
read_on files p q r xs ys a b = record {
  read = λ c is. a.read c is ∙ ap (λ (l : List Placed). xs ++ l) (b.read c is) ∙ sym (append_assoc xs ys (behind c r));
  texts = λ n low high. elim (cases_lt n q.file) as (λ _. IsText files n) [ inl before ↦ a.texts n low before | inr past ↦ b.texts n past high ];
  forward = omega (arith, a.forward, b.forward);
}

pub all_texts : (files : Files) (p q : Position) (xs : List Placed) → HasReadOn files p q xs → IsAtEnd files q → AreTexts files p.file
all_texts files p q xs a e n low = elim (cases_lt n q.file) as (λ _. IsText files n) [ inl before ↦ a.texts n low before | inr past ↦ e.texts n past ]

pub looks_none : (v : DiskView) → OnlyReads v v
looks_none v = (0, record { files = refl; gone = λ m is. is; formerly = λ n m is. is; moments = at_once (IsImageNow v) v (λ J is. is) })

pub looks_both : (u v w : DiskView) → OnlyReads u v → OnlyReads v w → OnlyReads u w
looks_both u v w a b = (a.0 + b.0, looks_joined a.0 b.0 u v w a.1 b.1)

-- ---- with another view of the same files

pub joined_read : (v w : DiskView) (p q r : Position) (xs ys : List Placed) → OnlyReads v w → HasReadOn v.files p q xs → HasReadOn w.files q r ys → HasReadOn v.files p r (xs ++ ys)
joined_read v w p q r xs ys looks a b = read_on v.files p q r xs ys a (subst (λ (f : Files). HasReadOn f q r ys) looks.1.files b)

pub damaged_on : (v w : DiskView) (q r : Position) (name : Name) (at : ℕ) → OnlyReads v w → r ≡ q → IsDamagedAt w.files q.file name at → IsDamagedAt v.files r.file name at
damaged_on v w q r name at looks same d =
    subst (λ (f : Files). IsDamagedAt f r.file name at) looks.1.files (subst (λ (s : Position). IsDamagedAt w.files s.file name at) (sym same) d)

pub no_position_on : (v w : DiskView) (q r : Position) (file has : ℕ) → OnlyReads v w → r ≡ q → IsNoPosition w.files q file has → IsNoPosition v.files r file has
no_position_on v w q r file has looks same d =
    subst (λ (f : Files). IsNoPosition f r file has) looks.1.files (subst (λ (s : Position). IsNoPosition w.files s file has) (sym same) d)

pub end_on : (v w : DiskView) (q r : Position) → OnlyReads v w → r ≡ q → IsAtEnd w.files q → IsAtEnd v.files r
end_on v w q r looks same e = subst (λ (f : Files). IsAtEnd f r) looks.1.files (subst (IsAtEnd w.files) (sym same) e)

pub counted_on : (files : Files) (p q : Position) (xs : List Placed) (n : ℕ) (c : List Placed) → HasReadOn files p q xs → IsChronicle files c → behind c q ≡ [] → n ≡ counted (length xs) → n ≡ counted (length (behind c p))
counted_on files p q xs n c a is none count =
    let all : behind c p ≡ xs = a.read c is ∙ ap (λ (l : List Placed). xs ++ l) none ∙ append-nil xs in
    count ∙ ap (λ (l : List Placed). counted (length l)) (sym all)

-- ---- shipping

module _ {P : Type 0} (has : P → List Message → Type 0) (files : Files) (p q : Position) (first now : P) (xs : List Placed) (a : HasReadOn files p q xs) (ms : List Message) (h : has first ms) (m : ℕ) (lt : m < 64) where
  -- where it goes no further
  pub ships_so_far : HasSent has first now 0 m xs → (more : List Message) × has now (ms ++ more) × ShipsBeginning files p more × ShipsUpTo files p more q
  ships_so_far sent =
      let s = sent ms h in
      (s.0, s.1, λ c is. sent_is_ship c p is.order s.0 xs (behind c q) (a.read c is) s.2 m s.3 lt, λ c is. sent_up_to c p is.order s.0 xs (behind c q) (a.read c is) s.2)

  pub part_so_far : (c : List Placed) → IsChronicle files c → (ns : List Message) → HasStopped has first now xs → has now ns → IsPartShip c p ms ns
  part_so_far c is ns stopped k = cut_is_part c p is.order ms ns xs (behind c q) (a.read c is) (stopped ms ns h k)

  module _ (last : P) (sent : HasSent has first now 0 m xs) where
    pub ships_all : ((ls : List Message) → has now ls → has last (ls ++ Record_of q ∷ [])) → IsAtEnd files q
        → (more : List Message) × has last (ms ++ more) × ShipsBeginning files p more × ShipsUpTo files p more q × ShipsAll files p more q
    ships_all recorded end =
        let s = sent ms h in (
          s.0 ++ Record_of q ∷ [],
          subst (has last) (append_assoc ms s.0 (Record_of q ∷ [])) (recorded (ms ++ s.0) s.1),
          λ c is. end_is_ship c p is.order s.0 xs q (a.read c is) s.2 m s.3 lt,
          λ c is. end_up_to c p is.order s.0 xs q (a.read c is) s.2,
          λ c is. end_is_whole c p is.order s.0 xs q (a.read c is) (end.none c is) s.2,
        )

    pub part_at_end : (c : List Placed) → IsChronicle files c → (ns : List Message) → ((ls : List Message) → has now ls → MayBeRecorded ls ns q) → IsPartShip c p ms ns
    part_at_end c is ns may =
        let s = sent ms h in
        end_is_part c p is.order ms ns s.0 xs q (a.read c is) s.2 (may (ms ++ s.0) s.1)

-- ---- a peer that failed

module _ {P : Type 0} (has : P → List Message → Type 0) (torn : P → List Message → Message → Type 0) (files : Files) (p q : Position) (first now : P) (xs : List Placed) (a : HasReadOn files p q xs) (ms : List Message) (h : has first ms) where
  abbrev pub IsTornIn : P → Type 0
  IsTornIn r = (more : List Message) × (m : Message) × (rest : List Message) × torn r (ms ++ more) m × ShipsBeginning files p (more ++ m ∷ rest)

  pub torn_so_far : HasTorn has torn first now 0 xs → IsTornIn now
  torn_so_far cut =
      let b = cut ms h in
      let t = b.3 in (
        b.0,
        b.1,
        t.rest,
        b.2,
        λ c is. sent_is_ship c p is.order (b.0 ++ b.1 ∷ t.rest) t.sent (t.begins.0 ++ behind c q)
            (a.read c is ∙ ap (λ (l : List Placed). l ++ behind c q) t.begins.1 ∙ append_assoc t.sent t.begins.0 (behind c q)) t.are t.since t.each t.within,
      )

  pub torn_at_end : (last : P) (k : ℕ) → k < 64 → HasSent has first now 0 k xs → ((ls : List Message) → has now ls → torn last ls (Record_of q)) → IsTornIn last
  torn_at_end last k lt sent cut =
      let s = sent ms h in
      (s.0, Record_of q, [], cut (ms ++ s.0) s.1, λ c is. end_is_ship c p is.order s.0 xs q (a.read c is) s.2 k s.3 lt)

-- what one loop keeps
pub record Going {P D : Type 0} (told : Type 0) (view : D → DiskView) (disk_faults : D → ℕ) (has : P → List Message → Type 0) (same : P → P → Type 0) (faults : P → ℕ) (p q : Position) (first now : P) (disk_first disk : D) (n m : ℕ) : Type 0 where
  pub xs : List Placed
  pub leads : told → LeadsTo (view disk_first).files p q
  pub read : told → HasReadOn (view disk_first).files p q xs
  pub sent : HasSent has first now 0 m xs
  pub count : n ≡ counted (length xs)
  pub looks : told → OnlyReads (view disk_first) (view disk)
  pub stays : same first now
  pub disk_later : disk_faults disk_first ≤ disk_faults disk
  pub peer_later : faults first ≤ faults now
