-- What one reading of a tail comes to.
use Rattle.std.proofs.Common.{◌≡◌, ℕ, ◌≤◌, ◌<◌, ◌+◌, List, [], ◌++◌, length, None, Result, Ok, Err, sym, ap, ◌∙◌, subst, inl, inr, arith}
use Rattle.std.proofs.lemmas.Bool.{cases_lt}
use Rattle.std.proofs.lemmas.Option.{slice_get_within}
use Rattle.log_model.specs.Entry.{Entry}
use Rattle.log_model.specs.Files.{Files}
use Rattle.chronicle_model.specs.Chronicle.{bytes_of, HasLog, Placed, StandsIn, Position, IsChronicle, is_behind, behind}
use Rattle.chronicle_model.proofs.Grown.{one_log, not_there}
use Rattle.log_tail.specs.declared.refusal.TailRefusal.{TailRefusal}
use Rattle.log_tail.specs.declared.refusal.TailRefusal.TheVariants as tails
use Rattle.log_tail.specs.Reads.{HasHigher, ReadsLog, IsRead, IsOrEarlier, placed_behind}
use Rattle.ship_queue.specs.Course.{IsText, HasReadOn, IsAtEnd, IsRefusedAt}
use Rattle.ship_queue.proofs.Behind.{none_pass, is_not, StandsBehind}

module _ (files : Files) (p : Position) (given : List Entry) (q : Position) where
  -- the tail goes on by one log at most
  steps : (r : ReadsLog files p given q) → (q.file ≤ p.file + 1) × (p.file ≤ q.file)
  steps r = elim r.stops as (λ _. (q.file ≤ p.file + 1) × (p.file ≤ q.file)) [
    | inl over ↦ (omega (arith, ap (λ (x : Position). x.file) over.1), omega (arith, ap (λ (x : Position). x.file) over.1))
    | inr stays ↦ (omega (arith, ap (λ (x : Position). x.file) stays.1), omega (arith, ap (λ (x : Position). x.file) stays.1))
  ]

  pub read_is : ((c : List Placed) → IsChronicle files c → behind c p ≡ placed_behind p.file p.entries given ++ behind c q) → IsRead files p given q → HasReadOn files p q (placed_behind p.file p.entries given)
  read_is goes (inl r) = record {
    read = goes;
    texts = λ n low high bytes there. let same : p.file ≡ n = omega (arith, low, high, (steps r).0) in (r.entries, r.ended, subst (λ (k : ℕ). HasLog files k r.entries r.ended) same r.log);
    forward = (steps r).1;
  }
  read_is goes (inr r) = record {
    read = goes;
    texts = λ n low high. absurd (omega (arith, low, high, ap (λ (x : Position). x.file) r.stays));
    forward = omega (arith, ap (λ (x : Position). x.file) r.stays);
  }

module _ (files : Files) (p : Position) where
  none_higher : IsRead files p [] p → HasHigher files p.file → ⊥
  none_higher (inl r) higher = elim r.stops as (λ _. ⊥) [
    | inl over ↦ omega (arith, ap (λ (x : Position). x.file) over.1)
    | inr stays ↦ stays.0 (inl higher)
  ]
  none_higher (inr r) higher = r.highest higher

  not_open : (r : ReadsLog files p [] p) → p.entries ≡ length r.entries
  not_open r = elim r.stops as (λ _. p.entries ≡ length r.entries) [
    | inl over ↦ absurd (omega (arith, ap (λ (x : Position). x.file) over.1))
    | inr stays ↦ ap (λ (x : Position). x.entries) stays.1
  ]

  its_text : IsRead files p [] p → IsText files p.file
  its_text (inl r) bytes there = (r.entries, r.ended, r.log)
  its_text (inr r) bytes there = absurd (not_there (bytes_of files p.file) bytes r.absent there)

  none_here : IsRead files p [] p → (x : Placed) → StandsIn files x → x.file ≡ p.file → p.entries < x.place → ⊥
  none_here (inl r) x s same far =
      let its : s.entries ≡ r.entries = one_log files x.file s.entries r.entries s.ended r.ended s.log (subst (λ (k : ℕ). HasLog files k r.entries r.ended) (sym same) r.log) in
      omega (arith, far, s.place, slice_get_within s.entries s.at x.entry s.is, ap (λ (l : List Entry). length l) its, not_open r)
  none_here (inr r) x s same far =
      not_there (bytes_of files x.file) s.log.0 (subst (λ (k : ℕ). bytes_of files k ≡ None) (sym same) r.absent) s.log.1

  not_behind : IsRead files p [] p → (x : Placed) → StandsIn files x → StandsBehind p x → ⊥
  not_behind r x s (inl higher) = none_higher r (x.file, higher, (s.log.0, s.log.1))
  not_behind r x s (inr both) = none_here r x s (sym both.0) both.1

  pub at_end : IsRead files p [] p → IsAtEnd files p
  at_end r = record {
    none = λ c is. none_pass (is_behind p) c (λ x has. is_not p x (not_behind r x ((is.exact x).0 has)));
    texts = λ n low. elim (cases_lt p.file n) as (λ _. IsText files n) [
      | inl high ↦ λ bytes there. absurd (none_higher r (n, high, (bytes, there)))
      | inr le ↦ let same : p.file ≡ n = omega (arith, low, le) in subst (IsText files) same (its_text r)
    ];
  }

-- ---- the answer of a tail, told of a reading

module _ {T U : Type 0} (files : Files) (p : Position) (a : Result T TailRefusal) where
  -- a refusal is handed on
  module _ (b : Result U TailRefusal) (e : TailRefusal) (was : a ≡ Err e) (is : b ≡ Err e) where
    same_refusal : (t : TailRefusal) → a ≡ Err t → b ≡ Err t
    same_refusal t other = let same : e ≡ t = cc (was, other) in is ∙ ap Err same

    same_cause : (t : TailRefusal) → b ≡ Err t → a ≡ Err t
    same_cause t other = let same : e ≡ t = cc (is, other) in was ∙ ap Err same

    told_again : (t : TailRefusal) → IsOrEarlier a t → IsOrEarlier b t
    told_again t (inl this) = inl (same_refusal t this)
    told_again t (inr (inl memory)) = inr (inl (same_refusal tails.Memory memory))
    told_again t (inr (inr disk)) = inr (inr (same_refusal tails.DiskFault disk))

    pub refused_again : IsRefusedAt files p a → IsRefusedAt files p b
    refused_again r = record {
      damaged = λ name at this. r.damaged name at (same_cause (tails.Damaged name at) this);
      damage = λ name at d. told_again (tails.Damaged name at) (r.damage name at d);
      no_position = λ file has this. r.no_position file has (same_cause (tails.NoPosition file has) this);
      out = λ file has o. told_again (tails.NoPosition file has) (r.out file has o);
    }

  -- where something is given, there is none
  module _ (t : T) (u : U) (was : a ≡ Ok t) where
    not_refused : (e : TailRefusal) → a ≡ Err e → ⊥
    not_refused e is = cc (was, is)

    none_told : (e : TailRefusal) → IsOrEarlier a e → ⊥
    none_told e (inl this) = not_refused e this
    none_told e (inr (inl memory)) = not_refused tails.Memory memory
    none_told e (inr (inr disk)) = not_refused tails.DiskFault disk

    pub refused_none : IsRefusedAt files p a → IsRefusedAt files p (Ok u)
    refused_none r = record {
      damaged = λ name at this. absurd (cc this);
      damage = λ name at d. absurd (none_told (tails.Damaged name at) (r.damage name at d));
      no_position = λ file has this. absurd (cc this);
      out = λ file has o. absurd (none_told (tails.NoPosition file has) (r.out file has o));
    }
