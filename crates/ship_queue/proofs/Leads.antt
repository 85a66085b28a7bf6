-- Where readings lead, and what is refused on the way.
use Rattle.std.proofs.Common.{◌≡◌, ◌⊎◌, inl, inr, ℕ, List, [], ◌∷◌, ◌++◌, length, Option, Result, Ok, Err, IsErr, refl, sym, ap, ◌∙◌, subst, arith}
use Rattle.log_model.specs.declared.name.Name.{Name}
use Rattle.log_model.specs.Entry.{Entry}
use Rattle.log_model.specs.LogText.{IsLogText}
use Rattle.log_model.specs.Files.{Files}
use Rattle.log_model.proofs.TextLaws.{one_text}
use Rattle.chronicle_model.specs.Chronicle.{bytes_of, HasLog, Position}
use Rattle.chronicle_model.proofs.Grown.{one_log, not_there}
use Rattle.disk_images.specs.Crash.{DiskView}
use Rattle.log_tail.specs.declared.refusal.TailRefusal.{TailRefusal}
use Rattle.log_tail.specs.declared.refusal.TailRefusal.TheVariants as tails
use Rattle.log_tail.specs.Reads.{IsOver, IsRead, OnlyReads, IsDamagedAt, IsNoPosition, IsOrEarlier}
use Rattle.log_tail.proofs.Counted.{whole_log, no_log_whole, is_within}
use Rattle.ship_queue.specs.declared.error.ShipRefusal.{ShipRefusal}
use Rattle.ship_queue.specs.declared.error.ShipRefusal.TheVariants as ships
use Rattle.ship_queue.specs.Refusals.{refusal_of, IsOrFailure}
use Rattle.ship_queue.specs.Course.{LeadOver, LeadsTo, IsRefusedAt}

some_bytes : (a b : List ℕ) → Option.Some a ≡ Option.Some b → a ≡ b
some_bytes a b is = cc

-- a log has one end
one_end : (files : Files) (n : ℕ) (es ds : List Entry) (a b : Option ℕ) → HasLog files n es a → HasLog files n ds b → a ≡ b
one_end files n es ds a b h g =
    let same : g.0 ≡ h.0 = some_bytes g.0 h.0 (sym g.1 ∙ h.1) in
    (one_text (record { region = 0; number = n }) h.0 es ds a b h.2 (subst (λ (bytes : List ℕ). IsLogText (record { region = 0; number = n }) bytes ds b) same g.2)).1

module _ (files : Files) where
  -- ---- one reading

  -- a reader stops at one position
  one_read : (p q r : Position) (xs ys : List Entry) → IsRead files p xs q → IsRead files p ys r → q ≡ r
  one_read p q r xs ys (inl a) (inl b) =
      let entries : a.entries ≡ b.entries = one_log files p.file a.entries b.entries a.ended b.ended a.log b.log in
      let end : a.ended ≡ b.ended = one_end files p.file a.entries b.entries a.ended b.ended a.log b.log in
      elim a.stops as (λ _. q ≡ r) [
        | inl over ↦ elim b.stops as (λ _. q ≡ r) [ inl too ↦ over.1 ∙ sym too.1 | inr more ↦ absurd (more.0 (subst (IsOver files p.file) end over.0)) ]
        | inr more ↦ elim b.stops as (λ _. q ≡ r) [
          | inl over ↦ absurd (more.0 (subst (IsOver files p.file) (sym end) over.0))
          | inr too ↦ more.1 ∙ ap (λ (es : List Entry). record { file = p.file; entries = length es }) entries ∙ sym too.1
        ]
      ]
  one_read p q r xs ys (inl a) (inr b) = absurd (not_there (bytes_of files p.file) a.log.0 b.absent a.log.1)
  one_read p q r xs ys (inr a) (inl b) = absurd (not_there (bytes_of files p.file) b.log.0 a.absent b.log.1)
  one_read p q r xs ys (inr a) (inr b) = a.stays ∙ sym b.stays

  -- nothing can be read at the position
  abbrev pub IsStuck : Position → Type 0
  IsStuck p = (given : List Entry) (q : Position) → IsRead files p given q → ⊥

  pub damaged_stuck : (p : Position) (name : Name) (at : ℕ) → IsDamagedAt files p.file name at → IsStuck p
  damaged_stuck p name at d given q (inl r) = whole_log files p r.entries r.ended r.log name at d
  damaged_stuck p name at d given q (inr r) = no_log_whole files p r.absent name at d

  pub out_stuck : (p : Position) (file has : ℕ) → IsNoPosition files p file has → IsStuck p
  out_stuck p file has out given q (inl r) = is_within files p r.entries r.ended r.log r.within file has out
  out_stuck p file has (same, inl (es, ended, log, fewer, is)) given q (inr r) = not_there (bytes_of files p.file) log.0 r.absent log.1
  out_stuck p file has (same, inr (none, inl some, is)) given q (inr r) = omega (arith, some, r.first)
  out_stuck p file has (same, inr (none, inr above, is)) given q (inr r) = r.highest above

  -- ---- several readings

  pub leads_here : (p : Position) → LeadsTo files p p
  leads_here p = ([], refl)

  lead_on : (p q r : Position) (qs : List Position) (given : List Entry) → LeadOver files p qs q → IsRead files q given r → LeadOver files p (qs ++ r ∷ []) r
  lead_on p q r [] given same read = ((given, subst (λ (s : Position). IsRead files s given r) (sym same) read), refl)
  lead_on p q r (s ∷ ss) given (first, rest) read = (first, lead_on s q r ss given rest read)

  pub leads_on : (p q r : Position) (given : List Entry) → LeadsTo files p q → IsRead files q given r → LeadsTo files p r
  leads_on p q r given (qs, over) read = (qs ++ r ∷ [], lead_on p q r qs given over read)

  -- what stops readings is still ahead, however far they have come
  next_ahead : (p q r : Position) (given : List Entry) → IsRead files p given q → IsStuck r → LeadsTo files p r → LeadsTo files q r
  next_ahead p q r given read stuck ([], same) = absurd (stuck given q (subst (λ (s : Position). IsRead files s given q) same read))
  next_ahead p q r given read stuck (s ∷ ss, (first, rest)) = (ss, subst (λ (t : Position). LeadOver files t ss r) (one_read p s q first.0 given first.1 read) rest)

  over_ahead : (p q r : Position) (qs : List Position) → LeadOver files p qs q → IsStuck r → LeadsTo files p r → LeadsTo files q r
  over_ahead p q r [] same stuck leads = subst (λ (s : Position). LeadsTo files s r) same leads
  over_ahead p q r (s ∷ ss) (first, rest) stuck leads = over_ahead s q r ss rest stuck (next_ahead p s r first.0 first.1 stuck leads)

  pub still_ahead : (p q r : Position) → LeadsTo files p q → IsStuck r → LeadsTo files p r → LeadsTo files q r
  still_ahead p q r leads = over_ahead p q r leads.0 leads.1

  -- where a reading gives nothing and stays, nothing is ahead
  none_over : (p r : Position) (rs : List Position) → IsRead files p [] p → IsStuck r → LeadOver files p rs r → ⊥
  none_over p r [] read stuck same = stuck [] p (subst (λ (s : Position). IsRead files s [] p) same read)
  none_over p r (s ∷ ss) read stuck (first, rest) = none_over p r ss read stuck (subst (λ (t : Position). LeadOver files t ss r) (one_read p s p first.0 [] first.1 read) rest)

  pub none_ahead : (p q r : Position) → LeadsTo files p q → IsRead files q [] q → IsStuck r → LeadsTo files p r → ⊥
  none_ahead p q r leads read stuck ahead = let rest = still_ahead p q r leads stuck ahead in none_over q r rest.0 read stuck rest.1

  -- ---- a refusal

  module _ {T : Type 0} (q : Position) where
    -- a reading that is refused where another one could go on is refused by a failure
    failed_or_stuck : (result : Result T TailRefusal) → IsErr result → IsRefusedAt files q result → ((result ≡ Err tails.Memory) ⊎ (result ≡ Err tails.DiskFault)) ⊎ IsStuck q
    failed_or_stuck (Ok t) err refused = absurd (cc err)
    failed_or_stuck (Err tails.Memory) err refused = inl (inl refl)
    failed_or_stuck (Err tails.DiskFault) err refused = inl (inr refl)
    failed_or_stuck (Err (tails.Damaged name at)) err refused = inr (damaged_stuck q name at (refused.damaged name at refl))
    failed_or_stuck (Err (tails.NoPosition file has)) err refused = inr (out_stuck q file has (refused.no_position file has refl))

    pub at_or_failed : (result : Result T TailRefusal) → IsErr result → IsRefusedAt files q result → (r : Position) → LeadsTo files q r → (q ≡ r) ⊎ ((result ≡ Err tails.Memory) ⊎ (result ≡ Err tails.DiskFault))
    at_or_failed result err refused r ([], same) = inl same
    at_or_failed result err refused r (s ∷ ss, (first, rest)) = elim (failed_or_stuck result err refused) as (λ _. (q ≡ r) ⊎ ((result ≡ Err tails.Memory) ⊎ (result ≡ Err tails.DiskFault))) [
      | inl failed ↦ inr failed
      | inr stuck ↦ absurd (stuck first.0 s first.1)
    ]

-- ---- told of a call that ships

module _ {T U : Type 0} (read : Result T TailRefusal) (ship : Result U ShipRefusal) (e : TailRefusal) (is : read ≡ Err e) (so : ship ≡ Err (refusal_of e)) where
  same_refusal : (t : TailRefusal) → read ≡ Err t → ship ≡ Err (refusal_of t)
  same_refusal t other = let same : e ≡ t = cc (is, other) in so ∙ ap (λ (r : TailRefusal). Err (refusal_of r)) same

  told_failure : (refusal : ShipRefusal) → (read ≡ Err tails.Memory) ⊎ (read ≡ Err tails.DiskFault) → IsOrFailure ship refusal
  told_failure refusal (inl memory) = inr (inl (same_refusal tails.Memory memory))
  told_failure refusal (inr disk) = inr (inr (inl (same_refusal tails.DiskFault disk)))

  told_refusal : (t : TailRefusal) → IsOrEarlier read t → IsOrFailure ship (refusal_of t)
  told_refusal t (inl this) = inl (same_refusal t this)
  told_refusal t (inr failed) = told_failure (refusal_of t) failed

  module _ (files : Files) (p q : Position) (leads : LeadsTo files p q) (err : IsErr read) (refused : IsRefusedAt files q read) (r : Position) (ahead : LeadsTo files p r) where
    pub damage_shown : (name : Name) (at : ℕ) → IsDamagedAt files r.file name at → IsOrFailure ship (ships.Damaged name at)
    damage_shown name at d = elim (at_or_failed files q read err refused r (still_ahead files p q r leads (damaged_stuck files r name at d) ahead)) as (λ _. IsOrFailure ship (ships.Damaged name at)) [
      | inl here ↦ told_refusal (tails.Damaged name at) (refused.damage name at (subst (λ (s : Position). IsDamagedAt files s.file name at) (sym here) d))
      | inr failed ↦ told_failure (ships.Damaged name at) failed
    ]

    pub out_shown : (file has : ℕ) → IsNoPosition files r file has → IsOrFailure ship (ships.NoPosition file has)
    out_shown file has out = elim (at_or_failed files q read err refused r (still_ahead files p q r leads (out_stuck files r file has out) ahead)) as (λ _. IsOrFailure ship (ships.NoPosition file has)) [
      | inl here ↦ told_refusal (tails.NoPosition file has) (refused.out file has (subst (λ (s : Position). IsNoPosition files s file has) (sym here) out))
      | inr failed ↦ told_failure (ships.NoPosition file has) failed
    ]

-- ---- with another view of the same files

pub leads_from : (v w : DiskView) (p q r : Position) (given : List Entry) → OnlyReads v w → LeadsTo v.files p q → IsRead w.files q given r → LeadsTo v.files p r
leads_from v w p q r given looks leads read = leads_on v.files p q r given leads (subst (λ (f : Files). IsRead f q given r) looks.1.files read)

pub refused_on : {T : Type 0} (v w : DiskView) (q : Position) (result : Result T TailRefusal) → OnlyReads v w → IsRefusedAt w.files q result → IsRefusedAt v.files q result
refused_on v w q result looks refused = subst (λ (f : Files). IsRefusedAt f q result) looks.1.files refused

-- the last reading gave nothing, and the tail stays
pub last_read : (v w : DiskView) (q r : Position) (given : List Entry) → OnlyReads v w → r ≡ q → given ≡ [] → IsRead w.files q given r → IsRead v.files q [] q
last_read v w q r given looks stays none read =
    subst (λ (f : Files). IsRead f q [] q) looks.1.files (subst (λ (l : List Entry). IsRead w.files q l q) none (subst (λ (s : Position). IsRead w.files q given s) stays read))
