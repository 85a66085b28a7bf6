-- What is shipped in several calls, each from the recorded position on.
use Rattle.std.proofs.Common.{◌≡◌, List, [], ◌∷◌, ◌++◌, Contains, refl, sym, ap, ◌∙◌, subst, inl, inr, append_assoc, append-nil}
use Rattle.std.proofs.lemmas.List.Elements.{Contains-append_cases, Contains-append_left, Contains-append_right, filter-append}
use Rattle.cell_model.specs.Lists.{IsPrefix}
use Rattle.chronicle_model.specs.Chronicle.{Placed, IsOrdered, Position, is_behind, behind}
use Rattle.chronicle_model.specs.Shipping.{EachOnce, Nothing, First, Again, Shipping, Step, Grows, Ships, Steps, last_of, HasShipped, unshipped, ShippingGoesOn}
use Rattle.chronicle_model.proofs.Order.{no_member, here, here_or_there, first_of_cons, rest_of_cons, same_rest, front_before, not_itself, ordered_filter}

one_member : (y x : Placed) → Contains (y ∷ []) x → y ≡ x
one_member y x is = elim (here_or_there y [] x is) as (λ _. y ≡ x) [ inl same ↦ same | inr none ↦ absurd (no_member x none) ]

-- the members stay
in_shipped : (xs ds : List Placed) (x : Placed) → EachOnce xs ds → Contains ds x → Contains xs x
in_shipped [] [] x Nothing is = is
in_shipped _ _ x (First xs ds y once new) is = elim (Contains-append_cases ds (y ∷ []) x is) [
  | inl front ↦ Contains-append_left xs (y ∷ []) x (in_shipped xs ds x once front)
  | inr last ↦ Contains-append_right xs (y ∷ []) x last
]
in_shipped _ _ x (Again xs ds y once there) is = Contains-append_left xs (y ∷ []) x (in_shipped xs ds x once is)

in_once : (xs ds : List Placed) (x : Placed) → EachOnce xs ds → Contains xs x → Contains ds x
in_once [] [] x Nothing is = is
in_once _ _ x (First xs ds y once new) is = elim (Contains-append_cases xs (y ∷ []) x is) [
  | inl front ↦ Contains-append_left ds (y ∷ []) x (in_once xs ds x once front)
  | inr last ↦ Contains-append_right ds (y ∷ []) x last
]
in_once _ _ x (Again xs ds y once there) is = elim (Contains-append_cases xs (y ∷ []) x is) [
  | inl front ↦ in_once xs ds x once front
  | inr last ↦ in_once xs ds x once (subst (Contains xs) (one_member y x last) there)
]

-- ---- one call

-- What is shipped from a place on that was reached before: what was shipped already is shipped again, and the rest for the first time.
record ShippedMore (all xs done more : List Placed) : Type 0 where
  pub once : List Placed
  pub is_once : EachOnce (xs ++ more) once
  pub begins : IsPrefix once all
  pub within : IsPrefix (done ++ more) once

ship_more : (all xs done mid rest more r : List Placed) → IsOrdered all → EachOnce xs (done ++ mid) → all ≡ (done ++ mid) ++ rest → mid ++ rest ≡ more ++ r → ShippedMore all xs done more
ship_more all xs done mid rest [] r o once is same = record {
  once = done ++ mid;
  is_once = subst (λ l. EachOnce l (done ++ mid)) (sym (append-nil xs)) once;
  begins = (rest, is);
  within = (mid, ap (λ l. l ++ mid) (sym (append-nil done)));
}
ship_more all xs done (m ∷ mid) rest (y ∷ more) r o once is same =
    let first : m ≡ y = first_of_cons m y (mid ++ rest) (more ++ r) same in
    let there : Contains xs y = in_shipped xs (done ++ m ∷ mid) y once (subst (Contains (done ++ m ∷ mid)) first (Contains-append_right done (m ∷ mid) m (here m mid))) in
    let parts : done ++ m ∷ mid ≡ (done ++ y ∷ []) ++ mid = ap (λ z. done ++ z ∷ mid) first ∙ sym (append_assoc done (y ∷ []) mid) in
    let next = ship_more all (xs ++ y ∷ []) (done ++ y ∷ []) mid rest more r o (subst (EachOnce (xs ++ y ∷ [])) parts (Again xs (done ++ m ∷ mid) y once there)) (is ∙ ap (λ l. l ++ rest) parts) (rest_of_cons m y (mid ++ rest) (more ++ r) same) in
    record {
      once = next.once;
      is_once = subst (λ l. EachOnce l next.once) (append_assoc xs (y ∷ []) more) next.is_once;
      begins = next.begins;
      within = subst (λ l. IsPrefix l next.once) (append_assoc done (y ∷ []) more) next.within;
    }
ship_more all xs done [] rest (y ∷ more) r o once is same =
    let bare : done ++ [] ≡ done = append-nil done in
    let split : all ≡ done ++ y ∷ (more ++ r) = is ∙ ap (λ l. l ++ rest) bare ∙ ap (λ l. done ++ l) same in
    let new : Contains xs y → ⊥ = λ had. not_itself y (front_before done (y ∷ (more ++ r)) y y (subst IsOrdered split o) (subst (λ l. Contains l y) bare (in_once xs (done ++ []) y once had)) (here y (more ++ r))) in
    let longer : (done ++ []) ++ y ∷ [] ≡ (done ++ y ∷ []) ++ [] = ap (λ l. l ++ y ∷ []) bare ∙ sym (append-nil (done ++ y ∷ [])) in
    let next = ship_more all (xs ++ y ∷ []) (done ++ y ∷ []) [] (more ++ r) more r o (subst (EachOnce (xs ++ y ∷ [])) longer (First xs (done ++ []) y once new))
    (split ∙ sym (append_assoc done (y ∷ []) (more ++ r)) ∙ ap (λ l. l ++ (more ++ r)) (sym (append-nil (done ++ y ∷ [])))) refl in
    record {
      once = next.once;
      is_once = subst (λ l. EachOnce l next.once) (append_assoc xs (y ∷ []) more) next.is_once;
      begins = next.begins;
      within = subst (λ l. IsPrefix l next.once) (append_assoc done (y ∷ []) more) next.within;
    }

-- ---- step after step

log_goes_on : (first : Position) (old new : Shipping) (more : List Placed) → new.chronicle ≡ old.chronicle ++ more → new.shipped ≡ old.shipped → new.recorded ≡ old.recorded
    → behind more old.recorded ≡ behind more first → HasShipped first old → HasShipped first new
log_goes_on first old new more c s r alike h =
    let whole : behind new.chronicle first ≡ behind old.chronicle first ++ behind more first = ap (λ l. behind l first) c ∙ filter-append (is_behind first) old.chronicle more in
    let there : behind new.chronicle new.recorded ≡ behind old.chronicle old.recorded ++ behind more first =
    ap (behind new.chronicle) r ∙ ap (λ l. behind l old.recorded) c ∙ filter-append (is_behind old.recorded) old.chronicle more ∙ ap (λ l. behind old.chronicle old.recorded ++ l) alike in
    record {
      once = h.once;
      is_once = subst (λ l. EachOnce l h.once) (sym s) h.is_once;
      begins = (h.begins.0 ++ behind more first, whole ∙ ap (λ l. l ++ behind more first) h.begins.1 ∙ append_assoc h.once h.begins.0 (behind more first));
      done = h.done;
      reaches = whole ∙ ap (λ l. l ++ behind more first) h.reaches ∙ append_assoc h.done (behind old.chronicle old.recorded) (behind more first) ∙ ap (λ l. h.done ++ l) (sym there);
      within = h.within;
    }

shipped_on : (first : Position) (old new : Shipping) → IsOrdered old.chronicle → Step first old new → HasShipped first old → HasShipped first new × IsOrdered new.chronicle
shipped_on first old new o (Grows more c ordered s r (inl none)) h = (log_goes_on first old new more c s r (ap (behind more) none) h, ordered)
shipped_on first old new o (Grows more c ordered s r (inr both)) h = (log_goes_on first old new more c s r (both.0 ∙ sym both.1) h, ordered)
shipped_on first old new o (Ships more c begins s done up reaches) h =
    let all : List Placed = behind old.chronicle first in
    let mid : List Placed = h.within.0 in
    let once : EachOnce old.shipped (h.done ++ mid) = subst (EachOnce old.shipped) h.within.1 h.is_once in
    let is : all ≡ (h.done ++ mid) ++ h.begins.0 = h.begins.1 ∙ ap (λ l. l ++ h.begins.0) h.within.1 in
    let left : mid ++ h.begins.0 ≡ behind old.chronicle old.recorded = same_rest h.done (mid ++ h.begins.0) (behind old.chronicle old.recorded) (sym (append_assoc h.done mid h.begins.0) ∙ sym is ∙ h.reaches) in
    let now = ship_more all old.shipped h.done mid h.begins.0 more begins.0 (ordered_filter (is_behind first) old.chronicle o) once is (left ∙ begins.1) in
    let same : behind new.chronicle first ≡ all = ap (λ l. behind l first) c in (
      record {
        once = now.once;
        is_once = subst (λ l. EachOnce l now.once) (sym s) now.is_once;
        begins = subst (IsPrefix now.once) (sym same) now.begins;
        done = h.done ++ done;
        reaches = same ∙ h.reaches ∙ ap (λ l. h.done ++ l) reaches ∙ sym (append_assoc h.done done (behind old.chronicle new.recorded)) ∙ ap (λ l. (h.done ++ done) ++ behind l new.recorded) (sym c);
        within = (up.0 ++ now.within.0, now.within.1 ∙ ap (λ l. (h.done ++ l) ++ now.within.0) up.1 ∙ ap (λ l. l ++ now.within.0) (sym (append_assoc h.done done up.0)) ∙ append_assoc (h.done ++ done) up.0 now.within.0);
      },
      subst IsOrdered (sym c) o,
    )

all_steps : (first : Position) (old : Shipping) (steps : List Shipping) → IsOrdered old.chronicle → HasShipped first old → Steps first old steps → HasShipped first (last_of old steps)
all_steps first old [] o h steps = h
all_steps first old (s ∷ ss) o h steps = let next = shipped_on first old s o steps.0 h in all_steps first s ss next.1 next.0 steps.1

pub goes_on : ShippingGoesOn
goes_on first c steps o made = all_steps first (unshipped c first) steps o (record {
  once = [];
  is_once = Nothing;
  begins = (behind c first, refl);
  done = [];
  reaches = refl;
  within = ([], refl);
}) made
