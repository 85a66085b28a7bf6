-- What the first marks say is flushed.
use Rattle.std.proofs.Common.{◌≡◌, ◌≢◌, ℕ, ◌+◌, ◌<◌, ◌≤◌, ⊎_elim, List, length, get_or, set, refl, sym, ap, subst, ◌∙◌, arith, length-set, get_or-set_other}
use Rattle.std.specs.Prelude.{AllPairs}
use Rattle.std.proofs.lemmas.Grind.{get_or-set_at}
use Rattle.std.proofs.lemmas.Bool.{cases_eq}
use Rattle.std.proofs.lemmas.List.{get_or_default}
use Rattle.std.proofs.lemmas.List.Elements.{Contains-get_or}
use Rattle.seq_accounting.specs.declared.region.RegionMark.{RegionMark}
use Rattle.seq_accounting.specs.Accounts.{AreApart, AreFlushed}

-- what is flushed of each region is what one of the first i marks says, and nothing where none is of it
pub record AreFlushedTo (marks : List RegionMark) (i : ℕ) (flushed : List ℕ) : Type 0 where
  pub wide : length flushed ≡ 65
  pub marked : (k : ℕ) (d : RegionMark) → k < i → get_or flushed (get_or marks k d).region 0 ≡ (get_or marks k d).flushed
  pub others : (r : ℕ) → ((k : ℕ) (d : RegionMark) → k < i → (get_or marks k d).region ≢ r) → get_or flushed r 0 ≡ 0

pub flushed_more : (marks : List RegionMark) (i : ℕ) (flushed : List ℕ) (m : RegionMark) → AllPairs AreApart marks → i < length marks
    → m ≡ get_or marks i m → m.region ≤ 64 → AreFlushedTo marks i flushed → AreFlushedTo marks (i + 1) (set flushed m.region m.flushed)
flushed_more marks i flushed m apart lt is within h = let wide : m.region < length flushed = (let w = h.wide in omega arith) in record {
  wide = length-set flushed m.region m.flushed ∙ h.wide;
  marked = λ k d below. ⊎_elim
      (λ (e : k ≡ i). let here : get_or marks k d ≡ m = ap (λ (j : ℕ). get_or marks j d) e ∙ get_or_default marks i d m lt ∙ sym is in
      rw here (get_or-set_at flushed m.region m.region m.flushed 0 refl wide))
      (λ (ne : k ≢ i). let differ : (get_or marks k d).region ≢ m.region = λ e. apart k i d (omega arith) lt (e ∙ ap (λ (n : RegionMark). n.region) (is ∙ get_or_default marks i m d lt)) in
      get_or-set_other flushed m.region (get_or marks k d).region m.flushed 0 differ ∙ h.marked k d (omega arith))
      (cases_eq k i);
  others = λ r none.
      let differ : r ≢ m.region = λ e. none i m (omega arith) (ap (λ (n : RegionMark). n.region) (sym is) ∙ sym e) in
      get_or-set_other flushed m.region r m.flushed 0 differ ∙ h.others r (λ k d below. none k d (omega arith));
}

pub flushed_all : (marks : List RegionMark) (i : ℕ) (flushed : List ℕ) → i ≡ length marks → AreFlushedTo marks i flushed → AreFlushed marks flushed
flushed_all marks i flushed end h = record {
  marked = λ m there.
      let below : there.0 < i = (let lt = there.1 in omega arith) in
      subst (λ (n : RegionMark). get_or flushed n.region 0 ≡ n.flushed) there.2 (h.marked there.0 m below);
  others = λ r none. h.others r (λ k d below. none (get_or marks k d) (Contains-get_or marks k d (omega arith)));
}
