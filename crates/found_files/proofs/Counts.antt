-- Entries are counted by regions, one after the other.
use Rattle.std.proofs.Common.{◌≡◌, inl, inr, ℕ, ◌+◌, ◌<◌, ◌≤◌, ◌==◌, List, [], length, get_or, slice_index, slice_set, take, replicate, sym, ap, ◌∙◌, subst, arith}
use Rattle.std.proofs.Math.ListN.{length-set}
use Rattle.std.proofs.lemmas.Bool.{cases_eq, eq-eqb, ne_eqb}
use Rattle.std.proofs.lemmas.List.{get_or-set_same, get_or-set_other, length-replicate, get_or-replicate}
use Rattle.std.proofs.lemmas.List.Sums.{count_by_more_yes, count_by_more_no}
use Rattle.found_files.specs.declared.found.FoundEntry.{FoundEntry}
use Rattle.found_files.specs.Counted.{count_of, AreCounts}

-- before any entry
pub none_counted : (counts : List ℕ) → counts ≡ replicate 65 0 → AreCounts [] counts
none_counted counts is = record { long = ap length is ∙ length-replicate {A = ℕ} 65 0; each = λ r lt. ap (λ (l : List ℕ). slice_index l r) is ∙ get_or-replicate {A = ℕ} 65 r 0 0 lt }

-- one entry more is counted
pub one_counted : (xs : List FoundEntry) (i : ℕ) (d : FoundEntry) (old new : List ℕ) (r : ℕ) → r ≡ (get_or xs i d).entry.region → r ≤ 64 → i < length xs → new ≡ slice_set old r (slice_index old r + 1)
    → AreCounts (take i xs) old → AreCounts (take (i + 1) xs) new
one_counted xs i d old new r of low lt is are = subst (λ (counts : List ℕ). AreCounts (take (i + 1) xs) counts) (sym is) (record {
  long = length-set old r (slice_index old r + 1) ∙ are.long;
  each = λ q within. elim (cases_eq q r) as (λ _. slice_index (slice_set old r (slice_index old r + 1)) q ≡ count_of q (take (i + 1) xs)) [
    | inl this ↦
        let more = count_by_more_yes (λ (x : FoundEntry). x.entry.region == q) xs i d lt (eq-eqb (get_or xs i d).entry.region q (sym of ∙ sym this)) in
        let set = get_or-set_same old r (slice_index old r + 1) 0 (omega (arith, low, are.long)) in
        ap (λ (k : ℕ). slice_index (slice_set old r (slice_index old r + 1)) k) this ∙ set ∙ ap (λ (k : ℕ). slice_index old k + 1) (sym this) ∙ ap (λ (n : ℕ). n + 1) (are.each q within) ∙ sym more
    | inr other ↦
        let same = count_by_more_no (λ (x : FoundEntry). x.entry.region == q) xs i d lt (ne_eqb (get_or xs i d).entry.region q (λ e. other (sym e ∙ sym of))) in
        get_or-set_other old r q (slice_index old r + 1) 0 other ∙ are.each q within ∙ sym same
  ];
})
