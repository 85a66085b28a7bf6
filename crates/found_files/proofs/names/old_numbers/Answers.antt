use Rattle.std.proofs.lemmas.List.Sorted.{IsNonDecreasingBy-from_sort, Contains-permutation, IsPermutation-sym}
use Rattle.found_files.proofs.names.old_numbers.Goals as goal

pub returns : goal.returns
returns c =
    let before = c.in_ok-numbers.numbers.items in
    let after = c.sort.new.self.items in record {
      in_order = λ i j le lt. IsNonDecreasingBy-from_sort (λ x. x) after c.in_ok-sort.ensures.sorted i j 0 le lt;
      same = λ n. (
        λ has. (c.in_ok-numbers.ensures n).0 (Contains-permutation after before n (IsPermutation-sym before after c.in_ok-sort.ensures.permutation) has),
        λ has. Contains-permutation before after n c.in_ok-sort.ensures.permutation ((c.in_ok-numbers.ensures n).1 has),
      );
    }
