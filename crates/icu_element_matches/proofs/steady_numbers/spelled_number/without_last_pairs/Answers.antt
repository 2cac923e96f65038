use Rattle.std.proofs.Common.{◌<◌, ◌+◌, ◌-◌, ◌*◌, ℕ, List, get_or, length, arith, ◌∙◌}
use Rattle.std.proofs.lemmas.List.{length-take-le}
use Rattle.std.proofs.lemmas.List.Elements.{All-take}
use Rattle.icu_element_matches.proofs.numbers.PairLemmas.{last_pair_zero, last_pair_other}
use Rattle.icu_element_matches.proofs.steady_numbers.spelled_number.without_last_pairs.Goals as goal

pub returns-then-tens-ones-ne0-clause-pairs : goal.returns-then-tens-ones-ne0-clause-pairs
returns-then-tens-ones-ne0-clause-pairs c =
    let ds : List ℕ = c.loop-kept.kept.now in
    let n : ℕ = length ds - 2 in
    let m : ℕ = length ds - 1 in
    last_pair_other ds n m (omega arith) (omega arith) (omega arith) (10 * get_or ds n 0 + get_or ds m 0 - 1) (omega arith)
    ∙ c.loop-kept.invariant.pairs

pub loop-kept-preserved : goal.loop-kept-preserved
loop-kept-preserved c =
    let ds : List ℕ = c.loop-kept.kept.now in
    let n : ℕ = length ds - 2 in
    record {
      decimal = All-take (λ d. d < 10) n ds c.loop-kept.invariant.decimal;
      even = omega (arith, length-take-le n ds (omega arith));
      pairs = last_pair_zero ds n (length ds - 1) (omega arith) (omega arith) (omega arith) (omega arith) ∙ c.loop-kept.invariant.pairs;
      fewer = omega (arith, length-take-le n ds (omega arith), c.loop-kept.invariant.fewer);
    }
