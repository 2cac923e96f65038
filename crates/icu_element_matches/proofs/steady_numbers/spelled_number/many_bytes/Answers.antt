use Rattle.std.proofs.Common.{◌≡◌, ◌+◌, ◌/◌, ◌∷◌, [], ◌++◌, length, sym, ap, ◌∙◌, rules}
use Rattle.icu_order_levels.specs.Numbers.{pair_bytes}
use Rattle.icu_element_matches.specs.numbers.inner.Pairs.{in_twos}
use Rattle.icu_element_matches.specs.steady_numbers.inner.Rooms.{room_bytes}
use Rattle.icu_element_matches.proofs.numbers.PairLemmas.{great_bytes_spelled}
use Rattle.icu_element_matches.proofs.steady_numbers.spelled_number.many_bytes.Goals as goal

pub returns : goal.returns
returns c =
    let others = c.first_pair-first.result.1.now in
    let count : room_bytes c.push.new.self ≡ (129 + length others / 2) ∷ [] = search rules in
    c.push_pairs.ensures
    ∙ ap (λ front. front ++ pair_bytes (c.first_pair-first.result.0 ∷ in_twos c.without_last_pairs.result.now)) count
    ∙ sym (great_bytes_spelled c.args.digits.now c.first_pair-first.result.0 others c.without_last_pairs.result.now
    c.first_pair-first.ensures c.requires.fits c.without_last_pairs.ensures.pairs)
