use Rattle.std.proofs.Common.{ℕ, List, IsPermutation, IfSome, option_map, subst}
use Rattle.icu_table_provider.specs.StoredTables.{reordering_of}
use Rattle.icu_table_weights.specs.Overlaps.{written_bytes, Overlaps}
use Rattle.icu_table_weights.proofs.OverlapLemmas.{comes_along, was_there, found_were_there}
use Rattle.icu_table_weights.proofs.overlap.first_common_overlap.Goals as goal

pub returns-clause-members : goal.returns-clause-members
returns-clause-members c = λ w.
    let ws : List ℕ = c.args.weights.now.items in
    let us : List ℕ = c.sort_reordered.new.weights.items in
    let vs : List ℕ = c.sort_by_lead.new.weights.items in
    let moved : IsPermutation ws us = c.in_ok-sort_reordered.ensures.permutation in
    let again : IsPermutation us vs = c.in_ok-sort_by_lead.ensures.permutation in
    (was_there ws us vs moved again w, comes_along ws us vs moved again w)

pub returns-clause-overlaps : goal.returns-clause-overlaps
returns-clause-overlaps c =
    let ws : List ℕ = c.args.weights.now.items in
    let us : List ℕ = c.sort_reordered.new.weights.items in
    let vs : List ℕ = c.sort_by_lead.new.weights.items in
    let moved : IsPermutation ws us = c.in_ok-sort_reordered.ensures.permutation in
    let again : IsPermutation us vs = c.in_ok-sort_by_lead.ensures.permutation in
    let spell : ℕ → List ℕ = written_bytes (option_map reordering_of c.args.reordering) in
    let found = subst (λ l. IfSome c.overlapping_neighbours.result (λ o. Overlaps spell l o.first o.second)) c.as_slice.ensures.value c.overlapping_neighbours.ensures in
    found_were_there ws us vs moved again spell c.overlapping_neighbours.result found
