use Rattle.std.proofs.Common.{List, ℕ, sym, subst, IsPermutation, option_map, arith, refl, length, get_or, ◌<◌, ◌+◌, ◌≡◌, ◌∙◌}
use Rattle.std.proofs.lemmas.List.{get_or_default}
use Rattle.icu_table_provider.specs.StoredTables.{reordering_of}
use Rattle.icu_table_weights.specs.Overlaps.{written_bytes, NeighbourBegins, Overlaps}
use Rattle.icu_table_weights.proofs.OverlapLemmas.{free_from_moved, overlaps_from_moved}
use Rattle.icu_table_weights.proofs.overlap.first_overlap.Goals as goal

pub returns-in-None-clause-free : goal.returns-in-None-clause-free
returns-in-None-clause-free c = λ t.
    let ws : List ℕ = c.args.weights.now.items in
    let us : List ℕ = c.as_slice.result.now in
    let moved = subst (λ l. IsPermutation ws l) (sym c.as_slice.ensures.value) c.in_ok-sort_reordered.ensures.permutation in
    free_from_moved (written_bytes (option_map reordering_of c.args.reordering)) ws us moved (c.in-None.ensures.none refl)

pub returns-in-Some-clause-overlaps : goal.returns-in-Some-clause-overlaps
returns-in-Some-clause-overlaps c =
    let ws : List ℕ = c.args.weights.now.items in
    let us : List ℕ = c.sort_reordered.new.weights.items in
    let i : ℕ = c.in-Some.index in
    let spell : ℕ → List ℕ = written_bytes (option_map reordering_of c.args.reordering) in
    let inside : i + 1 < length us = subst (λ l. i + 1 < length l) c.as_slice.ensures.value c.in-Some.ensures.within in
    let begins : NeighbourBegins spell us i = subst (λ l. NeighbourBegins spell l i) c.as_slice.ensures.value c.in-Some.ensures.begins in
    let first : get_or us i 0 ≡ c.index.result.now = get_or_default us i 0 c.index.result.now (omega arith) ∙ sym c.index.ensures in
    let second : get_or us (i + 1) 0 ≡ c.index-in-Some.result.now = get_or_default us (i + 1) 0 c.index-in-Some.result.now inside ∙ sym c.index-in-Some.ensures in
    let found = overlaps_from_moved spell ws us c.in_ok-sort_reordered.ensures.permutation c.requires i (i + 1) (omega arith) inside (omega arith) begins in
    subst (λ w. Overlaps spell ws c.index.result.now w) second (subst (λ v. Overlaps spell ws v (get_or us (i + 1) 0)) first found)
