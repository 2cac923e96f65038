use Rattle.std.proofs.Common.{arith, ℕ, length, get_or, ◌<◌, ◌^◌, option_map}
use Rattle.icu_table_provider.specs.StoredTables.{reordering_of}
use Rattle.icu_table_provider.specs.CollatorTables.{reorder_by}
use Rattle.icu_table_weights.proofs.NeighbourLemmas.{neighbours_suffice}
use Rattle.icu_table_weights.proofs.overlap.overlapping_index.Goals as goal

pub returns-clause-none : goal.returns-clause-none
returns-clause-none c = λ t i j p q n h.
    let f : ℕ → ℕ = reorder_by (option_map reordering_of c.args.reordering) in
    let fits : (k : ℕ) → k < length c.args.weights.now → f (get_or c.args.weights.now k 0) < 2 ^ 32 = λ k l. c.stays_in_range.ensures (get_or c.args.weights.now k 0) (omega (arith, c.type_inv.weights k)) in
    neighbours_suffice f c.args.weights.now fits c.requires (λ k l. c.loop-next.invariant k (omega (arith, l, c.loop-next-test.false))) i j p q n h
