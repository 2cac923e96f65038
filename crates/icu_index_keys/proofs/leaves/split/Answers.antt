use Rattle.std.proofs.Common.{◌+◌, ◌/◌, ◌∙◌, arith, ap, length}
use Rattle.icu_index_keys.proofs.LeafLemmas.{half_is, half_there, entries_split, there_after}
use Rattle.icu_index_keys.proofs.leaves.split.Goals as goal

pub overflow_add-at : goal.overflow_add-at
overflow_add-at c =
    let there = half_there c.args.leaves.now.items c.as_slice.result.now c.args.at c.leaf_at-leaf.result.now c.as_slice.ensures.value c.leaf_at-leaf.ensures c.if-middle-eq0.false in
    omega (arith, there, ap length c.as_slice.ensures.value, c.as_slice.ensures.len, c.args.leaves.now.small)

pub insert-requires : goal.insert-requires
insert-requires c =
    let there = half_there c.args.leaves.now.items c.as_slice.result.now c.args.at c.leaf_at-leaf.result.now c.as_slice.ensures.value c.leaf_at-leaf.ensures c.if-middle-eq0.false in
    omega (arith, there, ap length c.as_slice.ensures.value, c.as_slice.ensures.len)

pub cut-requires : goal.cut-requires
cut-requires c =
    let there = half_there c.args.leaves.now.items c.as_slice.result.now c.args.at c.leaf_at-leaf.result.now c.as_slice.ensures.value c.leaf_at-leaf.ensures c.if-middle-eq0.false in
    record { within = there_after c.args.leaves.now.items c.args.at (c.args.at + 1) c.in_ok-upper.upper c.insert.new.self.items there c.in_ok-insert.ensures.items }

pub returns-clause-entries : goal.returns-clause-entries
returns-clause-entries c =
    let ls = c.args.leaves.now.items in
    let xs = c.leaf_at-leaf.result.now in
    let there = half_there ls c.as_slice.result.now c.args.at xs c.as_slice.ensures.value c.leaf_at-leaf.ensures c.if-middle-eq0.false in
    let half = half_is ls c.as_slice.result.now c.args.at xs c.as_slice.ensures.value c.leaf_at-leaf.ensures c.in_ok-upper.upper c.in_ok-upper.ensures.items in
    c.cut.ensures.entries ∙ entries_split ls c.args.at (length xs / 2) c.in_ok-upper.upper c.insert.new.self.items there half c.in_ok-insert.ensures.items
