use Rattle.std.proofs.Common.{subst}
use Rattle.icu_index_keys.proofs.LeafPlaceLemmas.{parts_inside}
use Rattle.icu_index_keys.specs.inner.NameEntries.{entry_before}
use Rattle.icu_index_keys.specs.inner.Leaves.{IsInside, leaf_at}
use Rattle.icu_index_keys.proofs.leaf_places.find_place.Goals as goal

pub returns-in-Some-clause-parts : goal.returns-in-Some-clause-parts
returns-in-Some-clause-parts c = λ filled parted.
    let test = entry_before c.args.bytes.now c.args.sought.now.border in
    let i = c.numbers_below-leaf.result in
    let inside : IsInside test (leaf_at c.args.leaves.now i) c.in-Some.index = subst (λ es. IsInside test es c.in-Some.index) c.leaf_at-entries.ensures c.in-Some.ensures in
    parts_inside test c.args.leaves.now i c.in-Some.index parted inside
