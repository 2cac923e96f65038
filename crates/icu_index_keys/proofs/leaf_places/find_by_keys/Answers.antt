use Rattle.std.proofs.Common.{subst, ◌≤◌, length, sym}
use Rattle.std.specs.List.Sorted.{IsPartitionPoint}
use Rattle.std.proofs.Common.{true, false, ◌≡◌}
use Rattle.icu_index_keys.proofs.LeafPlaceLemmas.{parts_at, leaves_parted, leaf_parted}
use Rattle.icu_index_keys.specs.inner.NameEntries.{entry_before}
use Rattle.icu_index_keys.specs.inner.Leaves.{IsParted}
use Rattle.icu_index_keys.proofs.leaf_places.find_by_keys.Goals as goal

pub returns-clause-parts : goal.returns-clause-parts
returns-clause-parts c = λ filled parted.
    let leaves = c.args.leaves.now in
    let test = entry_before c.args.bytes.now c.args.sought.now.border in
    let n = c.saturating_sub-leaf.result in
    let is = c.leaf_at.ensures in
    parts_at test leaves filled parted c.leaves_before.result c.leaves_before.ensures.bound (c.leaves_before.ensures.point (leaves_parted test leaves filled parted))
    n c.saturating_sub-leaf.ensures c.entries_before-index.result (subst (λ es. c.entries_before-index.result ≤ length es) is c.entries_before-index.ensures.bound)
    (subst (λ es. IsPartitionPoint (λ e. test e ≡ true) (λ e. test e ≡ false) es c.entries_before-index.result) is
    (c.entries_before-index.ensures.point (subst (λ es. IsParted test es) (sym is) (leaf_parted test leaves n parted))))
