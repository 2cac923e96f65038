use Rattle.std.proofs.Common.{ap, map}
use Rattle.icu_index_keys.proofs.BorderRangeLemmas.{later_read}
use Rattle.icu_index_keys.specs.inner.NameEntries.{name_in}
use Rattle.icu_index_keys.proofs.names.names_between.Goals as goal

pub returns-then-from-to : goal.returns-then-from-to
returns-then-from-to c =
    ap (map (name_in c.args.bytes.now))
    (later_read c.args.leaves.now c.args.from.leaf c.args.from.index c.args.to.leaf c.args.to.index c.leaf_at-first.result.now c.leaf_at.result.now
    c.some_entries.result.now c.some_entries-then-from-to.result.now c.leaf_at-first.ensures c.some_entries.ensures c.leaf_at.ensures c.some_entries-then-from-to.ensures c.if-from-to.true)
