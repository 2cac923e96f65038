-- The entries so far stand behind those that were there.
use Rattle.std.proofs.Common.{◌≡◌, ◌++◌, length, take}
use Rattle.icu_table_provider.proofs.builder.data_builder.push_entries.Given as goal

abbrev pub invariant-loop-entry : goal.invariant-loop-entry
invariant-loop-entry l =
    (l.ce32s.items ≡ l.fn.ce32s.items ++ take l.entry-index l.entries) × (l.count ≡ length l.fn.ce32s.items)
