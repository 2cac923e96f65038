use Rattle.std.proofs.Common.{◌≡◌, ℕ, ◌<◌, ◌≤◌, length}
use Rattle.std.specs.Prelude.{slice_index_or}
use Rattle.icu_table_provider.proofs.builder.data_builder.fill.Given as goal

-- those so far are set, and others are as they were
abbrev pub invariant-loop-index : goal.invariant-loop-index
invariant-loop-index l =
    (length l.entries.items ≡ length l.fn.entries.items)
    × ((k d : ℕ) → l.first ≤ k → k < l.index → slice_index_or l.entries.items k d ≡ l.entry)
    × ((k d : ℕ) → k < l.first → slice_index_or l.entries.items k d ≡ slice_index_or l.fn.entries.items k d)
    × ((k d : ℕ) → l.index ≤ k → slice_index_or l.entries.items k d ≡ slice_index_or l.fn.entries.items k d)
