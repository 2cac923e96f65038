use Rattle.std.proofs.Common.{ℕ, ◌<◌}
use Rattle.std.specs.Prelude.{◌≢◌}
use Rattle.icu_table_provider.specs.builder.Blocks.{block_at}
use Rattle.icu_table_provider.proofs.builder.blocks.find_block.Given as goal

-- none of the blocks so far is this one
abbrev pub invariant-loop-number : goal.invariant-loop-number
invariant-loop-number l = (n : ℕ) → n < l.number → block_at l.values n ≢ l.block
