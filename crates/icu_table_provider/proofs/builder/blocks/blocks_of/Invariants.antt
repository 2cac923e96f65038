use Rattle.icu_table_provider.proofs.builder.BlockLemmas.{IsBuilt}
use Rattle.icu_table_provider.proofs.builder.blocks.blocks_of.Given as goal

-- the blocks so far are built
abbrev pub invariant-loop-index : goal.invariant-loop-index
invariant-loop-index l = IsBuilt l.entries l.blocks.items l.values.items l.index
