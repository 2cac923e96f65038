use Rattle.std.proofs.Common.{◌≡◌, length}
use Rattle.icu_table_provider.specs.inner.NamedBlocks.{AreFirstInBlocks}
use Rattle.icu_table_provider.proofs.well_formed.named_characters.blocks_of.Given as goal

-- the blocks of the characters passed are marked
abbrev pub invariant-loop-c : goal.invariant-loop-c
invariant-loop-c l = (length l.blocks.items ≡ 0x4400) × AreFirstInBlocks l.c-index l.chars l.blocks.items
