use Rattle.std.proofs.Common.{◌≡◌, length}
use Rattle.icu_element_reading.specs.boundaries.BoundaryTables.{boundary_reading}
use Rattle.icu_element_facts.specs.inner.WordBlocks.{IsMade}
use Rattle.icu_element_facts.proofs.char_words.CharWords.new.Given as goal

-- so many blocks are made
abbrev pub invariant-loop-index : goal.invariant-loop-index
invariant-loop-index l = (length l.made.blocks.items ≡ l.index) × IsMade (boundary_reading l.places) l.made
