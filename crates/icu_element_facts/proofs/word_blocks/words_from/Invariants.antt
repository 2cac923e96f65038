use Rattle.std.proofs.Common.{◌≡◌, ◌+◌, length}
use Rattle.icu_element_reading.specs.boundaries.BoundaryTables.{boundary_reading}
use Rattle.icu_element_facts.specs.inner.WordBlocks.{AreMoreWords}
use Rattle.icu_element_facts.proofs.word_blocks.words_from.Given as goal

-- the words so far are those of the characters up to this one
abbrev pub invariant-loop-code : goal.invariant-loop-code
invariant-loop-code l = (l.first + length l.words.items ≡ l.code) × AreMoreWords (boundary_reading l.places) l.first l.words.items l.fn.facts.items l.facts.items
