use Rattle.std.proofs.Common.{◌≡◌, ℕ, List, ◌++◌}
use Rattle.unicode_normalization.specs.Decompositions.{DecomposesTo}
use Rattle.icu_element_reading.proofs.read.whole_text.Given as goal

-- what was read and what is left are the text
abbrev pub invariant-loop-item : goal.invariant-loop-item
invariant-loop-item g l =
    (goal.iterator-loop-item g).can_next l.source
    × ((cs : List ℕ) → DecomposesTo g.I.Iterator.next_gives l.fn.source cs → (left : List ℕ) × DecomposesTo g.I.Iterator.next_gives l.source left × (l.text.items ++ left ≡ cs))
