-- The parts so far, and then those of the rest, are all.
use Rattle.std.proofs.Common.{◌≡◌, ◌++◌, ◌==◌, length}
use Rattle.std.specs.List.{slice_split}
use Rattle.line_sorts.specs.ShownLines.{shown_lines}
use Rattle.line_sorts.proofs.input_lines.parts.Given as goal

abbrev pub decreases-cutting : goal.decreases-cutting
decreases-cutting l = length l.rest

abbrev pub invariant-cutting : goal.invariant-cutting
invariant-cutting l = shown_lines l.parts.items ++ slice_split (λ b. b == l.separator) l.rest ≡ slice_split (λ b. b == l.separator) l.bytes
