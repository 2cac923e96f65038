-- The lines that were gone through have their numbers.
use Rattle.std.proofs.Common.{take}
use Rattle.icu_collator.specs.Collators.{collation_borrowed}
use Rattle.line_sorts.specs.LineFronts.{HaveFronts}
use Rattle.line_sorts.specs.ShownLines.{shown_lines}
use Rattle.collate_commands.specs.LineKeys.{key_of_line}
use Rattle.line_commands.proofs.sort_fronts.line_fronts.Given as goal

abbrev pub invariant-loop-line : goal.invariant-loop-line
invariant-loop-line l = record {
  fronts : HaveFronts (key_of_line (collation_borrowed l.collator)) (shown_lines (take l.line-index l.lines)) l.fronts.items;
}
