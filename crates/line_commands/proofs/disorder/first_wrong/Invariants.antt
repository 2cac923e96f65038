-- The first wrong line is among those that are left.
use Rattle.std.proofs.Common.{◌≡◌, ◌+◌, drop}
use Rattle.icu_collator.specs.Collators.{collation_borrowed}
use Rattle.line_sorts.specs.ShownLines.{shown_lines}
use Rattle.line_commands.specs.Disorders.{disorder_behind, first_disorder, stands_wrong}
use Rattle.line_commands.proofs.disorder.first_wrong.Given as goal

abbrev pub invariant-loop-line : goal.invariant-loop-line
invariant-loop-line l =
    let c = collation_borrowed l.collator in
    record {
      counted : l.index ≡ l.line-index + 1;
      left : disorder_behind (stands_wrong c l.request) l.index l.before (shown_lines (drop l.line-index l.rest))
          ≡ first_disorder c l.request (shown_lines l.lines);
    }
