-- The first wrong line is among those that are left, and the key of the one before them is known.
use Rattle.std.proofs.Common.{◌≡◌, ◌+◌, drop}
use Rattle.icu_collator.specs.Collators.{collation_borrowed}
use Rattle.line_sorts.specs.ShownLines.{shown_lines}
use Rattle.line_commands.specs.field_sorts.FieldOrders.{line_key}
use Rattle.line_commands.specs.Disorders.{disorder_behind}
use Rattle.line_commands.specs.field_disorders.FieldDisorders.{first_field_disorder, key_stands_wrong}
use Rattle.line_commands.proofs.field_disorders.field_disorder.first_wrong.Given as goal

abbrev pub invariant-loop-line : goal.invariant-loop-line
invariant-loop-line l =
    let c = collation_borrowed l.collator in
    let key = line_key c l.fields.ends l.fields.sorts.now in
    record {
      counted : l.index ≡ l.line-index + 1;
      known : l.before_key.items ≡ key l.before;
      left : disorder_behind (key_stands_wrong key l.request) l.index l.before (shown_lines (drop l.line-index l.rest))
          ≡ first_field_disorder c l.fields.ends l.fields.sorts.now l.request (shown_lines l.lines);
    }
