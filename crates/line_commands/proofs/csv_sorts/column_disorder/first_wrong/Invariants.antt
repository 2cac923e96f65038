-- The first wrong record is among those that are left.
use Rattle.std.proofs.Common.{◌≡◌, ◌+◌, drop, map}
use Rattle.icu_collator.specs.Collators.{collation_borrowed}
use Rattle.line_sorts.specs.ShownLines.{shown_lines}
use Rattle.line_commands.specs.Disorders.{disorder_behind}
use Rattle.line_commands.specs.csv_sorts.ColumnDisorders.{first_record_disorder, keys_stand_wrong}
use Rattle.line_commands.specs.csv_sorts.ColumnOrders.{columns_key}
use Rattle.line_commands.proofs.csv_sorts.column_disorder.first_wrong.Given as goal

abbrev pub invariant-loop-bytes : goal.invariant-loop-bytes
invariant-loop-bytes l =
    let c = collation_borrowed l.collator in
    let key = columns_key c l.request.delimiter l.request.columns.now in
    record {
      counted : l.index ≡ l.bytes-index + 1;
      left : disorder_behind (keys_stand_wrong l.request) l.index l.before_key.items (map key (shown_lines (drop l.bytes-index l.rest)))
          ≡ first_record_disorder c l.request (shown_lines l.records);
    }
