-- The records that were gone through have their keys and their columns.
use Rattle.std.proofs.Common.{◌≡◌, drop, map, take}
use Rattle.std.specs.List.{AllByRecursion}
use Rattle.icu_collator.specs.Collators.{collation_borrowed}
use Rattle.line_sorts.specs.KeyBuffers.{keys_in}
use Rattle.line_sorts.specs.ShownLines.{shown_lines}
use Rattle.line_commands.specs.csv_sorts.ColumnOrders.{HasColumns, columns_key}
use Rattle.line_commands.proofs.csv_sorts.record_key.keys_of_records.Given as goal

abbrev pub invariant-loop-bytes : goal.invariant-loop-bytes
invariant-loop-bytes l =
    let c = collation_borrowed l.collator in
    let d = l.request.delimiter in
    let columns = l.request.columns.now in
    record {
      keys : keys_in l.keys ≡ map (columns_key c d columns) (shown_lines (take l.bytes-index l.records));
      has : AllByRecursion (HasColumns d columns) (shown_lines (drop l.bytes-index l.records))
          → AllByRecursion (HasColumns d columns) (shown_lines l.records);
    }
