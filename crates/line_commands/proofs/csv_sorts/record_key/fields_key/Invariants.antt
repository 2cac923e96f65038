-- The key so far, and then that by the columns that are left, is the whole; the columns so far are there.
use Rattle.std.proofs.Common.{◌≡◌, ◌++◌, drop, IsSome}
use Rattle.std.specs.List.{AllByRecursion}
use Rattle.csv.specs.Records.{field_at, fields_of}
use Rattle.icu_collator.specs.Collators.{collation_borrowed}
use Rattle.line_commands.specs.csv_sorts.ColumnOrders.{fields_key}
use Rattle.line_commands.proofs.csv_sorts.record_key.fields_key.Given as goal

abbrev pub invariant-loop-sort : goal.invariant-loop-sort
invariant-loop-sort l =
    let c = collation_borrowed l.collator in
    let fields = fields_of l.row in
    record {
      key : l.key.items ++ fields_key c fields (drop l.sort-index l.columns) ≡ fields_key c fields l.columns;
      has : AllByRecursion (λ sort. IsSome (field_at fields sort.column)) (drop l.sort-index l.columns)
          → AllByRecursion (λ sort. IsSome (field_at fields sort.column)) l.columns;
    }
