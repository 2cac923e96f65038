-- The key so far, and then that by the parts that are left, is the whole.
use Rattle.std.proofs.Common.{◌≡◌, ◌++◌, drop}
use Rattle.icu_collator.specs.Collators.{collation_borrowed}
use Rattle.line_commands.specs.field_sorts.FieldOrders.{line_key}
use Rattle.line_commands.proofs.field_sorts.line_key.line_key.Given as goal

abbrev pub invariant-loop-sort : goal.invariant-loop-sort
invariant-loop-sort l =
    let c = collation_borrowed l.collator in
    l.key.items ++ line_key c l.fields.ends (drop l.sort-index l.sort-items) l.line ≡ line_key c l.fields.ends l.sort-items l.line
