-- What is left, from the field on that is still so far, is the whole from it on.
use Rattle.std.proofs.Common.{◌≡◌, ◌-◌}
use Rattle.line_sorts.specs.fields.LineFields.{from_field}
use Rattle.line_sorts.proofs.fields.line_field.from_field.Given as goal

abbrev pub invariant-loop : goal.invariant-loop
invariant-loop l = from_field l.ends (l.count - l.counter) l.left ≡ from_field l.ends l.count l.fn.line
