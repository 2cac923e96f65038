-- What is left, without the characters that are still to be passed, is the whole without all of them.
use Rattle.std.proofs.Common.{◌≡◌, ◌-◌}
use Rattle.line_sorts.specs.fields.LineFields.{past_chars}
use Rattle.line_sorts.proofs.fields.line_field.past_chars.Given as goal

abbrev pub invariant-loop : goal.invariant-loop
invariant-loop l = past_chars (l.count - l.counter) l.left ≡ past_chars l.count l.fn.line
