-- Where nothing is left, no field is.
use Rattle.std.proofs.Common.{◌-◌, ◌∙◌, sym, rules}
use Rattle.line_sorts.proofs.fields.PassingLemmas.{no_fields_of}
use Rattle.line_sorts.proofs.fields.line_field.from_field.Goals as goal

pub returns-then-is_empty : goal.returns-then-is_empty
returns-then-is_empty c = sym (no_fields_of c.args.ends (c.args.count - c.loop.counter) c.loop.left.now (search rules)) ∙ c.loop.invariant
