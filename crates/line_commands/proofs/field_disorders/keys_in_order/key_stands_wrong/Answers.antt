-- The order is that by the key.
use Rattle.std.proofs.Common.{◌∙◌, ap}
use Rattle.std.specs.declared.cmp.Ordering.{Ordering}
use Rattle.line_commands.specs.field_disorders.FieldDisorders.{is_wrong}
use Rattle.line_commands.proofs.field_disorders.keys_in_order.key_stands_wrong.Goals as goal

pub returns : goal.returns
returns c = λ key one other.
    c.is_wrong.ensures ∙ ap (λ (o : Ordering). is_wrong c.args.request.repeats o) (c.keyed_order.ensures key one other)
