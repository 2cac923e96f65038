use Rattle.line_sorts.proofs.fields.JoinedKeyLemmas.{directed_order}
use Rattle.line_sorts.proofs.fields.joined_keys.directed_keys_order.Goals as goal

pub returns : goal.returns
returns c = directed_order
