-- The last element is the one that the definition takes.
use Rattle.std.proofs.Common.{sym, arith}
use Rattle.icu_rule_meaning.proofs.weight_tree.CountingLemmas.{last_is}
use Rattle.icu_rule_meaning.proofs.weight_tree.counting_elements.last_or_ignorable.Goals as goal

pub returns : goal.returns
returns c = sym (last_is c.args.elements.now _ (omega arith))
