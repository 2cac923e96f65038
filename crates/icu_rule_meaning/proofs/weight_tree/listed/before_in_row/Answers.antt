-- The weight before the place at which another stands.
use Rattle.std.proofs.Common.{sym, None, arith}
use Rattle.icu_rule_meaning.proofs.weight_tree.SiblingLemmas.{nothing_before, before_none, before_later}
use Rattle.icu_rule_meaning.proofs.weight_tree.listed.before_in_row.Goals as goal
use Rattle.icu_rule_meaning.proofs.weight_tree.listed.before_in_row.Goals.{then-place-eq0-via-then-place-eq0, then-place-eq0-via-else-place-eq0+then-weights-place}

pub returns-then-place-eq0 : goal.returns-then-place-eq0
returns-then-place-eq0 c = elim c.then-place-eq0.branch [
  | then-place-eq0-via-then-place-eq0 w ↦ sym (nothing_before c.args.w c.args.weights.now (omega arith))
  | then-place-eq0-via-else-place-eq0+then-weights-place w ↦
      sym (before_none None c.args.w c.args.weights.now (omega arith))
]

pub returns : goal.returns
returns c = sym (before_later None c.args.w c.args.weights.now _ _ (omega arith) (omega arith))
