use Rattle.std.proofs.Common.{◌+◌, arith}
use Rattle.std.proofs.lemmas.Nat.{and_mask}
use Rattle.icu_rule_weights.proofs.weight_gaps.BegunGapLemmas.{four_bytes, three_bytes, two_bytes, one_byte, no_byte, clear_from, begun_from}
use Rattle.icu_rule_weights.proofs.weight_gaps.last_begun.last_begun.Goals as goal

pub returns-then-weight-ne0-clause-clear : goal.returns-then-weight-ne0-clause-clear
returns-then-weight-ne0-clause-clear c = clear_from c.args.weight c.args.weight (omega arith) (omega arith) (four_bytes c.args.weight (omega arith) (omega (arith, and_mask c.args.weight 8)))

pub returns-then-weight-ne0-2-clause-clear : goal.returns-then-weight-ne0-2-clause-clear
returns-then-weight-ne0-2-clause-clear c = clear_from c.args.weight (c.args.weight + 255) (omega arith) (omega arith) (three_bytes c.args.weight (omega arith) (omega (arith, and_mask c.args.weight 8)) (omega (arith, and_mask c.args.weight 16)))

pub returns-then-weight-ne0-2-clause-begun : goal.returns-then-weight-ne0-2-clause-begun
returns-then-weight-ne0-2-clause-begun c = begun_from c.args.weight (c.args.weight + 255) (omega arith) (omega (arith, and_mask c.args.weight 8, and_mask c.args.weight 16, and_mask c.args.weight 24)) (three_bytes c.args.weight (omega arith) (omega (arith, and_mask c.args.weight 8)) (omega (arith, and_mask c.args.weight 16)))

pub returns-then-weight-ne0-3-clause-clear : goal.returns-then-weight-ne0-3-clause-clear
returns-then-weight-ne0-3-clause-clear c = clear_from c.args.weight (c.args.weight + 65535) (omega arith) (omega arith) (two_bytes c.args.weight (omega arith) (omega (arith, and_mask c.args.weight 16)) (omega (arith, and_mask c.args.weight 24)))

pub returns-then-weight-ne0-3-clause-begun : goal.returns-then-weight-ne0-3-clause-begun
returns-then-weight-ne0-3-clause-begun c = begun_from c.args.weight (c.args.weight + 65535) (omega arith) (omega (arith, and_mask c.args.weight 8, and_mask c.args.weight 16, and_mask c.args.weight 24)) (two_bytes c.args.weight (omega arith) (omega (arith, and_mask c.args.weight 16)) (omega (arith, and_mask c.args.weight 24)))

pub returns-then-weight-ne0-4-clause-clear : goal.returns-then-weight-ne0-4-clause-clear
returns-then-weight-ne0-4-clause-clear c = clear_from c.args.weight (c.args.weight + 16777215) (omega arith) (omega arith) (one_byte c.args.weight (omega arith) (omega (arith, and_mask c.args.weight 24)) (omega arith))

pub returns-then-weight-ne0-4-clause-begun : goal.returns-then-weight-ne0-4-clause-begun
returns-then-weight-ne0-4-clause-begun c = begun_from c.args.weight (c.args.weight + 16777215) (omega arith) (omega (arith, and_mask c.args.weight 8, and_mask c.args.weight 16, and_mask c.args.weight 24)) (one_byte c.args.weight (omega arith) (omega (arith, and_mask c.args.weight 24)) (omega arith))
