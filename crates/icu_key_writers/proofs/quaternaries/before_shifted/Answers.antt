use Rattle.std.proofs.Common.{arith}
use Rattle.icu_key_writers.proofs.QuaternaryLemmas.{low_spelled, high_spelled}
use Rattle.icu_key_writers.proofs.quaternaries.before_shifted.Goals as goal

pub returns-then-primary-lt452984832 : goal.returns-then-primary-lt452984832
returns-then-primary-lt452984832 c = low_spelled c.args.primary c.if-primary-lt452984832.true

pub returns-else-primary-lt452984832 : goal.returns-else-primary-lt452984832
returns-else-primary-lt452984832 c = high_spelled c.args.primary c.if-primary-lt452984832.false (omega arith)
