use Rattle.std.proofs.Common.{◌-◌, arith}
use Rattle.icu_key_writers.proofs.RunSteps.{short_less, short_more}
use Rattle.icu_key_writers.proofs.run.Run.end.Goals as goal

pub returns-then-before_less-clause-bytes : goal.returns-then-before_less-clause-bytes
returns-then-before_less-clause-bytes c =
    rw c.if-before_less.true (short_less c.args.runs.now c.args.self.now.length (c.args.self.now.length - 1) (omega arith) c.requires.bounded)

pub returns-else-before_less-clause-bytes : goal.returns-else-before_less-clause-bytes
returns-else-before_less-clause-bytes c =
    rw c.if-before_less.false (short_more c.args.runs.now c.args.self.now.length (c.args.self.now.length - 1) (omega arith) c.requires.bounded)
