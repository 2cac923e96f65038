use Rattle.std.proofs.Common.{zero, arith}
use Rattle.icu_key_writers.proofs.RunSteps.{full_level}
use Rattle.icu_key_writers.proofs.run.Run.count.Goals as goal

pub returns-then-self-runs-clause-bytes : goal.returns-then-self-runs-clause-bytes
returns-then-self-runs-clause-bytes c = λ spell ws. full_level c.args.runs.now spell zero _ ws c.requires.runs.some (omega arith)
