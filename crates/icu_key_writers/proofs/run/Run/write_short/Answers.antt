use Rattle.std.proofs.Common.{◌++◌, option_to_list}
use Rattle.icu_order_levels.specs.WeightBytes.{weight_bytes}
use Rattle.icu_key_writers.proofs.RunSteps.{other_level}
use Rattle.icu_key_writers.proofs.Writing.{feeds_writes}
use Rattle.icu_key_writers.proofs.run.Run.write_short.Goals as goal

pub returns-clause-bytes : goal.returns-clause-bytes
returns-clause-bytes g c = λ spell same.
    feeds_writes g.S.CollationKeySink.effects _ _ _ _ (option_to_list c.end-last.result ++ weight_bytes 2 c.args.spelled) _ _ _
    (λ ws. other_level c.args.runs.now spell c.args.self.now.length c.args.weight c.end-last.new.self.length ws (option_to_list c.end-last.result) (weight_bytes 2 c.args.spelled) c.requires.other c.end-last.ensures.bytes same c.end-last.ensures.empty)
    c.write_short_after.ensures.bytes
