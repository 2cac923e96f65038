use Rattle.std.proofs.Common.{[], ◌++◌, arith, option_to_list}
use Rattle.icu_order_levels.specs.WeightBytes.{weight_bytes}
use Rattle.icu_key_writers.proofs.PrimarySteps.{other_lead_written}
use Rattle.icu_key_writers.proofs.Writing.{writes_same}
use Rattle.icu_key_writers.proofs.primaries.write_change.Goals as goal

pub returns-clause-bytes : goal.returns-clause-bytes
returns-clause-bytes g c =
    writes_same g.S.CollationKeySink.effects _ _ _ _ _ ((option_to_list c.change_of_lead-change.result ++ []) ++ weight_bytes 4 c.args.primary) _
    (other_lead_written c.args.dropped c.args.primary _ (option_to_list c.change_of_lead-change.result) (omega arith) c.requires.other c.change_of_lead-change.ensures)
    c.write_long_after.ensures.bytes
