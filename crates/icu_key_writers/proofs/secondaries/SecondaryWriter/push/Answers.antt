use Rattle.std.proofs.Common.{◌∙◌, ap, sym}
use Rattle.icu_order_levels.specs.declared.run_bytes.TheConstants.{SECONDARY_RUNS}
use Rattle.icu_order_levels.specs.WeightBytes.{weight_bytes}
use Rattle.icu_key_writers.proofs.LevelWriting.{feeds_weight}
use Rattle.icu_key_writers.proofs.secondaries.SecondaryWriter.push.Goals as goal

pub returns-then-whole-clause-bytes : goal.returns-then-whole-clause-bytes
returns-then-whole-clause-bytes g c =
    feeds_weight g.S.CollationKeySink.effects _ _ _ _ SECONDARY_RUNS (weight_bytes 2) _ _ c.args.weight 0x500 _
    (sym c.from-whole.ensures ∙ c.if-whole.true)
    (c.write_common.ensures.bytes (weight_bytes 2))

pub returns-else-whole-clause-bytes : goal.returns-else-whole-clause-bytes
returns-else-whole-clause-bytes g c =
    let w = c.from-whole.result in
    feeds_weight g.S.CollationKeySink.effects _ _ _ _ SECONDARY_RUNS (weight_bytes 2) _ _ c.args.weight w _
    (sym c.from-whole.ensures)
    (c.write_short.ensures.bytes (weight_bytes 2) (ap (weight_bytes 2) c.from-whole.ensures))
