use Rattle.std.proofs.Common.{arith}
use Rattle.icu_order_levels.proofs.CompressionOrder.{same_lead}
use Rattle.icu_order_levels.specs.Primaries.{below_lead}
use Rattle.icu_order_levels.specs.WeightBytes.{weight_bytes}
use Rattle.icu_key_writers.proofs.PrimarySteps.{first_lead_written}
use Rattle.icu_key_writers.proofs.Writing.{writes_same}
use Rattle.icu_key_writers.proofs.primaries.write_primary.Goals as goal

pub returns-then-lead-dropped-clause-bytes : goal.returns-then-lead-dropped-clause-bytes
returns-then-lead-dropped-clause-bytes g c =
    writes_same g.S.CollationKeySink.effects _ _ _ _ _ (weight_bytes 3 (below_lead c.args.primary)) _
    (same_lead c.args.dropped c.args.primary (omega arith)) c.write_three.ensures.bytes

pub returns-then-dropped-eq0-clause-bytes : goal.returns-then-dropped-eq0-clause-bytes
returns-then-dropped-eq0-clause-bytes g c =
    writes_same g.S.CollationKeySink.effects _ _ _ _ _ (weight_bytes 4 c.args.primary) _
    (first_lead_written c.args.dropped c.args.primary c.if-dropped-eq0.true (omega arith)) c.write_some.ensures.bytes
