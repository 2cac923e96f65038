use Rattle.icu_key_writers.proofs.WeightSteps.{weight_last}
use Rattle.icu_key_writers.proofs.Writing.{writes_one, writes_same}
use Rattle.icu_key_writers.proofs.writes.write_one.Goals as goal

pub returns-then-weight-eq0-clause-bytes : goal.returns-then-weight-eq0-clause-bytes
returns-then-weight-eq0-clause-bytes g c = rw c.if-weight-eq0.true (g.met.S.CollationKeySink.took_nothing _ _ c.requires)

pub returns-else-weight-eq0-clause-bytes : goal.returns-else-weight-eq0-clause-bytes
returns-else-weight-eq0-clause-bytes g c =
    writes_same g.S.CollationKeySink.effects _ _ _ _ _ _ _ (weight_last c.args.weight c.if-weight-eq0.false)
    (writes_one g.S.CollationKeySink.effects _ _ _ _ _ _ (g.met.S.CollationKeySink.took_nothing _ _ c.requires) c.write_byte.ensures.outcome)
