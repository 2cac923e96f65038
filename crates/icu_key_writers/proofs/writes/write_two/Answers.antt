use Rattle.std.proofs.lemmas.Result.{err_from_is_err_and}
use Rattle.icu_key_writers.proofs.WeightSteps.{weight_fails, weight_written}
use Rattle.icu_key_writers.proofs.writes.write_two.Goals as goal

pub returns-then-weight-eq0-clause-bytes : goal.returns-then-weight-eq0-clause-bytes
returns-then-weight-eq0-clause-bytes g c = rw c.if-weight-eq0.true (g.met.S.CollationKeySink.took_nothing _ _ c.requires)

pub returns-in_err-write_byte-clause-bytes : goal.returns-in_err-write_byte-clause-bytes
returns-in_err-write_byte-clause-bytes g c =
    let p = err_from_is_err_and c.from_residual.result c.from_residual.ensures.1 in
    rw (p.1, p.2) (weight_fails g.S.CollationKeySink.effects _ _ _ _ 1 c.args.weight _ c.if-weight-eq0.false (g.met.S.CollationKeySink.took_nothing _ _ c.requires) c.in_err-write_byte.ensures.outcome)

pub returns-clause-bytes : goal.returns-clause-bytes
returns-clause-bytes g c =
    weight_written g.S.CollationKeySink.effects _ _ _ _ _ _ 1 c.args.weight _
    (λ y z t u b d. g.met.S.CollationKeySink.took_both _ y z _ t u b d c.requires)
    c.if-weight-eq0.false c.in_ok-write_byte.ensures.outcome c.write_one.ensures.bytes
