use Rattle.std.proofs.lemmas.Result.{err_from_is_err_and}
use Rattle.icu_key_writers.proofs.WeightSteps.{weight_fails, weight_written}
use Rattle.icu_key_writers.proofs.writes.write_some.Goals as goal

pub returns-in_err-write_byte-clause-bytes : goal.returns-in_err-write_byte-clause-bytes
returns-in_err-write_byte-clause-bytes g c =
    let p = err_from_is_err_and c.from_residual.result c.from_residual.ensures.1 in
    rw (p.1, p.2) (weight_fails g.S.CollationKeySink.effects _ _ _ _ 3 c.args.weight _ c.requires.some (g.met.S.CollationKeySink.took_nothing _ _ c.requires.sound) c.in_err-write_byte.ensures.outcome)

pub returns-clause-bytes : goal.returns-clause-bytes
returns-clause-bytes g c =
    weight_written g.S.CollationKeySink.effects _ _ _ _ _ _ 3 c.args.weight _
    (λ y z t u b d. g.met.S.CollationKeySink.took_both _ y z _ t u b d c.requires.sound)
    c.requires.some c.in_ok-write_byte.ensures.outcome c.write_three.ensures.bytes
