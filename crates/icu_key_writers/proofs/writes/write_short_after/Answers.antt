use Rattle.std.proofs.lemmas.Result.{err_from_is_err_and}
use Rattle.icu_key_writers.proofs.Writing.{fails_front, writes_after}
use Rattle.icu_key_writers.proofs.writes.write_short_after.Goals as goal

pub returns-in_err-write_optional-clause-bytes : goal.returns-in_err-write_optional-clause-bytes
returns-in_err-write_optional-clause-bytes g c =
    let p = err_from_is_err_and c.from_residual.result c.from_residual.ensures.1 in
    rw (p.1, p.2) (fails_front g.S.CollationKeySink.effects _ _ _ _ _ _ _ c.in_err-write_optional.ensures.bytes)

pub returns-clause-bytes : goal.returns-clause-bytes
returns-clause-bytes g c =
    writes_after g.S.CollationKeySink.effects _ _ _ _ _ _ _ _ _
    (λ y z t u b d. g.met.S.CollationKeySink.took_both _ y z _ t u b d c.requires)
    c.in_ok-write_optional.ensures.bytes c.write_two.ensures.bytes
