use Rattle.std.proofs.Common.{[], ◌∷◌}
use Rattle.std.proofs.lemmas.Result.{err_from_is_err_and}
use Rattle.icu_key_writers.specs.HeldRests.{held_tertiaries}
use Rattle.icu_key_writers.proofs.Writing.{fails_front, writes_last}
use Rattle.icu_key_writers.proofs.held_tertiaries.HeldTertiaries.write_closed.Goals as goal

pub returns-in_err-write_opened-clause-bytes : goal.returns-in_err-write_opened-clause-bytes
returns-in_err-write_opened-clause-bytes g c =
    let p = err_from_is_err_and c.from_residual.result c.from_residual.ensures.1 in
    rw (p.1, p.2) (fails_front g.S.CollationKeySink.effects _ _ _ _ (1 ∷ (held_tertiaries c.args.self.now [])) (1 ∷ []) _ c.in_err-write_opened.ensures.bytes)

pub returns-clause-bytes : goal.returns-clause-bytes
returns-clause-bytes g c =
    writes_last g.S.CollationKeySink.effects _ _ _ _ _ _ (1 ∷ (held_tertiaries c.args.self.now [])) (1 ∷ []) _
    (λ y z t u b d. g.met.S.CollationKeySink.took_both _ y z _ t u b d c.requires)
    c.in_ok-write_opened.ensures.bytes c.write_byte.ensures.outcome
