use Rattle.std.proofs.lemmas.Result.{err_from_is_err_and}
use Rattle.icu_key_writers.proofs.KeyWriting.{begins_nothing}
use Rattle.icu_key_texts.proofs.writer.KeyWriter.push_shifted.Goals as goal

pub returns-in_err-push_shifted-clause-bytes : goal.returns-in_err-push_shifted-clause-bytes
returns-in_err-push_shifted-clause-bytes g c = λ cs.
    let r = err_from_is_err_and c.from_residual.result c.from_residual.ensures.1 in
    rw (r.1, r.2) (λ rest. begins_nothing g.S.CollationKeySink.effects _ _ _ (g.met.S.CollationKeySink.took_nothing _ _ c.requires.sound))
