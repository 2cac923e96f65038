use Rattle.std.proofs.Common.{List, [], sym, subst}
use Rattle.std.proofs.lemmas.Result.{err_from_is_err_and}
use Rattle.icu_order_levels.specs.Keys.{LevelPart, parts_bytes}
use Rattle.icu_key_writers.specs.KeyWrites.{KeyWrites}
use Rattle.icu_key_writers.proofs.KeyWriting.{begins_nothing}
use Rattle.icu_order_texts.specs.weighting.Levels.{weights}
use Rattle.icu_key_texts.proofs.common_elements.CommonElements.close_held.Goals as goal

pub returns-in_err-feed-clause-bytes : goal.returns-in_err-feed-clause-bytes
returns-in_err-feed-clause-bytes g c = λ k.
    let r = err_from_is_err_and c.from_residual.result c.from_residual.ensures.1 in
    rw (r.1, r.2) (begins_nothing g.S.CollationKeySink.effects _ _ _ (g.met.S.CollationKeySink.took_nothing _ _ c.requires.sound))

pub returns-clause-bytes : goal.returns-clause-bytes
unfolding weights
returns-clause-bytes g c = λ k.
    subst (λ (ps : List LevelPart). KeyWrites g.S.CollationKeySink.effects c.args.sink.now c.args.state.now (parts_bytes ps) c.write.result c.write.new.sink c.write.new.state)
    (sym (c.in_ok-feed.ensures.levels c.args.identical c.args.characters.now [])) c.write.ensures.bytes
