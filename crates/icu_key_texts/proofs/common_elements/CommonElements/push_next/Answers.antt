use Rattle.std.proofs.Common.{List, ◌∷◌, sym, subst}
use Rattle.icu_key_writers.specs.KeyWrites.{KeyFeeds}
use Rattle.icu_order_texts.specs.weighting.Handled.{HandledElement}
use Rattle.icu_key_texts.specs.ThreeRests.{three_rest}
use Rattle.icu_key_texts.proofs.common_elements.CommonElements.push_next.Goals as goal

pub returns-in-Some-clause-bytes : goal.returns-in-Some-clause-bytes
returns-in-Some-clause-bytes g c = λ identical cs.
    subst (λ (h : HandledElement). KeyFeeds g.S.CollationKeySink.effects c.args.sink.now c.args.state.now (λ (hs : List HandledElement). three_rest (g.C.PrimaryCompression.compression c.args.compression.now) c.args.form identical c.args.self.now c.args.levels.now cs (h ∷ hs)) (three_rest (g.C.PrimaryCompression.compression c.args.compression.now) c.args.form identical c.push.new.self c.args.levels.now cs) c.push.result c.push.new.sink c.push.new.state)
    (sym c.in-Some.ensures.stayed) (c.push.ensures.held c.args.form c.args.levels.now identical cs)
