use Rattle.std.proofs.Common.{List, [], ◌∷◌, refl, sym, subst}
use Rattle.icu_key_writers.specs.KeyWrites.{KeyFeeds}
use Rattle.icu_key_writers.specs.Writes.{Brings}
use Rattle.icu_order_texts.specs.weighting.Handled.{HandledElement}
use Rattle.icu_order_texts.specs.weighting.HandledSources.{handled_as}
use Rattle.icu_order_texts.specs.declared.weighting.handled_element.Handled.{Handled}
use Rattle.icu_key_texts.specs.ThreeRests.{three_rest}
use Rattle.icu_key_texts.proofs.common_elements.CommonElements.push_handled.Goals as goal

pub returns-in-Stayed-clause-bytes : goal.returns-in-Stayed-clause-bytes
returns-in-Stayed-clause-bytes g c = λ identical cs.
    subst (λ (h : Handled). KeyFeeds g.S.CollationKeySink.effects c.args.sink.now c.args.state.now (λ (hs : List HandledElement). three_rest (g.C.PrimaryCompression.compression c.args.compression.now) c.args.form identical c.args.self.now c.args.levels.now cs (handled_as h ∷ hs)) (three_rest (g.C.PrimaryCompression.compression c.args.compression.now) c.args.form identical c.push_stayed.new.self c.push_stayed.new.levels cs) c.push_stayed.result c.push_stayed.new.sink c.push_stayed.new.state)
    (sym c.in-Stayed.is) (c.push_stayed.ensures.bytes identical cs)

pub returns-in-Shifted-clause-bytes : goal.returns-in-Shifted-clause-bytes
returns-in-Shifted-clause-bytes g c = λ identical cs.
    subst (λ (h : Handled). Brings g.S.CollationKeySink.effects c.args.sink.now c.args.state.now (λ (hs : List HandledElement). three_rest (g.C.PrimaryCompression.compression c.args.compression.now) c.args.form identical c.args.self.now c.args.levels.now cs (handled_as h ∷ hs)) (three_rest (g.C.PrimaryCompression.compression c.args.compression.now) c.args.form identical c.args.self.now c.args.levels.now cs) c.args.sink.now c.args.state.now)
    (sym c.in-Shifted.is) (record { front = []; taken = g.met.S.CollationKeySink.took_nothing _ _ c.requires.sound; leaves = λ hs. refl })
