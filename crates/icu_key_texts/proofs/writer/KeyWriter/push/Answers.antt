use Rattle.std.proofs.Common.{List, ◌∷◌, sym, subst}
use Rattle.icu_key_writers.specs.KeyWrites.{KeyFeeds}
use Rattle.icu_order_texts.specs.weighting.Handled.{HandledElement}
use Rattle.icu_order_texts.specs.declared.weighting.handled_element.Handled.{Handled}
use Rattle.icu_order_texts.specs.weighting.HandledSources.{handled_as}
use Rattle.icu_key_texts.specs.KeyRests.{key_rest}
use Rattle.icu_key_texts.proofs.writer.KeyWriter.push.Goals as goal

pub returns-in-Stayed-clause-bytes : goal.returns-in-Stayed-clause-bytes
returns-in-Stayed-clause-bytes g c = λ cs.
    subst (λ (h : Handled). KeyFeeds g.S.CollationKeySink.effects c.args.sink.now c.args.state.now (λ (hs : List HandledElement). key_rest (g.C.PrimaryCompression.compression c.args.compression.now) (g.F.WrittenForm.form_written c.args.form.now) c.args.self.now cs (handled_as h ∷ hs)) (key_rest (g.C.PrimaryCompression.compression c.args.compression.now) (g.F.WrittenForm.form_written c.args.form.now) c.push_stayed.new.self cs) c.push_stayed.result c.push_stayed.new.sink c.push_stayed.new.state)
    (sym c.in-Stayed.is) (c.push_stayed.ensures.bytes cs)

pub returns-in-Shifted-clause-bytes : goal.returns-in-Shifted-clause-bytes
returns-in-Shifted-clause-bytes g c = λ cs.
    subst (λ (h : Handled). KeyFeeds g.S.CollationKeySink.effects c.args.sink.now c.args.state.now (λ (hs : List HandledElement). key_rest (g.C.PrimaryCompression.compression c.args.compression.now) (g.F.WrittenForm.form_written c.args.form.now) c.args.self.now cs (handled_as h ∷ hs)) (key_rest (g.C.PrimaryCompression.compression c.args.compression.now) (g.F.WrittenForm.form_written c.args.form.now) c.push_shifted.new.self cs) c.push_shifted.result c.push_shifted.new.sink c.push_shifted.new.state)
    (sym c.in-Shifted.is) (c.push_shifted.ensures.bytes cs)
