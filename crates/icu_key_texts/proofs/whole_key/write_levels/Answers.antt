use Rattle.std.proofs.Common.{◌≡◌, List, sym, subst}
use Rattle.icu_order_levels.specs.Keys.{key_bytes}
use Rattle.icu_order_levels.specs.Primaries.{Compression}
use Rattle.icu_order_levels.specs.declared.forms.KeyForm.{KeyForm}
use Rattle.icu_key_writers.specs.KeyWrites.{KeyWrites}
use Rattle.icu_order_texts.specs.weighting.Handled.{HandledElement}
use Rattle.icu_order_texts.specs.weighting.Levels.{level_lists}
use Rattle.icu_key_texts.specs.UsualForms.{form_of}
use Rattle.icu_key_texts.proofs.whole_key.write_levels.Goals as goal

pub returns-in-Some-clause-bytes : goal.returns-in-Some-clause-bytes
returns-in-Some-clause-bytes g c =
    let compression : Compression = g.C.PrimaryCompression.compression c.args.compression.now in
    let hs : List HandledElement = g.H.HandledSource.handled_left c.args.elements.now in
    let same : c.args.form ≡ form_of c.in-Some.usual c.args.form.identical = c.in-Some.ensures in
    subst (λ (form : KeyForm). KeyWrites g.S.CollationKeySink.effects c.args.sink.now c.args.state.now
    (key_bytes compression form (level_lists compression.reorder form hs c.args.characters.now)) c.write_usual.result c.write_usual.new.sink c.write_usual.new.state)
    (sym same) c.write_usual.ensures.bytes
