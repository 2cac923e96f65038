use Rattle.std.proofs.Common.{◌≡◌, ℕ, List, ◌∷◌, Err, subst}
use Rattle.std.proofs.lemmas.Result.{err_from_is_err_and}
use Rattle.icu_order_levels.specs.Primaries.{Compression}
use Rattle.icu_key_writers.specs.KeyWrites.{KeyWrites}
use Rattle.icu_key_writers.proofs.Writing.{owes_all, owes_fed}
use Rattle.icu_key_writers.proofs.KeyWriting.{key_owed, feeds_stopped}
use Rattle.icu_order_texts.specs.weighting.Handled.{HandledElement}
use Rattle.icu_order_texts.specs.weighting.HandledSources.{handled_as}
use Rattle.icu_key_texts.specs.CommonRests.{common_rest}
use Rattle.icu_key_texts.specs.ThreeRests.{three_rest}
use Rattle.icu_key_texts.proofs.ThreeRestLemmas.{rest_begins}
use Rattle.icu_key_texts.proofs.whole_key.write_from.Goals as goal

pub returns-in_err-push_handled-clause-bytes : goal.returns-in_err-push_handled-clause-bytes
returns-in_err-push_handled-clause-bytes g c =
    let p = err_from_is_err_and c.from_residual.result c.from_residual.ensures.1 in
    let k : Compression = g.C.PrimaryCompression.compression c.args.compression.now in
    let l = c.new-levels.result in
    let hs : List HandledElement = handled_as c.args.element ∷ g.H.HandledSource.handled_left c.args.elements.now in
    let begins : three_rest k c.args.form c.args.identical c.args.begun l c.args.characters.now hs ≡ common_rest k c.args.form c.args.identical c.args.begun c.args.characters.now hs =
    rest_begins k c.args.form c.args.identical c.args.begun l c.args.characters.now hs (λ es. c.new-levels.ensures.begins c.args.identical c.args.begun.count c.args.characters.now es) in
    rw (p.1, p.2) (subst (λ (bs : List ℕ). KeyWrites {O = Unit {0}} g.S.CollationKeySink.effects c.args.sink.now c.args.state.now bs (Err c.in_err-push_handled.field-0.0) c.push_handled.new.sink c.push_handled.new.state) begins
    (feeds_stopped g.S.CollationKeySink.effects (Unit {0}) _ _ _ _ (λ (hs : List HandledElement). three_rest k c.args.form c.args.identical c.args.begun l c.args.characters.now (handled_as c.args.element ∷ hs))
    (three_rest k c.args.form c.args.identical c.push_handled.new.self c.push_handled.new.levels c.args.characters.now) (g.H.HandledSource.handled_left c.args.elements.now) c.in_err-push_handled.field-0.0 (c.in_err-push_handled.ensures.bytes c.args.identical c.args.characters.now)))

pub returns-clause-bytes : goal.returns-clause-bytes
returns-clause-bytes g c =
    let k : Compression = g.C.PrimaryCompression.compression c.args.compression.now in
    let l = c.new-levels.result in
    let rest : List HandledElement = g.H.HandledSource.handled_left c.args.elements.now in
    let hs : List HandledElement = handled_as c.args.element ∷ rest in
    let begins : three_rest k c.args.form c.args.identical c.args.begun l c.args.characters.now hs ≡ common_rest k c.args.form c.args.identical c.args.begun c.args.characters.now hs =
    rest_begins k c.args.form c.args.identical c.args.begun l c.args.characters.now hs (λ es. c.new-levels.ensures.begins c.args.identical c.args.begun.count c.args.characters.now es) in
    subst (λ (bs : List ℕ). KeyWrites g.S.CollationKeySink.effects c.args.sink.now c.args.state.now bs c.write_held.result c.write_held.new.sink c.write_held.new.state) begins
    (key_owed g.S.CollationKeySink.effects _ _ _ _ _ _ _ _ _ (λ y z t u b d. g.met.S.CollationKeySink.took_both _ y z _ t u b d c.requires.sound)
    (owes_fed g.S.CollationKeySink.effects _ _ _ _ _ _ _ (λ (hs : List HandledElement). three_rest k c.args.form c.args.identical c.args.begun l c.args.characters.now (handled_as c.args.element ∷ hs))
    (three_rest k c.args.form c.args.identical c.push_handled.new.self c.push_handled.new.levels c.args.characters.now) rest (λ y z t u b d. g.met.S.CollationKeySink.took_both _ y z _ t u b d c.requires.sound)
    (owes_all g.S.CollationKeySink.effects _ _ _ (g.met.S.CollationKeySink.took_nothing _ _ c.requires.sound)) (c.in_ok-push_handled.ensures.bytes c.args.identical c.args.characters.now))
    (subst (λ (m : Compression). KeyWrites g.S.CollationKeySink.effects c.push_handled.new.sink c.push_handled.new.state (three_rest m c.args.form c.args.identical c.push_handled.new.self c.push_handled.new.levels c.args.characters.now rest) c.write_held.result c.write_held.new.sink c.write_held.new.state)
    c.in_ok-push_handled.ensures.compression c.write_held.ensures.bytes))
