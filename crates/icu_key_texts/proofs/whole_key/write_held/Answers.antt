use Rattle.std.proofs.Common.{◌≡◌, ◌∙◌, ℕ, List, [], ◌∷◌, Err, subst}
use Rattle.std.proofs.lemmas.Result.{err_from_is_err_and}
use Rattle.std.specs.List.{AllByRecursion}
use Rattle.icu_order_levels.specs.Primaries.{Compression}
use Rattle.icu_key_writers.specs.KeyWrites.{KeyFeeds}
use Rattle.icu_key_writers.specs.Writes.{Brings}
use Rattle.icu_key_writers.proofs.Writing.{Owes, owes_fed}
use Rattle.icu_key_writers.proofs.KeyWriting.{key_owed, feeds_stopped}
use Rattle.icu_order_texts.specs.weighting.Handled.{HandledElement}
use Rattle.icu_order_texts.specs.declared.weighting.handled_element.Handled.{Handled}
use Rattle.icu_order_texts.specs.weighting.HandledSources.{HasCase, handled_as}
use Rattle.icu_key_texts.specs.ThreeRests.{three_rest}
use Rattle.icu_key_texts.proofs.KeySourceLemmas.{one_given, none_given, stopped}
use Rattle.icu_key_texts.proofs.whole_key.write_held.Goals as goal

pub returns-in_err-element-clause-bytes : goal.returns-in_err-element-clause-bytes
returns-in_err-element-clause-bytes g c =
    let p = err_from_is_err_and c.from_residual.result c.from_residual.ensures.1 in
    rw (p.1, p.2) (stopped g.S.CollationKeySink.effects _ _ _ _ _ _ _ c.in_err-element.ensures.memory c.writing.invariant.owes)

pub writing-preserved : goal.writing-preserved
writing-preserved g c =
    let compression : Compression = g.C.PrimaryCompression.compression c.args.compression.now in
    let x : Handled = c.in-Some.element in
    let rest : List HandledElement = g.H.HandledSource.handled_left c.next_element.new.elements in
    let opened : g.H.HandledSource.handled_left c.writing.elements ≡ handled_as x ∷ rest = one_given _ rest _ x c.in-Some.is c.in_ok-element.ensures.next in
    let owes = subst (λ (l : List HandledElement). Owes g.S.CollationKeySink.effects c.args.sink.now c.args.state.now (three_rest compression c.args.form c.args.identical c.args.commons.now c.args.levels.now c.args.characters.now (g.H.HandledSource.handled_left c.args.elements.now)) (three_rest compression c.args.form c.args.identical c.writing.commons c.writing.levels c.args.characters.now l) c.writing.sink c.writing.state) opened c.writing.invariant.owes in
    let cases = subst (λ (l : List HandledElement). AllByRecursion HasCase l) opened c.writing.invariant.cases in
    let same : g.C.PrimaryCompression.compression c.writing.compression ≡ compression = c.writing.invariant.known in
    let before : Compression → List HandledElement → List ℕ = λ k hs. three_rest k c.args.form c.args.identical c.writing.commons c.writing.levels c.args.characters.now (handled_as x ∷ hs) in
    let after : Compression → List HandledElement → List ℕ = λ k. three_rest k c.args.form c.args.identical c.push_next.new.self c.push_next.new.levels c.args.characters.now in
    let fed : Brings g.S.CollationKeySink.effects c.writing.sink c.writing.state (before compression) (after compression) c.push_next.new.sink c.push_next.new.state =
    subst (λ (k : Compression). Brings g.S.CollationKeySink.effects c.writing.sink c.writing.state (before k) (after k) c.push_next.new.sink c.push_next.new.state) same (c.in_ok-push_next.ensures.bytes c.args.identical c.args.characters.now) in
    record {
      known = c.in_ok-push_next.ensures.compression ∙ same;
      sound = c.in_ok-push_next.ensures.sound;
      form = c.in_ok-push_next.ensures.form;
      cases = cases.1;
      owes = owes_fed g.S.CollationKeySink.effects _ _ _ _ _ _ _ (before compression) (after compression) rest
          (λ y z t u b d. g.met.S.CollationKeySink.took_both _ y z _ t u b d c.requires.sound) owes fed;
    }

pub returns-in_err-push_next-clause-bytes : goal.returns-in_err-push_next-clause-bytes
returns-in_err-push_next-clause-bytes g c =
    let p = err_from_is_err_and c.from_residual-in_err-push_next.result c.from_residual-in_err-push_next.ensures.1 in
    let compression : Compression = g.C.PrimaryCompression.compression c.args.compression.now in
    let x : Handled = c.in-Some.element in
    let rest : List HandledElement = g.H.HandledSource.handled_left c.next_element.new.elements in
    let opened : g.H.HandledSource.handled_left c.writing.elements ≡ handled_as x ∷ rest = one_given _ rest _ x c.in-Some.is c.in_ok-element.ensures.next in
    let owes = subst (λ (l : List HandledElement). Owes g.S.CollationKeySink.effects c.args.sink.now c.args.state.now (three_rest compression c.args.form c.args.identical c.args.commons.now c.args.levels.now c.args.characters.now (g.H.HandledSource.handled_left c.args.elements.now)) (three_rest compression c.args.form c.args.identical c.writing.commons c.writing.levels c.args.characters.now l) c.writing.sink c.writing.state) opened c.writing.invariant.owes in
    let same : g.C.PrimaryCompression.compression c.writing.compression ≡ compression = c.writing.invariant.known in
    let before : Compression → List HandledElement → List ℕ = λ k hs. three_rest k c.args.form c.args.identical c.writing.commons c.writing.levels c.args.characters.now (handled_as x ∷ hs) in
    let after : Compression → List HandledElement → List ℕ = λ k. three_rest k c.args.form c.args.identical c.push_next.new.self c.push_next.new.levels c.args.characters.now in
    let fed : KeyFeeds g.S.CollationKeySink.effects c.writing.sink c.writing.state (before compression) (after compression) (Err c.in_err-push_next.field-0.0) c.push_next.new.sink c.push_next.new.state =
    subst (λ (k : Compression). KeyFeeds g.S.CollationKeySink.effects c.writing.sink c.writing.state (before k) (after k) (Err c.in_err-push_next.field-0.0) c.push_next.new.sink c.push_next.new.state) same (c.in_err-push_next.ensures.bytes c.args.identical c.args.characters.now) in
    rw (p.1, p.2) (key_owed g.S.CollationKeySink.effects {O = Unit {0}} _ _ _ _ _ _ _ _ (Err c.in_err-push_next.field-0.0)
    (λ y z t u b d. g.met.S.CollationKeySink.took_both _ y z _ t u b d c.requires.sound) owes
    (feeds_stopped g.S.CollationKeySink.effects (Unit {0}) _ _ _ _ (before compression) (after compression) rest c.in_err-push_next.field-0.0 fed))

pub returns-clause-bytes : goal.returns-clause-bytes
returns-clause-bytes g c =
    let compression : Compression = g.C.PrimaryCompression.compression c.args.compression.now in
    let none : g.H.HandledSource.handled_left c.writing.elements ≡ [] = none_given _ (g.H.HandledSource.handled_left c.next_element.new.elements) _ c.in_default.not-Some c.in_ok-element.ensures.next in
    let owes = subst (λ (l : List HandledElement). Owes g.S.CollationKeySink.effects c.args.sink.now c.args.state.now (three_rest compression c.args.form c.args.identical c.args.commons.now c.args.levels.now c.args.characters.now (g.H.HandledSource.handled_left c.args.elements.now)) (three_rest compression c.args.form c.args.identical c.writing.commons c.writing.levels c.args.characters.now l) c.writing.sink c.writing.state) none c.writing.invariant.owes in
    key_owed g.S.CollationKeySink.effects _ _ _ _ _ _ _ _ _
    (λ y z t u b d. g.met.S.CollationKeySink.took_both _ y z _ t u b d c.requires.sound) owes (c.close_held.ensures.bytes compression)
