use Rattle.std.proofs.Common.{◌≡◌, ◌∙◌, ℕ, Bool, List, [], ◌∷◌, Err, refl, ap, sym, subst}
use Rattle.std.proofs.lemmas.Result.{err_from_is_err_and}
use Rattle.std.specs.List.{AllByRecursion}
use Rattle.icu_order_levels.specs.Keys.{key_bytes}
use Rattle.icu_order_levels.specs.Primaries.{Compression}
use Rattle.icu_order_levels.specs.declared.forms.KeyForm.{KeyForm}
use Rattle.icu_table_entries.specs.Elements.{Element}
use Rattle.icu_key_writers.specs.KeyWrites.{KeyFeeds, KeyWrites}
use Rattle.icu_key_writers.specs.Writes.{Brings}
use Rattle.icu_key_writers.proofs.Writing.{Owes, owes_fed}
use Rattle.icu_key_writers.proofs.KeyWriting.{key_owed, feeds_stopped}
use Rattle.icu_order_texts.specs.weighting.Handled.{HandledElement, stayed}
use Rattle.icu_order_texts.specs.weighting.HandledSources.{HasCase, handled_as}
use Rattle.icu_order_texts.specs.weighting.Levels.{level_lists}
use Rattle.icu_key_texts.specs.CommonRests.{common_rest}
use Rattle.icu_key_texts.proofs.KeySourceLemmas.{one_given, none_given, stopped}
use Rattle.icu_key_texts.proofs.whole_key.write_three_levels.Goals as goal

pub counting-init : goal.counting-init
counting-init g c =
    let k : Compression = g.C.PrimaryCompression.compression c.args.compression.now in
    let f : KeyForm = g.F.WrittenForm.form_written c.args.form.now in
    let hs : List HandledElement = g.H.HandledSource.handled_left c.args.elements.now in
    record {
      owes = record {
        front = [];
        taken = g.met.S.CollationKeySink.took_nothing _ _ c.requires.sound;
        splits = ap (λ (m : KeyForm). key_bytes k m (level_lists k.reorder m hs c.args.characters.now)) c.requires.form
            ∙ sym (c.new-commons.ensures k c.args.tertiary f.identical c.args.characters.now hs);
      };
      cases = c.requires.cases;
      sound = c.requires.sound;
      known = refl;
    }

pub returns-in_err-next-clause-bytes : goal.returns-in_err-next-clause-bytes
returns-in_err-next-clause-bytes g c =
    let p = err_from_is_err_and c.from_residual.result c.from_residual.ensures.1 in
    rw (p.1, p.2) (stopped g.S.CollationKeySink.effects _ _ _ _ _ _ _ c.in_err-next.ensures.memory c.counting.invariant.owes)

pub counting-preserved : goal.counting-preserved
counting-preserved g c =
    let k : Compression = g.C.PrimaryCompression.compression c.args.compression.now in
    let f : KeyForm = g.F.WrittenForm.form_written c.args.form.now in
    let x : Element = c.in-Some-takes.element in
    let rest : List HandledElement = g.H.HandledSource.handled_left c.next_element.new.elements in
    let opened : g.H.HandledSource.handled_left c.counting.elements ≡ stayed x ∷ rest =
    one_given _ rest _ c.in-Some.next c.in-Some.is c.in_ok-next.ensures.next ∙ ap (λ (h : HandledElement). h ∷ rest) c.in-Some-takes.ensures.stayed in
    let owes = subst (λ (l : List HandledElement). Owes g.S.CollationKeySink.effects c.args.sink.now c.args.state.now (key_bytes k f (level_lists k.reorder f (g.H.HandledSource.handled_left c.args.elements.now) c.args.characters.now)) (common_rest k c.args.tertiary f.identical c.counting.commons c.args.characters.now l) c.counting.sink c.counting.state) opened c.counting.invariant.owes in
    let cases = subst (λ (l : List HandledElement). AllByRecursion HasCase l) opened c.counting.invariant.cases in
    let same : g.C.PrimaryCompression.compression c.counting.compression ≡ k = c.counting.invariant.known in
    let before : Compression → List HandledElement → List ℕ = λ m hs. common_rest m c.args.tertiary f.identical c.counting.commons c.args.characters.now (stayed x ∷ hs) in
    let after : Compression → List HandledElement → List ℕ = λ m. common_rest m c.args.tertiary f.identical c.push.new.self c.args.characters.now in
    let fed : Brings g.S.CollationKeySink.effects c.counting.sink c.counting.state (before k) (after k) c.push.new.sink c.push.new.state =
    subst (λ (m : Compression). Brings g.S.CollationKeySink.effects c.counting.sink c.counting.state (before m) (after m) c.push.new.sink c.push.new.state) same (c.in_ok-push.ensures.bytes c.args.tertiary f.identical c.args.characters.now) in
    record {
      known = c.in_ok-push.ensures.compression ∙ same;
      sound = c.in_ok-push.ensures.sound;
      cases = cases.1;
      owes = owes_fed g.S.CollationKeySink.effects _ _ _ _ _ _ _ (before k) (after k) rest (λ y z t u b d. g.met.S.CollationKeySink.took_both _ y z _ t u b d c.requires.sound) owes fed;
    }

pub returns-in_err-push-clause-bytes : goal.returns-in_err-push-clause-bytes
returns-in_err-push-clause-bytes g c =
    let p = err_from_is_err_and c.from_residual-in_err-push.result c.from_residual-in_err-push.ensures.1 in
    let k : Compression = g.C.PrimaryCompression.compression c.args.compression.now in
    let f : KeyForm = g.F.WrittenForm.form_written c.args.form.now in
    let x : Element = c.in-Some-takes.element in
    let rest : List HandledElement = g.H.HandledSource.handled_left c.next_element.new.elements in
    let opened : g.H.HandledSource.handled_left c.counting.elements ≡ stayed x ∷ rest =
    one_given _ rest _ c.in-Some.next c.in-Some.is c.in_ok-next.ensures.next ∙ ap (λ (h : HandledElement). h ∷ rest) c.in-Some-takes.ensures.stayed in
    let owes = subst (λ (l : List HandledElement). Owes g.S.CollationKeySink.effects c.args.sink.now c.args.state.now (key_bytes k f (level_lists k.reorder f (g.H.HandledSource.handled_left c.args.elements.now) c.args.characters.now)) (common_rest k c.args.tertiary f.identical c.counting.commons c.args.characters.now l) c.counting.sink c.counting.state) opened c.counting.invariant.owes in
    let same : g.C.PrimaryCompression.compression c.counting.compression ≡ k = c.counting.invariant.known in
    let before : Compression → List HandledElement → List ℕ = λ m hs. common_rest m c.args.tertiary f.identical c.counting.commons c.args.characters.now (stayed x ∷ hs) in
    let after : Compression → List HandledElement → List ℕ = λ m. common_rest m c.args.tertiary f.identical c.push.new.self c.args.characters.now in
    let fed : KeyFeeds g.S.CollationKeySink.effects c.counting.sink c.counting.state (before k) (after k) (Err c.in_err-push.field-0.0) c.push.new.sink c.push.new.state =
    subst (λ (m : Compression). KeyFeeds g.S.CollationKeySink.effects c.counting.sink c.counting.state (before m) (after m) (Err c.in_err-push.field-0.0) c.push.new.sink c.push.new.state) same (c.in_err-push.ensures.bytes c.args.tertiary f.identical c.args.characters.now) in
    rw (p.1, p.2) (key_owed g.S.CollationKeySink.effects {O = Unit {0}} _ _ _ _ _ _ _ _ (Err c.in_err-push.field-0.0) (λ y z t u b d. g.met.S.CollationKeySink.took_both _ y z _ t u b d c.requires.sound) owes
    (feeds_stopped g.S.CollationKeySink.effects (Unit {0}) _ _ _ _ (before k) (after k) rest c.in_err-push.field-0.0 fed))

pub returns-in_default-takes-clause-bytes : goal.returns-in_default-takes-clause-bytes
returns-in_default-takes-clause-bytes g c =
    let k : Compression = g.C.PrimaryCompression.compression c.args.compression.now in
    let f : KeyForm = g.F.WrittenForm.form_written c.args.form.now in
    let rest : List HandledElement = g.H.HandledSource.handled_left c.next_element.new.elements in
    let hs : List HandledElement = handled_as c.in-Some.next ∷ rest in
    let opened : g.H.HandledSource.handled_left c.counting.elements ≡ hs = one_given _ rest _ c.in-Some.next c.in-Some.is c.in_ok-next.ensures.next in
    let owes = subst (λ (l : List HandledElement). Owes g.S.CollationKeySink.effects c.args.sink.now c.args.state.now (key_bytes k f (level_lists k.reorder f (g.H.HandledSource.handled_left c.args.elements.now) c.args.characters.now)) (common_rest k c.args.tertiary f.identical c.counting.commons c.args.characters.now l) c.counting.sink c.counting.state) opened c.counting.invariant.owes in
    let same : g.C.PrimaryCompression.compression c.counting.compression ≡ k = c.counting.invariant.known in
    let now : Compression = g.C.PrimaryCompression.compression c.counting.compression in
    let identical : c.form-identical.result.identical ≡ f.identical = ap (λ (m : KeyForm). m.identical) c.form-identical.ensures in
    let written = subst (λ (i : Bool). KeyWrites g.S.CollationKeySink.effects c.counting.sink c.counting.state (common_rest now c.args.tertiary i c.counting.commons c.args.characters.now hs) c.write_from.result c.write_from.new.sink c.write_from.new.state) identical c.write_from.ensures.bytes in
    key_owed g.S.CollationKeySink.effects _ _ _ _ _ _ _ _ _ (λ y z t u b d. g.met.S.CollationKeySink.took_both _ y z _ t u b d c.requires.sound) owes
    (subst (λ (m : Compression). KeyWrites g.S.CollationKeySink.effects c.counting.sink c.counting.state (common_rest m c.args.tertiary f.identical c.counting.commons c.args.characters.now hs) c.write_from.result c.write_from.new.sink c.write_from.new.state) same written)

pub returns-clause-bytes : goal.returns-clause-bytes
returns-clause-bytes g c =
    let k : Compression = g.C.PrimaryCompression.compression c.args.compression.now in
    let f : KeyForm = g.F.WrittenForm.form_written c.args.form.now in
    let none : g.H.HandledSource.handled_left c.counting.elements ≡ [] = none_given _ (g.H.HandledSource.handled_left c.next_element.new.elements) _ c.in_default.not-Some c.in_ok-next.ensures.next in
    let owes = subst (λ (l : List HandledElement). Owes g.S.CollationKeySink.effects c.args.sink.now c.args.state.now (key_bytes k f (level_lists k.reorder f (g.H.HandledSource.handled_left c.args.elements.now) c.args.characters.now)) (common_rest k c.args.tertiary f.identical c.counting.commons c.args.characters.now l) c.counting.sink c.counting.state) none c.counting.invariant.owes in
    let identical : c.form-identical.result.identical ≡ f.identical = ap (λ (m : KeyForm). m.identical) c.form-identical.ensures in
    key_owed g.S.CollationKeySink.effects _ _ _ _ _ _ _ _ _ (λ y z t u b d. g.met.S.CollationKeySink.took_both _ y z _ t u b d c.requires.sound) owes
    (subst (λ (i : Bool). KeyWrites g.S.CollationKeySink.effects c.counting.sink c.counting.state (common_rest k c.args.tertiary i c.counting.commons c.args.characters.now []) c.close.result c.close.new.sink c.close.new.state) identical (c.close.ensures.bytes k))
