use Rattle.std.proofs.Common.{◌≡◌, ◌≢◌, ◌∷◌, ℕ, drop, refl, subst, sym, ap, ◌∙◌}
use Rattle.ucd_normal.specs.CanonicalCombiningClass.{canonical_combining_class as class_of}
use Rattle.icu_text_decomposition.specs.MarkClasses.{of_class}
use Rattle.icu_text_decomposition.specs.UnreadTexts.{IsUnblocked, without_last}
use Rattle.icu_text_decomposition.specs.inner.ClassPlaces.{class_left, places_of}
use Rattle.icu_text_decomposition.specs.inner.FrontMarks.{front_marks}
use Rattle.icu_text_decomposition.specs.inner.Parts.{parts_left}
use Rattle.icu_text_decomposition.specs.inner.RunTexts.{run_text_left}
use Rattle.icu_text_decomposition.proofs.RunTextLemmas.{not_gone, takes_left, takes_ahead}
use Rattle.icu_text_decomposition.proofs.run_text.RunText.take.Goals as goal

pub returns-in-Some-clause-left : goal.returns-in-Some-clause-left
returns-in-Some-clause-left g c = λ passed free.
    let text = g.T.EncodedText.text in
    let mid = c.begin_run.new.self in
    let is : c.from-class.result ≡ class_of c.args.mark = c.from-class.ensures ∙ c.canonical_combining_class.ensures in
    let still = subst (λ l. IsUnblocked l passed c.args.mark) (sym c.begin_run.ensures.left) free in
    let cs = of_class c.from-class.result (front_marks (parts_left text c.in-Some.found.after)) in
    takes_left text mid c.begin_run.ensures.is c.begin_run.ensures.begun passed c.args.mark still c.go_on.new.self c.in-Some.found.mark cs
    (ap (class_left text mid.places) (sym is) ∙ c.in-Some.ensures.some) (ap (class_left text c.go_on.new.self) (sym is) ∙ c.go_on.ensures.own)
    (λ i other. c.go_on.ensures.others i (λ e. other (e ∙ is)))
    ∙ ap (λ l. without_last l passed) c.begin_run.ensures.left

pub returns-in-Some-clause-ahead : goal.returns-in-Some-clause-ahead
returns-in-Some-clause-ahead g c = λ passed free.
    let text = g.T.EncodedText.text in
    let mid = c.begin_run.new.self in
    let is : c.from-class.result ≡ class_of c.args.mark = c.from-class.ensures ∙ c.canonical_combining_class.ensures in
    let still = subst (λ l. IsUnblocked l passed c.args.mark) (sym c.begin_run.ensures.left) free in
    let cs = of_class c.from-class.result (front_marks (parts_left text c.in-Some.found.after)) in
    takes_ahead text mid c.begin_run.ensures.is c.begin_run.ensures.begun passed c.args.mark still c.go_on.new.self c.in-Some.found.mark cs
    (ap (class_left text mid.places) (sym is) ∙ c.in-Some.ensures.some) (ap (class_left text c.go_on.new.self) (sym is) ∙ c.go_on.ensures.own)
    (λ i other. c.go_on.ensures.others i (λ e. other (e ∙ is)))
    ∙ ap (drop passed) c.begin_run.ensures.left

pub returns-in_default-clause-left : goal.returns-in_default-clause-left
returns-in_default-clause-left g c = λ passed free.
    let text = g.T.EncodedText.text in
    let mid = c.begin_run.new.self in
    let is : c.from-class.result ≡ class_of c.args.mark = c.from-class.ensures ∙ c.canonical_combining_class.ensures in
    let still = subst (λ l. IsUnblocked l passed c.args.mark) (sym c.begin_run.ensures.left) free in
    absurd (not_gone text mid c.begin_run.ensures.is c.begin_run.ensures.begun passed c.args.mark still (ap (class_left text mid.places) (sym is) ∙ c.in_default.ensures.none refl))

pub returns-in_default-clause-ahead : goal.returns-in_default-clause-ahead
returns-in_default-clause-ahead g c = λ passed free.
    let text = g.T.EncodedText.text in
    let mid = c.begin_run.new.self in
    let is : c.from-class.result ≡ class_of c.args.mark = c.from-class.ensures ∙ c.canonical_combining_class.ensures in
    let still = subst (λ l. IsUnblocked l passed c.args.mark) (sym c.begin_run.ensures.left) free in
    absurd (not_gone text mid c.begin_run.ensures.is c.begin_run.ensures.begun passed c.args.mark still (ap (class_left text mid.places) (sym is) ∙ c.in_default.ensures.none refl))
