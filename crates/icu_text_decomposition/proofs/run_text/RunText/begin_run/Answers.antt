use Rattle.std.proofs.Common.{◌≡◌, ◌≤◌, ◌<◌, ◌+◌, ◌++◌, ℕ, false, nat_lt, subst, sym, ap, ◌∙◌, arith}
use Rattle.std.proofs.lemmas.Bool.Decides.{nat_tests}
use Rattle.icu_text_decomposition.specs.MarkClasses.{of_class}
use Rattle.icu_text_decomposition.specs.inner.ClassPlaces.{marks_from}
use Rattle.icu_text_decomposition.specs.inner.FrontMarks.{front_marks}
use Rattle.icu_text_decomposition.specs.inner.MarksLeft.{left_of_pass}
use Rattle.icu_text_decomposition.specs.inner.Parts.{parts_left}
use Rattle.icu_text_decomposition.proofs.ClassPlaceLemmas.{went_on}
use Rattle.icu_text_decomposition.proofs.RunTextLemmas.{rest_only, begun}
use Rattle.icu_text_decomposition.proofs.run_text.RunText.begin_run.Goals as goal

pub returns-clause-left : goal.returns-clause-left
returns-clause-left g c =
    let text = g.T.EncodedText.text in
    let pass = c.run-pass.result in
    let limit = c.requires.limit in
    let no : nat_lt c.args.self.now.class 256 ≡ false = sym c.has_places.ensures ∙ c.if-has_places.false in
    let beyond : 256 ≤ c.args.self.now.class = grind (arith, nat_tests, no) in
    let none : c.args.self.now.class ≡ 256 = omega arith in
    let class = c.from-class.ensures in
    let small : c.from-class.result < 256 = omega arith in
    let on = went_on text c.find-places.result.0 c.go_on.new.self c.from-class.result _ small c.go_on.ensures.own c.go_on.ensures.others in
    begun text c.find-places.result.0 c.go_on.new.self (parts_left text pass.run) (parts_left text pass.at) (parts_left text c.find-places.result.1) c.from-class.result small c.find-places.ensures.left c.find-places.ensures.past on
    ∙ ap (left_of_pass (parts_left text pass.run) (parts_left text pass.at)) class
    ∙ c.run-pass.ensures.left
    ∙ sym (rest_only text _ _ _ none)
