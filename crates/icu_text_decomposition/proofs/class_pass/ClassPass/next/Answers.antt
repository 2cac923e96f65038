use Rattle.std.proofs.Common.{◌<◌, refl, ap, subst, ◌∙◌, sym, arith}
use Rattle.icu_text_decomposition.specs.inner.FrontMarks.{past_marks}
use Rattle.icu_text_decomposition.specs.inner.MarksLeft.{class_limit}
use Rattle.icu_text_decomposition.specs.inner.Parts.{parts_left}
use Rattle.icu_text_decomposition.proofs.PassLemmas.{no_class, run_past}
use Rattle.icu_text_decomposition.proofs.class_pass.ClassPass.next.Goals as goal

pub returns-in_err-class-clause-none : goal.returns-in_err-class-clause-none
returns-in_err-class-clause-none g c = λ _.
    c.classes.invariant.left ∙ c.in_default.ensures.next
    ∙ no_class _ _ _ _ c.in_default.ensures.pass (c.in_default.ensures.end refl) c.in_err-class.was

pub returns-in_err-class-clause-past : goal.returns-in_err-class-clause-past
returns-in_err-class-clause-past g c = λ _.
    sym (run_past _ _ _ _ c.in_default.ensures.pass (c.in_default.ensures.end refl))
    ∙ ap (λ r. past_marks (parts_left g.T.EncodedText.text r)) (c.in_default.ensures.run ∙ c.classes.invariant.run)

pub classes-smaller : goal.classes-smaller
classes-smaller g c =
    let above = c.in_default.ensures.pass.above in
    let least : c.next_of_class.new.self.class < c.in_ok-class.class = subst (λ k. c.next_of_class.new.self.class < k) (ap class_limit c.in_ok-class.was) above in
    let class = c.begin.ensures.class in
    let same = c.in_default.ensures.class in
    omega arith
