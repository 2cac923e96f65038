use Rattle.std.proofs.Common.{◌≤◌, refl, ap, ◌∙◌, arith}
use Rattle.ucd_normal.specs.CanonicalCombiningClass.{canonical_combining_class as class_of}
use Rattle.icu_text_decomposition.specs.inner.FrontMarks.{front_marks}
use Rattle.icu_text_decomposition.proofs.FrontMarkLemmas.{front-nil, front-starter}
use Rattle.icu_text_decomposition.proofs.class_pass.ClassPass.next_of_class.Goals as goal

pub returns-in_err-mark-clause-end : goal.returns-in_err-mark-clause-end
returns-in_err-mark-clause-end g c = λ _. ap front_marks (c.in_err-mark.ensures.end refl) ∙ front-nil

pub returns-then-class-eq0-clause-end : goal.returns-then-class-eq0-clause-end
returns-then-class-eq0-clause-end g c =
    let is = c.canonical_combining_class-class.ensures in let none = c.if-class-eq0.true in
    let start : class_of c.in_ok-mark.mark ≤ 0 = omega arith in
    λ _. ap front_marks c.in_ok-mark.ensures.next ∙ front-starter _ _ start
