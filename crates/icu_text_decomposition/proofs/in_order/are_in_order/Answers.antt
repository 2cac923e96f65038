use Rattle.std.proofs.Common.{◌≤◌, refl, ap, ◌∙◌, sym, arith}
use Rattle.ucd_normal.specs.CanonicalCombiningClass.{canonical_combining_class as class_of}
use Rattle.icu_text_decomposition.specs.inner.FrontMarks.{front_marks}
use Rattle.icu_text_decomposition.proofs.FrontMarkLemmas.{front-nil, front-starter, ordered_last, ordered_more}
use Rattle.icu_text_decomposition.proofs.in_order.are_in_order.Goals as goal

pub returns-then-next-eq0 : goal.returns-then-next-eq0
returns-then-next-eq0 g c =
    let is = c.canonical_combining_class-next.ensures in let none = c.if-next-eq0.true in
    let start : class_of c.in-Some.c ≤ 0 = omega arith in
    λ _. c.marks.invariant (λ last same. ordered_last last _ (ap front_marks c.in-Some.ensures.next ∙ front-starter _ _ start))

pub marks-preserved : goal.marks-preserved
marks-preserved g c = λ holds.
    c.marks.invariant (λ last same.
    ordered_more last c.in-Some.c _ _ _ _ c.in-Some.ensures.next c.canonical_combining_class-next.ensures c.if-next-eq0.false c.if-next-class.false same
    (holds c.in-Some.c (sym c.canonical_combining_class-next.ensures)))

pub returns : goal.returns
returns g c = λ _. c.marks.invariant (λ last same. ordered_last last _ (ap front_marks (c.in_default.ensures.end refl) ∙ front-nil))
