use Rattle.std.proofs.Common.{◌≡◌, ◌≤◌, ◌<◌, refl, sym, ap, ◌∙◌, arith}
use Rattle.ucd_normal.specs.CanonicalCombiningClass.{canonical_combining_class as class_of}
use Rattle.icu_text_decomposition.specs.inner.ClassPlaces.{places_of, found_left}
use Rattle.icu_text_decomposition.specs.inner.FrontMarks.{front_marks, past_marks}
use Rattle.icu_text_decomposition.specs.inner.Parts.{parts_left}
use Rattle.icu_text_decomposition.proofs.FrontMarkLemmas.{front-nil, front-starter, front_none, past-mark}
use Rattle.icu_text_decomposition.proofs.ClassPlaceLemmas.{place_found}
use Rattle.icu_text_decomposition.proofs.class_places.ClassPlaces.find.Goals as goal

pub marks-init : goal.marks-init
marks-init g c = record {
  left = λ k high. ap (λ o. found_left g.T.EncodedText.text k o (parts_left g.T.EncodedText.text c.args.run)) (c.new-places.ensures k);
  past = refl;
}

pub returns-in_default-clause-left : goal.returns-in_default-clause-left
returns-in_default-clause-left g c = λ k high.
    let none = ap front_marks (c.in_default.ensures.end refl) ∙ front-nil in
    place_found _ k (places_of c.marks.places k) _ none ∙ c.marks.invariant.left k high

pub returns-in_default-clause-past : goal.returns-in_default-clause-past
returns-in_default-clause-past g c =
    let none = ap front_marks (c.in_default.ensures.end refl) ∙ front-nil in
    sym (front_none _ none) ∙ c.marks.invariant.past

pub returns-in_default-clause-end : goal.returns-in_default-clause-end
returns-in_default-clause-end g c = ap front_marks (c.in_default.ensures.end refl) ∙ front-nil

pub returns-then-canonical_combining_class-eq0-clause-left :
    goal.returns-then-canonical_combining_class-eq0-clause-left
returns-then-canonical_combining_class-eq0-clause-left g c = λ k high.
    let is = c.canonical_combining_class.ensures in let zero = c.if-canonical_combining_class-eq0.true in
    let start : class_of c.in-Some.mark ≤ 0 = omega arith in
    let none = ap front_marks c.in-Some.ensures.next ∙ front-starter _ _ start in
    place_found _ k (places_of c.marks.places k) _ none ∙ c.marks.invariant.left k high

pub returns-then-canonical_combining_class-eq0-clause-past :
    goal.returns-then-canonical_combining_class-eq0-clause-past
returns-then-canonical_combining_class-eq0-clause-past g c =
    let is = c.canonical_combining_class.ensures in let zero = c.if-canonical_combining_class-eq0.true in
    let start : class_of c.in-Some.mark ≤ 0 = omega arith in
    let none = ap front_marks c.in-Some.ensures.next ∙ front-starter _ _ start in
    sym (front_none _ none) ∙ c.marks.invariant.past

pub returns-then-canonical_combining_class-eq0-clause-end :
    goal.returns-then-canonical_combining_class-eq0-clause-end
returns-then-canonical_combining_class-eq0-clause-end g c =
    let is = c.canonical_combining_class.ensures in let zero = c.if-canonical_combining_class-eq0.true in
    let start : class_of c.in-Some.mark ≤ 0 = omega arith in
    ap front_marks c.in-Some.ensures.next ∙ front-starter _ _ start

pub marks-preserved : goal.marks-preserved
marks-preserved g c =
    let is = c.canonical_combining_class.ensures in let some = c.if-canonical_combining_class-eq0.false in
    let mark : 0 < class_of c.in-Some.mark = omega arith in
    record {
      left = λ k high. c.add.ensures k high ∙ c.marks.invariant.left k high;
      past = sym (past-mark c.in-Some.mark _ mark) ∙ ap past_marks (sym c.in-Some.ensures.next) ∙ c.marks.invariant.past;
    }
