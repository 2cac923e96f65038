use Rattle.std.proofs.Common.{◌≡◌, ◌<◌, ◌≤◌, ◌+◌, ◌∷◌, ◌++◌, ℕ, refl, sym, ap, subst, ◌∙◌, arith}
use Rattle.icu_text_decomposition.specs.MarkClasses.{of_class}
use Rattle.icu_text_decomposition.specs.inner.ClassNumbers.{next_used_class}
use Rattle.icu_text_decomposition.specs.inner.ClassPlaces.{marks_from}
use Rattle.icu_text_decomposition.specs.inner.FrontMarks.{front_marks}
use Rattle.icu_text_decomposition.specs.inner.Parts.{parts_left}
use Rattle.icu_text_decomposition.proofs.ClassNumberLemmas.{next_above, next_limit}
use Rattle.icu_text_decomposition.proofs.ClassPlaceLemmas.{from_none, from_some, from_end}
use Rattle.icu_text_decomposition.proofs.class_places.ClassPlaces.first_from.Goals as goal

pub returns-in-Some-clause-some : goal.returns-in-Some-clause-some
returns-in-Some-clause-some g c =
    let text = g.T.EncodedText.text in
    let small : c.classes.class < 256 = omega arith in
    let all : ℕ → Type 0 = λ n. marks_from text c.args.self.now c.args.from ≡ c.in-Some.found.mark ∷ (of_class n (front_marks (parts_left text c.in-Some.found.after)) ++ marks_from text c.args.self.now (n + 1)) in
    subst all (sym c.in-Some.ensures.class)
    (c.classes.invariant.left ∙ from_some _ _ c.classes.class c.in-Some.found.mark _ small c.in-Some.ensures.some)

pub classes-preserved : goal.classes-preserved
classes-preserved g c =
    let small : c.classes.class < 256 = omega arith in
    let low = c.classes.invariant.low in
    let above = next_above c.classes.class small in
    let next = c.next_used_class-class.ensures in
    record {
      low = omega arith;
      limit = subst (λ n. n ≤ 256) (sym next) (next_limit c.classes.class small);
      left = c.classes.invariant.left ∙ from_none _ _ c.classes.class small (c.in_default.ensures.none refl) ∙ ap (marks_from g.T.EncodedText.text c.args.self.now) (sym next);
    }

pub classes-smaller : goal.classes-smaller
classes-smaller g c =
    let small : c.classes.class < 256 = omega arith in
    let above = next_above c.classes.class small in
    let next = c.next_used_class-class.ensures in
    omega arith

pub returns-clause-none : goal.returns-clause-none
returns-clause-none g c = λ _.
    let limit = c.classes.invariant.limit in
    let last : c.classes.class ≡ 256 = omega arith in
    c.classes.invariant.left ∙ ap (marks_from g.T.EncodedText.text c.args.self.now) last ∙ from_end _ _
