use Rattle.std.proofs.Common.{◌<◌, ◌≤◌, ◌∷◌, refl, ap, ◌∙◌, sym, arith}
use Rattle.ucd_normal.specs.CanonicalCombiningClass.{canonical_combining_class as class_of}
use Rattle.unicode_normalization.specs.Order.{is_ordered, canonical_order}
use Rattle.unicode_normalization.proofs.OrderLemmas.{canonical_order-nil}
use Rattle.icu_text_decomposition.specs.inner.FrontMarks.{front_marks}
use Rattle.icu_text_decomposition.specs.inner.OrderedParts.{left_at}
use Rattle.icu_text_decomposition.specs.inner.Parts.{parts_left}
use Rattle.icu_text_decomposition.proofs.FrontMarkLemmas.{order-starter, order-ordered, ordered_rest}
use Rattle.icu_text_decomposition.proofs.ordered_parts.OrderedParts.next_in_place.Goals as goal

pub returns-in_err-c-clause-end : goal.returns-in_err-c-clause-end
returns-in_err-c-clause-end g c = λ _.
    ap (left_at g.T.EncodedText.text (parts_left g.T.EncodedText.text c.args.self.now.parts)) c.requires.pass
    ∙ ap canonical_order (c.in_err-c.ensures.end refl) ∙ canonical_order-nil

pub returns-then-canonical_combining_class-eq0-clause-next :
    goal.returns-then-canonical_combining_class-eq0-clause-next
returns-then-canonical_combining_class-eq0-clause-next g c =
    let is = c.canonical_combining_class.ensures in let none = c.if-canonical_combining_class-eq0.true in
    let start : class_of c.in_ok-c.c ≤ 0 = omega arith in
    let left = left_at g.T.EncodedText.text in
    let rest = parts_left g.T.EncodedText.text c.next.new.self in
    ap (left (parts_left g.T.EncodedText.text c.args.self.now.parts)) c.requires.pass
    ∙ ap canonical_order c.in_ok-c.ensures.next ∙ order-starter c.in_ok-c.c rest start
    ∙ ap (λ pass. c.in_ok-c.c ∷ left rest pass) (sym c.requires.pass)

pub returns-then-stays-clause-place : goal.returns-then-stays-clause-place
returns-then-stays-clause-place g c =
    let is = c.canonical_combining_class.ensures in let some = c.if-canonical_combining_class-eq0.false in
    let mark : 0 < class_of c.in_ok-c.c = omega arith in
    let stays = c.if-stays.ensures refl in
    record {
      in_order = λ _. ordered_rest c.in_ok-c.c _ mark (ap (λ l. is_ordered (front_marks l)) (sym c.in_ok-c.ensures.next) ∙ stays);
      pass = c.requires.place.pass;
    }

pub returns-then-stays-clause-next : goal.returns-then-stays-clause-next
returns-then-stays-clause-next g c =
    let is = c.canonical_combining_class.ensures in let some = c.if-canonical_combining_class-eq0.false in
    let mark : 0 < class_of c.in_ok-c.c = omega arith in
    let stays = c.if-stays.ensures refl in
    let left = left_at g.T.EncodedText.text in
    let rest = parts_left g.T.EncodedText.text c.next.new.self in
    ap (left (parts_left g.T.EncodedText.text c.args.self.now.parts)) c.requires.pass
    ∙ ap canonical_order c.in_ok-c.ensures.next
    ∙ order-ordered c.in_ok-c.c rest mark (ap (λ l. is_ordered (front_marks l)) (sym c.in_ok-c.ensures.next) ∙ stays)
    ∙ ap (λ pass. c.in_ok-c.c ∷ left rest pass) (sym c.requires.pass)
