use Rattle.std.proofs.Common.{◌≤◌, ◌<◌, ◌≡◌, ap, min, ◌∙◌, sym, refl, arith}
use Rattle.ucd_normal.specs.CanonicalCombiningClass.{canonical_combining_class as class_of}
use Rattle.icu_text_decomposition.proofs.short_text.PartOrderLemmas.{pass_goes_on, pass_appends, ends_at_starter, ends_at_end}
use Rattle.icu_text_decomposition.proofs.short_text.class_order.push_class.Goals as goal

pub returns-then-own-eq0-clause-end : goal.returns-then-own-eq0-clause-end
returns-then-own-eq0-clause-end g c =
    let is = c.canonical_combining_class-own.ensures in let none = c.if-own-eq0.true in
    let start : class_of c.index-chars-count.result ≤ 0 = omega arith in
    ends_at_starter c.args.chars.now c.marks.count _ c.index-chars-count.result c.marks-test.true c.index-chars-count.is start

pub marks-preserved : goal.marks-preserved
marks-preserved g c =
    let mark = c.index-chars-count.result in
    let is : c.canonical_combining_class-own.result ≡ class_of mark = c.canonical_combining_class-own.ensures in
    let some = c.if-own-eq0.false in
    let above : 0 < class_of mark = omega arith in
    record {
      inside = omega (arith, c.marks-test.true);
      pass = pass_goes_on c.args.chars.now c.marks.count _ mark c.args.class _ _ c.marks-test.true c.index-chars-count.is c.marks.invariant.pass above
          (λ le. c.next_above-next.ensures.low (omega arith))
          (λ lt. c.next_above-next.ensures.high (omega arith) ∙ ap (min _) is);
      left = pass_appends c.args.chars.now _ _ _ c.marks.count _ mark c.args.class c.marks-test.true c.index-chars-count.is above
          (λ e. c.if-not-push_of_class.ensures.same refl (is ∙ e))
          (λ ne. c.push_of_class.ensures.other (λ e. ne (sym is ∙ e)))
          c.marks.invariant.left;
    }

pub returns-clause-end : goal.returns-clause-end
returns-clause-end g c = ends_at_end c.args.chars.now c.marks.count (omega (arith, c.marks-test.false))
