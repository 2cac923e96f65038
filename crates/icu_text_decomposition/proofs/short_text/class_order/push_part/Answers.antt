use Rattle.std.proofs.Common.{◌≤◌, ◌<◌, refl, arith}
use Rattle.ucd_normal.specs.CanonicalCombiningClass.{canonical_combining_class as class_of}
use Rattle.icu_text_decomposition.proofs.short_text.PartOrderLemmas.{run_has_some, starter_appended}
use Rattle.icu_text_decomposition.proofs.short_text.class_order.push_part.Goals as goal

pub returns-then-canonical_combining_class-ne0-clause-some :
    goal.returns-then-canonical_combining_class-ne0-clause-some
returns-then-canonical_combining_class-ne0-clause-some g c =
    let is = c.canonical_combining_class.ensures in let some = c.if-canonical_combining_class-ne0.true in
    let mark : 0 < class_of c.index-chars-0.result = omega arith in
    (run_has_some c.args.chars.now _ c.index-chars-0.result c.in_ok-count.count c.requires c.index-chars-0.is mark c.in_ok-count.ensures.end, c.in_ok-count.ensures.inside)

pub returns-clause-left : goal.returns-clause-left
returns-clause-left g c =
    let is = c.canonical_combining_class.ensures in let none = c.if-canonical_combining_class-ne0.false in
    let start : class_of c.index-chars-0.result ≤ 0 = omega arith in
    starter_appended c.args.chars.now _ _ _ c.index-chars-0.result c.requires c.index-chars-0.is start (c.if-not-append.ensures refl)
