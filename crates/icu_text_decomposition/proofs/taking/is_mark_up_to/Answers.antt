use Rattle.std.proofs.Common.{◌≡◌, ◌≤◌, ◌<◌, ◌+◌, nat_eq, nat_le, arith}
use Rattle.std.proofs.lemmas.Bool.Decides.{nat_tests}
use Rattle.ucd_normal.specs.CanonicalCombiningClass.{canonical_combining_class as class_of}
use Rattle.icu_text_decomposition.proofs.BeginningMarkLemmas.{above-starter, above-higher}
use Rattle.icu_text_decomposition.proofs.taking.is_mark_up_to.Goals as goal

pub returns-then-own-ne0 : goal.returns-then-own-ne0
returns-then-own-ne0 c = λ no cs.
    let is = c.canonical_combining_class-own.ensures in
    let high : c.args.class < c.canonical_combining_class-own.result = grind (arith, nat_tests, no) in
    let above : c.args.class + 1 ≤ class_of c.args.c = omega arith in
    above-higher _ c.args.c cs above

pub returns-else-own-ne0 : goal.returns-else-own-ne0
returns-else-own-ne0 c = λ _ cs.
    let is = c.canonical_combining_class-own.ensures in
    let zero : c.canonical_combining_class-own.result ≡ 0 = grind (arith, nat_tests, c.if-own-ne0.false) in
    let start : class_of c.args.c ≤ 0 = omega arith in
    above-starter _ c.args.c cs start
