use Rattle.std.proofs.Common.{◌≡◌, ◌≢◌, ◌≤◌, ◌<◌, refl, sym, ◌∙◌, arith}
use Rattle.ucd_normal.specs.CanonicalCombiningClass.{canonical_combining_class as class_of}
use Rattle.icu_text_decomposition.proofs.PassLemmas.{given_first, given_other}
use Rattle.icu_text_decomposition.proofs.ClassPlaceLemmas.{none_at_end, none_at_starter}
use Rattle.icu_text_decomposition.proofs.found_mark.find_mark.Goals as goal

pub returns-in_err-mark-clause-none : goal.returns-in_err-mark-clause-none
returns-in_err-mark-clause-none g c = λ _. c.marks.invariant ∙ none_at_end _ _ (c.in_err-mark.ensures.end refl)

pub returns-then-next-eq0-clause-none : goal.returns-then-next-eq0-clause-none
returns-then-next-eq0-clause-none g c =
    let is = c.canonical_combining_class.ensures in let from = c.from-next.ensures in let zero = c.if-next-eq0.true in
    let start : class_of c.in_ok-mark.mark ≤ 0 = omega arith in
    λ _. c.marks.invariant ∙ none_at_starter _ c.in_ok-mark.mark _ _ c.in_ok-mark.ensures.next start

pub returns-then-next-class-clause-next : goal.returns-then-next-class-clause-next
returns-then-next-class-clause-next g c =
    let is = c.canonical_combining_class.ensures in let from = c.from-next.ensures in let some = c.if-next-eq0.false in let equal = c.if-next-class.true in
    let mark : 0 < class_of c.in_ok-mark.mark = omega arith in
    let same : class_of c.in_ok-mark.mark ≡ c.args.class = omega arith in
    c.marks.invariant ∙ given_first _ _ c.in_ok-mark.mark _ c.in_ok-mark.ensures.next mark same

pub marks-preserved : goal.marks-preserved
marks-preserved g c =
    let is = c.canonical_combining_class.ensures in let from = c.from-next.ensures in let some = c.if-next-eq0.false in let unlike = c.if-next-class.false in
    let mark : 0 < class_of c.in_ok-mark.mark = omega arith in
    let other : class_of c.in_ok-mark.mark ≢ c.args.class = λ e. unlike (from ∙ is ∙ e) in
    c.marks.invariant ∙ given_other _ _ c.in_ok-mark.mark _ c.in_ok-mark.ensures.next mark other
