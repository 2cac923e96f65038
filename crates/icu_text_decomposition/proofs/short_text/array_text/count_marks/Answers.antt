use Rattle.std.proofs.Common.{◌≡◌, ◌+◌, ◌∙◌, [], length, drop, ap, arith}
use Rattle.std.proofs.lemmas.List.{drop_all}
use Rattle.icu_text_decomposition.specs.UnreadTexts.{marks_up_to}
use Rattle.icu_text_decomposition.proofs.short_text.array_text.count_marks.Goals as goal

pub returns : goal.returns
unfolding marks_up_to
returns c =
    let none : drop c.marks.count c.args.chars.now ≡ [] = drop_all c.marks.count c.args.chars.now (omega arith) in
    let all = c.marks.invariant.1 ∙ ap (λ l. c.marks.count + length (marks_up_to c.args.class l)) none in
    omega (arith, all)
