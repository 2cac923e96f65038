use Rattle.std.proofs.Common.{◌≡◌, ◌∷◌, ◌++◌, ◌==◌, ◌&&◌, [], true, false, bytes_eq, rules, arith, sym, ap, ◌∙◌}
use Rattle.std.proofs.lemmas.Bool.Decides.{nat_tests}
use Rattle.icu_rule_steps.proofs.symbolic_mappings.SuffixLemmas.{equal_behind}
use Rattle.icu_rule_steps.proofs.symbolic_mappings.mark_joining.is_with_mark.Goals as goal

pub returns-then-last-mark : goal.returns-then-last-mark
returns-then-last-mark c =
    let front = c.in-Some.front.now in
    let suffix = c.args.suffix.now in
    let split : c.args.longer.now ≡ front ++ c.in-Some.last.now ∷ [] = search rules in
    let equal : c.eq-equal.result ≡ bytes_eq front suffix = search rules in
    let same : (c.in-Some.last.now == c.args.mark) ≡ true = grind (arith, nat_tests) in
    equal ∙ sym (equal_behind c.args.longer.now front suffix c.in-Some.last.now c.args.mark split ∙ ap (λ b. b && bytes_eq front suffix) same)

pub returns-else-last-mark : goal.returns-else-last-mark
returns-else-last-mark c =
    let front = c.in-Some.front.now in
    let suffix = c.args.suffix.now in
    let split : c.args.longer.now ≡ front ++ c.in-Some.last.now ∷ [] = search rules in
    let differs : (c.in-Some.last.now == c.args.mark) ≡ false = grind (arith, nat_tests) in
    differs ∙ sym (equal_behind c.args.longer.now front suffix c.in-Some.last.now c.args.mark split ∙ ap (λ b. b && bytes_eq front suffix) differs)
