-- What is left of the siblings decides.
use Rattle.std.proofs.Common.{◌≡◌, true, false, ◌+◌, drop, get_or, take_while, sym, ◌∙◌}
use Rattle.std.proofs.lemmas.List.{at_drop_more}
use Rattle.icu_rule_meaning.specs.declared.symbolic.SymbolicWeight.TheVariants.{Rooted}
use Rattle.icu_rule_meaning.specs.SymbolicElements.{has_tailored_weight}
use Rattle.icu_rule_meaning.specs.RootPositions.{last_weight}
use Rattle.icu_rule_meaning.proofs.weight_tree.PositionLemmas.{last_passed, last_ended}
use Rattle.icu_rule_meaning.proofs.weight_tree.listed.last_tailored.Goals as goal

pub loop-w-preserved : goal.loop-w-preserved
loop-w-preserved c =
    let xs = c.args.weights.now in
    let i = c.loop-w.w-index in
    let w = get_or xs i (Rooted 0) in
    let tailored : has_tailored_weight w ≡ true = sym c.is_tailored.ensures ∙ c.if-not-is_tailored.false in
    last_passed c.loop-w.last w (drop (i + 1) xs) tailored
    ∙ sym (at_drop_more (λ ys. last_weight c.loop-w.last (take_while has_tailored_weight ys)) xs i (Rooted 0) c.loop-w-test.true)
    ∙ c.loop-w.invariant

pub returns-then-not-is_tailored : goal.returns-then-not-is_tailored
returns-then-not-is_tailored c =
    let xs = c.args.weights.now in
    let i = c.loop-w.w-index in
    let w = get_or xs i (Rooted 0) in
    let rooted : has_tailored_weight w ≡ false = sym c.is_tailored.ensures ∙ c.if-not-is_tailored.true in
    sym (last_ended c.loop-w.last w (drop (i + 1) xs) rooted)
    ∙ sym (at_drop_more (λ ys. last_weight c.loop-w.last (take_while has_tailored_weight ys)) xs i (Rooted 0) c.loop-w-test.true)
    ∙ c.loop-w.invariant
