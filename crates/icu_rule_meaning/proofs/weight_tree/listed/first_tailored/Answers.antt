-- What is left of the siblings decides.
use Rattle.std.proofs.Common.{◌≡◌, false, ◌∷◌, ◌+◌, drop, get_or, sym, ◌∙◌}
use Rattle.std.proofs.lemmas.List.{at_drop_more}
use Rattle.icu_rule_meaning.specs.declared.symbolic.SymbolicWeight.TheVariants.{Rooted}
use Rattle.icu_rule_meaning.specs.SymbolicElements.{has_tailored_weight, is_same_weight}
use Rattle.icu_rule_meaning.specs.weight_tree.inner.TailoredSiblings.{first_of_tailored}
use Rattle.icu_rule_meaning.proofs.weight_tree.PositionLemmas.{first_passed, first_met, common_met}
use Rattle.icu_rule_meaning.proofs.weight_tree.listed.first_tailored.Goals as goal
use Rattle.icu_rule_meaning.proofs.weight_tree.listed.first_tailored.Goals.{then-is_tailored-via-then-is_tailored, then-is_tailored-via-else-is_tailored+then-is_same}

pub loop-w-preserved : goal.loop-w-preserved
loop-w-preserved c =
    let xs = c.args.weights.now in
    let i = c.loop-w.w-index in
    let w = get_or xs i (Rooted 0) in
    let rooted : has_tailored_weight w ≡ false = sym c.is_tailored.ensures ∙ c.if-is_tailored.false in
    let other : is_same_weight w c.args.common ≡ false = sym c.is_same.ensures ∙ c.if-is_same.false in
    first_passed c.args.common w (drop (i + 1) xs) rooted other
    ∙ sym (at_drop_more (first_of_tailored c.args.common) xs i (Rooted 0) c.loop-w-test.true)
    ∙ c.loop-w.invariant

pub returns-then-is_tailored : goal.returns-then-is_tailored
returns-then-is_tailored c =
    let xs = c.args.weights.now in
    let i = c.loop-w.w-index in
    let w = get_or xs i (Rooted 0) in
    let met : w ≡ first_of_tailored c.args.common (w ∷ drop (i + 1) xs) = elim c.then-is_tailored.branch [
      | then-is_tailored-via-then-is_tailored v ↦
          first_met c.args.common w (drop (i + 1) xs) (sym c.is_tailored.ensures ∙ v.if-is_tailored.true)
      | then-is_tailored-via-else-is_tailored+then-is_same v ↦
          common_met c.args.common w (drop (i + 1) xs) (sym v.is_same.ensures ∙ v.if-is_same.true)
    ] in
    met
    ∙ sym (at_drop_more (first_of_tailored c.args.common) xs i (Rooted 0) c.loop-w-test.true)
    ∙ c.loop-w.invariant
