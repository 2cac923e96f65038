-- The search ends at the place.
use Rattle.std.proofs.Common.{length, sym, ◌∙◌, arith}
use Rattle.icu_rule_meaning.specs.declared.symbolic.SymbolicWeight.TheVariants.{Rooted}
use Rattle.icu_rule_meaning.specs.SymbolicElements.{is_same_weight}
use Rattle.icu_rule_meaning.proofs.weight_tree.SiblingLemmas.{place_is}
use Rattle.icu_rule_meaning.proofs.weight_tree.listed.search_first.Goals as goal

pub returns-then-is_same : goal.returns-then-is_same
returns-then-is_same c =
    sym (place_is (λ v. is_same_weight v c.args.w) c.args.weights.now c.loop-i.i (Rooted 0) (omega arith)
    c.loop-i.invariant.1 (λ small. sym c.is_same.ensures ∙ c.if-is_same.true))

pub returns : goal.returns
returns c =
    sym (place_is (λ v. is_same_weight v c.args.w) c.args.weights.now (length c.args.weights.now) (Rooted 0) (omega arith)
    (λ k small. c.loop-i.invariant.1 k (omega arith)) (λ less. absurd (omega arith)))
