-- The search ends at the place.
use Rattle.std.proofs.Common.{length, sym, ◌∙◌, arith}
use Rattle.icu_rule_meaning.specs.declared.symbolic.SymbolicWeight.TheVariants.{Rooted}
use Rattle.icu_rule_meaning.specs.weight_tree.inner.SiblingPlaces.{ends_search}
use Rattle.icu_rule_meaning.proofs.weight_tree.SiblingLemmas.{place_is}
use Rattle.icu_rule_meaning.proofs.weight_tree.listed.search_place.Goals as goal

pub returns-then-ends : goal.returns-then-ends
returns-then-ends c =
    sym (place_is (ends_search c.args.w) c.args.weights.now c.loop-i.i (Rooted 0) (omega arith) c.loop-i.invariant.1
    (λ small. sym c.ends.ensures ∙ c.if-ends.true))

pub returns : goal.returns
returns c =
    sym (place_is (ends_search c.args.w) c.args.weights.now (length c.args.weights.now) (Rooted 0) (omega arith)
    (λ k small. c.loop-i.invariant.1 k (omega arith)) (λ less. absurd (omega arith)))
