-- The siblings are those of the tree.
use Rattle.std.proofs.Common.{ap, sym, ◌∙◌, take_while}
use Rattle.icu_rule_meaning.specs.declared.symbolic.SymbolicWeight.TheVariants.{Rooted}
use Rattle.icu_rule_meaning.specs.SymbolicElements.{has_tailored_weight}
use Rattle.icu_rule_meaning.specs.WeightTrees.{put_behind}
use Rattle.icu_rule_meaning.specs.RootPositions.{last_weight}
use Rattle.icu_rule_meaning.proofs.weight_tree.PositionLemmas.{none_put_behind}
use Rattle.icu_rule_meaning.proofs.weight_tree.tailored_siblings.last_behind.Goals as goal

pub returns-in-Some : goal.returns-in-Some
returns-in-Some c =
    c.last_behind.ensures
    ∙ ap (λ ys. last_weight (Rooted c.args.w) (take_while has_tailored_weight (put_behind (Rooted c.args.w) ys))) c.in-Some.ensures

pub returns-in-None : goal.returns-in-None
returns-in-None c =
    ap (λ ys. last_weight (Rooted c.args.w) (take_while has_tailored_weight ys))
    (sym (none_put_behind (Rooted c.args.w) c.args.above.now) ∙ ap (put_behind (Rooted c.args.w)) c.in-None.ensures)
