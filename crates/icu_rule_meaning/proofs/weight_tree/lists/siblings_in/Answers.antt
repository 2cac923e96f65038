-- The list that is found is that of the tree.
use Rattle.std.proofs.Common.{◌≡◌, subst, IfOk}
use Rattle.icu_rule_meaning.proofs.weight_tree.lists.siblings_in.Goals as goal

pub returns-in-Some : goal.returns-in-Some
returns-in-Some c = subst (λ ys. IfOk c.to_vec.result (λ v. v.items ≡ ys)) c.in-Some.ensures c.to_vec.ensures

pub returns-in-None : goal.returns-in-None
returns-in-None c = subst (λ ys. IfOk c.first_weights.result (λ v. v.items ≡ ys)) c.in-None.ensures c.first_weights.ensures
