-- Parents that a map takes as the same are the same.
use Rattle.std.proofs.Common.{◌≡◌, ℕ, true, List, refl, ap, sym, ◌∙◌}
use Rattle.std.specs.Ordering.{is_eq, ordering_then, nat_cmp}
use Rattle.std.specs.Cmp.{unsigned_tied}
use Rattle.std.proofs.lemmas.Bool.{eqb-true}
use Rattle.std.proofs.lemmas.Cmp.{tied_itself}
use Rattle.std.specs.declared.cmp.Ordering.{Ordering}
use Rattle.std.specs.declared.cmp.Ordering.TheVariants.{Less, Equal, Greater}
use Rattle.icu_rule_meaning.specs.declared.symbolic.SymbolicWeight.{SymbolicWeight}
use Rattle.icu_rule_meaning.specs.declared.symbolic.SymbolicWeight.TheVariants.{Rooted, Tailored}
use Rattle.icu_rule_meaning.specs.contracts.symbolic.SymbolicWeightOrd.TheImpl as weight_ord
use Rattle.icu_rule_meaning.specs.declared.weight_tree.parents.Parents.{Parents}
use Rattle.icu_rule_meaning.specs.declared.weight_tree.parents.Parents.TheVariants.{Nothing, Primary, Secondary, Tertiary}
use Rattle.icu_rule_meaning.specs.contracts.weight_tree.parents.ParentsOrd.TheImpl as parents_ord
use Rattle.icu_rule_meaning.specs.contracts.weight_tree.parents.ParentsOrd.TheImpl.Laws.{total-law}
use Rattle.icu_rule_meaning.proofs.TreeLemmas.{same_weights_are}
use Rattle.icu_rule_meaning.specs.weight_tree.BuiltTrees.{parent_weights, are_parents}

abbrev pub parents_order : Parents → Parents → Ordering
parents_order = (parents_ord.ghosts).cmp

abbrev pub weight_order : SymbolicWeight → SymbolicWeight → Ordering
weight_order = (weight_ord.ghosts).cmp

numbers_tie : (v w : ℕ) → is_eq (nat_cmp v w) ≡ true → w ≡ v
numbers_tie v w e = sym (eqb-true v w (sym (unsigned_tied v w) ∙ e))

then_ties : (r o : Ordering) → is_eq (ordering_then r o) ≡ true → (is_eq r ≡ true) × (is_eq o ≡ true)
then_ties Less o e = cc
then_ties Equal o e = (refl, e)
then_ties Greater o e = cc

weights_tie : (v w : SymbolicWeight) → is_eq (weight_order v w) ≡ true → w ≡ v
weights_tie (Rooted v) (Rooted w) e = ap Rooted (numbers_tie v w e)
weights_tie (Rooted v) (Tailored w) e = cc
weights_tie (Tailored v) (Rooted w) e = cc
weights_tie (Tailored v) (Tailored w) e = ap Tailored (numbers_tie v w e)

pub parents_tie : (k q : Parents) → is_eq (parents_order k q) ≡ true → q ≡ k
parents_tie Nothing Nothing e = refl
parents_tie (Primary p) (Primary q) e = ap Primary (weights_tie p q e)
parents_tie (Secondary p s) (Secondary q t) e =
    let (first, second) = then_ties (weight_order p q) (weight_order s t) e in
    cc (weights_tie p q first, weights_tie s t second)
parents_tie (Tertiary p s t) (Tertiary q u v) e =
    let (first, rest) = then_ties (weight_order p q) (ordering_then (weight_order s u) (weight_order t v)) e in
    let (second, third) = then_ties (weight_order s u) (weight_order t v) rest in
    cc (weights_tie p q first, weights_tie s u second, weights_tie t v third)
parents_tie Nothing (Primary q) e = cc
parents_tie Nothing (Secondary q t) e = cc
parents_tie Nothing (Tertiary q u v) e = cc
parents_tie (Primary p) Nothing e = cc
parents_tie (Primary p) (Secondary q t) e = cc
parents_tie (Primary p) (Tertiary q u v) e = cc
parents_tie (Secondary p s) Nothing e = cc
parents_tie (Secondary p s) (Primary q) e = cc
parents_tie (Secondary p s) (Tertiary q u v) e = cc
parents_tie (Tertiary p s t) Nothing e = cc
parents_tie (Tertiary p s t) (Primary q) e = cc
parents_tie (Tertiary p s t) (Secondary q u) e = cc

pub parents_tie_themselves : (k : Parents) → is_eq (parents_order k k) ≡ true
parents_tie_themselves k = ap is_eq (tied_itself total-law k)

-- parents are those whose weights they have
pub same_parents : (k q : Parents) → parent_weights k ≡ parent_weights q → k ≡ q
same_parents Nothing Nothing e = refl
same_parents (Primary p) (Primary q) e = cc
same_parents (Secondary p s) (Secondary q t) e = cc
same_parents (Tertiary p s t) (Tertiary q u v) e = cc
same_parents Nothing (Primary q) e = cc
same_parents Nothing (Secondary q t) e = cc
same_parents Nothing (Tertiary q u v) e = cc
same_parents (Primary p) Nothing e = cc
same_parents (Primary p) (Secondary q t) e = cc
same_parents (Primary p) (Tertiary q u v) e = cc
same_parents (Secondary p s) Nothing e = cc
same_parents (Secondary p s) (Primary q) e = cc
same_parents (Secondary p s) (Tertiary q u v) e = cc
same_parents (Tertiary p s t) Nothing e = cc
same_parents (Tertiary p s t) (Primary q) e = cc
same_parents (Tertiary p s t) (Secondary q u) e = cc

-- two parents of the same weights are the same
pub one_parent : (above : List SymbolicWeight) (k q : Parents) → are_parents above q ≡ true → are_parents above k ≡ true → q ≡ k
one_parent above k q a b =
    same_parents q k (sym (same_weights_are above (parent_weights q) a) ∙ same_weights_are above (parent_weights k) b)
