-- The parents of the lists are those below which a tree has other weights than before any rule.
use Rattle.std.proofs.Common.{◌≡◌, ◌⊎◌, List, [], ◌∷◌, Some, None, if◌then◌else◌, inl, inr, refl, ap, sym, ◌∙◌}
use Rattle.std.proofs.lemmas.Bool.{cases_Bool}
use Rattle.std.specs.Map.{keys_of, lookup}
use Rattle.icu_rule_meaning.specs.declared.symbolic.SymbolicWeight.{SymbolicWeight}
use Rattle.icu_rule_meaning.proofs.TreeLemmas.{same_weights_are}
use Rattle.icu_rule_meaning.specs.declared.weight_tree.parents.Parents.{Parents}
use Rattle.icu_rule_meaning.specs.declared.weight_tree.siblings.Siblings.{Siblings}
use Rattle.icu_rule_meaning.specs.weight_tree.BuiltTrees.{parent_weights, are_parents, begun_siblings, tree_in, IsAmongParents, AreBegun}

among_or_none : (above : List SymbolicWeight) (es : List (Parents × Siblings))
    → IsAmongParents above (keys_of es) ⊎ (lookup (are_parents above) es ≡ None)
among_or_none above [] = inr refl
among_or_none above (e ∷ es) = elim (cases_Bool (are_parents above e.0)) [
  | inl t ↦ inl (inl (sym (same_weights_are above (parent_weights e.0) t)))
  | inr f ↦ (elim (among_or_none above es) [
    | inl among ↦ inl (inr among)
    | inr none ↦ inr (ap (λ b. if b then Some e.1 else lookup (are_parents above) es) f ∙ none)
  ])
]

pub are_begun : (es : List (Parents × Siblings)) → AreBegun (tree_in es) (keys_of es)
are_begun es above = elim (among_or_none above es) [
  | inl among ↦ inl among
  | inr none ↦ inr (ap (begun_siblings above) none)
]
