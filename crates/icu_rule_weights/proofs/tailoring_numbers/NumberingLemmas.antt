-- Numbers that ascend below all parents that were begun number the tree.
use Rattle.std.proofs.Common.{◌≡◌, ℕ, true, ◌<◌, ◌⊎◌, inl, inr, List, [], ◌∷◌, ◌++◌, refl, sym, ap, ◌∙◌, subst}
use Rattle.icu_rule_meaning.specs.declared.symbolic.SymbolicWeight.{SymbolicWeight}
use Rattle.icu_rule_meaning.specs.declared.symbolic.SymbolicWeight.TheVariants.{Rooted}
use Rattle.icu_rule_meaning.specs.TailoredRoots.{Root}
use Rattle.icu_rule_meaning.specs.WeightTrees.{WeightTree, first_tree}
use Rattle.icu_rule_meaning.specs.SymbolicOrders.{IsOrderedBefore, NumbersTree}
use Rattle.icu_rule_meaning.specs.declared.weight_tree.parents.Parents.{Parents}
use Rattle.icu_rule_meaning.specs.weight_tree.BuiltTrees.{parent_weights, IsAmongParents, AreBegun}
use Rattle.icu_rule_weights.specs.declared.tailoring_numbers.tailoring_numbers.TailoringNumbers.{TailoringNumbers}
use Rattle.icu_rule_weights.specs.tailoring_numbers.Numberings.{number_of, numbering_of, AscendAmong}
use Rattle.icu_rule_weights.specs.tailoring_numbers.inner.AscendingTests.{ascend_all, AscendBelow}
use Rattle.icu_rule_weights.proofs.tailoring_numbers.AscendingNumberLemmas.{all_ascend}

pub last_number : (t : TailoringNumbers) (above : List SymbolicWeight) (w : SymbolicWeight)
    → numbering_of t (above ++ w ∷ []) ≡ number_of t w
last_number t [] w = refl
last_number t (v ∷ []) w = refl
last_number t (v ∷ u ∷ above) w = last_number t (u ∷ above) w

-- numbers that ascend everywhere number a tree
pub numbers_by : (t : TailoringNumbers) (tree : WeightTree) → ((above : List SymbolicWeight) → AscendAmong t (tree above))
    → NumbersTree tree (numbering_of t)
numbers_by t tree everywhere = record {
  zero = λ above. last_number t above (Rooted 0);
  ascends = λ above v w before.
      subst (λ n. n < numbering_of t (above ++ w ∷ [])) (sym (last_number t above v))
      (subst (λ n. number_of t v < n) (sym (last_number t above w)) (everywhere above v w before));
}

none_in_first : (above : List SymbolicWeight) (v w : SymbolicWeight) → IsOrderedBefore v w (first_tree above) → ⊥
none_in_first [] v w before = before
none_in_first (u ∷ above) v w (inl (is, among)) = among
none_in_first (u ∷ above) v w (inr before) = before

pub among_begun : (root : Root) (t : TailoringNumbers) (tree : WeightTree) (begun : List Parents) (above : List SymbolicWeight)
    → AscendBelow root t tree begun → IsAmongParents above begun → ascend_all root above t (tree above) ≡ true
among_begun root t tree [] above ascend among = absurd among
among_begun root t tree (p ∷ begun) above ascend (inl is) = subst (λ ws. ascend_all root ws t (tree ws) ≡ true) is ascend.0
among_begun root t tree (p ∷ begun) above ascend (inr among) = among_begun root t tree begun above ascend.1 among

pub ascends_everywhere : (root : Root) (t : TailoringNumbers) (tree : WeightTree) (begun : List Parents) → AreBegun tree begun
    → AscendBelow root t tree begun → (above : List SymbolicWeight) → AscendAmong t (tree above)
ascends_everywhere root t tree begun are ascend above = elim (are above) [
  | inl among ↦ all_ascend root above t (tree above) (among_begun root t tree begun above ascend among)
  | inr first ↦ (λ v w before. absurd (none_in_first above v w (subst (IsOrderedBefore v w) first before)))
]

pub numbers_tree : (root : Root) (t : TailoringNumbers) (tree : WeightTree) (begun : List Parents) → AreBegun tree begun
    → AscendBelow root t tree begun → NumbersTree tree (numbering_of t)
numbers_tree root t tree begun are ascend = numbers_by t tree (ascends_everywhere root t tree begun are ascend)
