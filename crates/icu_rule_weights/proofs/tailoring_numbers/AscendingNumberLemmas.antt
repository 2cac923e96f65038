-- Numbers that ascend from one of the siblings to the next ascend among all of them.
use Rattle.std.proofs.Common.{◌≡◌, ℕ, Bool, true, false, ◌+◌, ◌<◌, ◌&&◌, nat_lt, inl, inr, List, [], ◌∷◌, ◌++◌, Option, refl, sym, ap, subst, arith}
use Rattle.std.proofs.lemmas.Bool.{and_parts, ltb-true}
use Rattle.icu_rule_meaning.specs.declared.symbolic.SymbolicWeight.{SymbolicWeight}
use Rattle.icu_rule_meaning.specs.declared.symbolic.SymbolicWeight.TheVariants.{Rooted, Tailored}
use Rattle.icu_rule_meaning.specs.TailoredRoots.{Root}
use Rattle.icu_rule_meaning.specs.SymbolicOrders.{IsAmongWeights, IsOrderedBefore}
use Rattle.icu_rule_meaning.specs.WeightTrees.{WeightTree}
use Rattle.icu_rule_meaning.specs.declared.weight_tree.parents.Parents.{Parents}
use Rattle.icu_rule_meaning.specs.weight_tree.BuiltTrees.{parent_weights}
use Rattle.icu_rule_weights.specs.declared.tailoring_numbers.tailoring_numbers.TailoringNumbers.{TailoringNumbers}
use Rattle.icu_rule_weights.specs.tailoring_numbers.Numberings.{number_of, AscendAmong}
use Rattle.icu_rule_weights.specs.tailoring_numbers.RootNeighbours.{next_of_root}
use Rattle.icu_rule_weights.specs.tailoring_numbers.inner.AscendingTests.{stands_below, next_behind, ascend_above, ascend_all, AscendBelow}

module _ (root : Root) (above : List SymbolicWeight) (t : TailoringNumbers) where
  -- ---- turns of the loop

  pub ascend_more : (last : ℕ) (next : Option ℕ) (w : SymbolicWeight) (ws : List SymbolicWeight)
      → (nat_lt last (number_of t w) && stands_below w next (number_of t w)) ≡ true
      → ascend_above root above t (number_of t w) (next_behind root above w next) ws ≡ ascend_above root above t last next (w ∷ ws)
  unfolding ascend_above
  ascend_more last next w ws follows = rw (follows, ascend_above) refl

  pub ascend_ended : (last : ℕ) (next : Option ℕ) (w : SymbolicWeight) (ws : List SymbolicWeight)
      → (nat_lt last (number_of t w) && stands_below w next (number_of t w)) ≡ false
      → false ≡ ascend_above root above t last next (w ∷ ws)
  unfolding ascend_above
  ascend_ended last next w ws not_so = rw (not_so, ascend_above) refl

  pub ascend_none : (last : ℕ) (next : Option ℕ) → true ≡ ascend_above root above t last next []
  unfolding ascend_above
  ascend_none last next = refl

  -- ---- what they say

  pub record Parts (last : ℕ) (next : Option ℕ) (w : SymbolicWeight) (ws : List SymbolicWeight) : Type 0 where
    pub less : last < number_of t w
    pub below : stands_below w next (number_of t w) ≡ true
    pub rest : ascend_above root above t (number_of t w) (next_behind root above w next) ws ≡ true

  pub parts : (last : ℕ) (next : Option ℕ) (w : SymbolicWeight) (ws : List SymbolicWeight)
      → ascend_above root above t last next (w ∷ ws) ≡ true → Parts last next w ws
  unfolding ascend_above
  parts last next w ws e =
      let tests : Bool = nat_lt last (number_of t w) && stands_below w next (number_of t w) in
      let (first, rest) = and_parts tests (ascend_above root above t (number_of t w) (next_behind root above w next) ws) e in
      let (less, below) = and_parts (nat_lt last (number_of t w)) (stands_below w next (number_of t w)) first in
      record { less = ltb-true last (number_of t w) less; below = below; rest = rest }

-- numbers ascend among siblings, all above a number
pub record Chain (t : TailoringNumbers) (last : ℕ) (ws : List SymbolicWeight) : Type 0 where
  pub over : (v : SymbolicWeight) → IsAmongWeights v ws → last < number_of t v
  pub ascends : AscendAmong t ws

pub chain_none : (t : TailoringNumbers) (last : ℕ) → Chain t last []
chain_none t last = record { over = λ v among. absurd among; ascends = λ v w before. absurd before }

pub ascend_cons : (t : TailoringNumbers) (w : SymbolicWeight) (ws : List SymbolicWeight) → Chain t (number_of t w) ws
    → AscendAmong t (w ∷ ws)
ascend_cons t w ws chain v x (inl (is, among)) = subst (λ y. number_of t y < number_of t x) is (chain.over x among)
ascend_cons t w ws chain v x (inr before) = chain.ascends v x before

over_cons : (t : TailoringNumbers) (last : ℕ) (w : SymbolicWeight) (ws : List SymbolicWeight) → last < number_of t w
    → Chain t (number_of t w) ws → (v : SymbolicWeight) → IsAmongWeights v (w ∷ ws) → last < number_of t v
over_cons t last w ws less chain v (inl is) = subst (λ x. last < number_of t x) is less
over_cons t last w ws less chain v (inr among) =
    let further : number_of t w < number_of t v = chain.over v among in
    omega (arith, less, further)

pub chain_cons : (t : TailoringNumbers) (last : ℕ) (w : SymbolicWeight) (ws : List SymbolicWeight) → last < number_of t w
    → Chain t (number_of t w) ws → Chain t last (w ∷ ws)
chain_cons t last w ws less chain = record { over = over_cons t last w ws less chain; ascends = ascend_cons t w ws chain }

pub chain_of : (root : Root) (above : List SymbolicWeight) (t : TailoringNumbers) (last : ℕ) (next : Option ℕ)
    (ws : List SymbolicWeight) → ascend_above root above t last next ws ≡ true → Chain t last ws
chain_of root above t last next [] e = chain_none t last
chain_of root above t last next (w ∷ ws) e =
    let p = parts root above t last next w ws e in
    chain_cons t last w ws p.less (chain_of root above t (number_of t w) (next_behind root above w next) ws p.rest)

pub all_ascend : (root : Root) (above : List SymbolicWeight) (t : TailoringNumbers) (ws : List SymbolicWeight)
    → ascend_all root above t ws ≡ true → AscendAmong t ws
all_ascend root above t [] e = (chain_none t 0).ascends
all_ascend root above t (Rooted u ∷ ws) e =
    ascend_cons t (Rooted u) ws (chain_of root above t u (next_of_root root above u) ws e)
all_ascend root above t (Tailored k ∷ ws) e = cc

-- ---- below parents

pub below_more : (root : Root) (t : TailoringNumbers) (tree : WeightTree) (ps : List Parents) (p : Parents)
    → AscendBelow root t tree ps → ascend_all root (parent_weights p) t (tree (parent_weights p)) ≡ true
    → AscendBelow root t tree (ps ++ p ∷ [])
below_more root t tree [] p all one = (one, tt)
below_more root t tree (q ∷ ps) p all one = (all.0, below_more root t tree ps p all.1 one)
