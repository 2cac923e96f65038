-- Weights put into a tree one after another.
use Rattle.std.proofs.Common.{◌≡◌, ℕ, suc, ◌+◌, ◌-◌, ◌<◌, ◌≤◌, List, [], ◌∷◌, ◌++◌, length, take, drop, get_or, ap, sym, ◌∙◌, arith, drop-cons}
use Rattle.std.proofs.lemmas.List.{take_more, drop_all}
use Rattle.icu_rule_meaning.specs.declared.symbolic.SymbolicWeight.{SymbolicWeight}
use Rattle.icu_rule_meaning.specs.declared.symbolic.SymbolicWeight.TheVariants.{Rooted, Tailored}
use Rattle.icu_rule_meaning.specs.WeightTrees.{WeightTree, with_siblings, with_behind, with_weight, with_weights, with_new_weight}

-- the tree once the weights from a place on are put into it
abbrev pub put_from : WeightTree → List SymbolicWeight → ℕ → WeightTree
put_from tree weights i = with_weights tree (take i weights) (drop i weights)

pub put_further : (tree later : WeightTree) (weights : List SymbolicWeight) (i : ℕ) (w : SymbolicWeight) → i < length weights
    → w ≡ get_or weights i w → later ≡ with_weight tree (take i weights) w
    → put_from later weights (i + 1) ≡ put_from tree weights i
unfolding with_weights
put_further tree later weights i w small at is =
    let next : i + 1 ≡ suc i = omega arith in
    let front : take (i + 1) weights ≡ take i weights ++ w ∷ [] =
    take_more weights i w small ∙ ap (λ v. take i weights ++ v ∷ []) (sym at) in
    let rest : drop i weights ≡ w ∷ drop (i + 1) weights =
    drop-cons weights i w small ∙ (ap (λ v. v ∷ drop (suc i) weights) (sym at) ∙ ap (λ n. w ∷ drop n weights) (sym next)) in
    ap (λ t. with_weights t (take (i + 1) weights) (drop (i + 1) weights)) is
    ∙ (ap (λ a. with_weights (with_weight tree (take i weights) w) a (drop (i + 1) weights)) front
    ∙ ap (with_weights tree (take i weights)) (sym rest))

pub put_at_end : (tree : WeightTree) (weights : List SymbolicWeight) (i : ℕ) → length weights ≤ i → put_from tree weights i ≡ tree
unfolding with_weights
put_at_end tree weights i most = ap (with_weights tree (take i weights)) (drop_all i weights most)

-- a new weight that is put behind another, once that one and those above it stand in their places
pub put_new : (tree placed later : WeightTree) (weights : List SymbolicWeight) (level count made : ℕ) → count ≡ level
    → placed ≡ with_weights tree [] (take count weights)
    → later ≡ with_siblings placed (take (count - 1) weights)
    (with_behind (get_or weights (count - 1) (Rooted 0)) (Tailored made) (placed (take (count - 1) weights)))
    → later ≡ with_new_weight tree level weights (Tailored made)
put_new tree placed later weights level count made same front is =
    is ∙ (ap (λ (t : WeightTree). with_siblings t (take (count - 1) weights)
    (with_behind (get_or weights (count - 1) (Rooted 0)) (Tailored made) (t (take (count - 1) weights)))) front
    ∙ ap (λ n. with_new_weight tree n weights (Tailored made)) same)
