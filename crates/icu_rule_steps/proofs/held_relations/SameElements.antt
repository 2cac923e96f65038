-- Elements are compared weight by weight.
use Rattle.std.proofs.Common.{◌≡◌, Bool, true, ◌&&◌, List, refl, ap, ap₂, subst, ◌∙◌}
use Rattle.std.proofs.lemmas.Bool.{eq-eqb, eqb-true, and_parts}
use lib.Pointwise.{pointwise, pointwise_decides}
use Rattle.icu_rule_meaning.specs.declared.symbolic.SymbolicElement.{SymbolicElement}
use Rattle.icu_rule_meaning.specs.declared.symbolic.SymbolicWeight.{SymbolicWeight}
use Rattle.icu_rule_meaning.specs.declared.symbolic.SymbolicWeight.TheVariants.{Rooted, Tailored}
use Rattle.icu_rule_meaning.specs.contracts.symbolic.SymbolicElementPartialEq.TheImpl as element_eq
use Rattle.icu_rule_meaning.specs.contracts.symbolic.SymbolicWeightPartialEq.TheImpl as weight_eq

abbrev pub same_element : SymbolicElement → SymbolicElement → Bool
same_element = (element_eq.eq-value).it

abbrev same_weight : SymbolicWeight → SymbolicWeight → Bool
same_weight = (weight_eq.eq-value).it

own_weight : (w : SymbolicWeight) → same_weight w w ≡ true
own_weight (Rooted w) = eq-eqb w w refl
own_weight (Tailored k) = eq-eqb k k refl

tied_weights : (v w : SymbolicWeight) → same_weight v w ≡ true → v ≡ w
tied_weights (Rooted v) (Rooted w) h = ap Rooted (eqb-true v w h)
tied_weights (Tailored v) (Tailored w) h = ap Tailored (eqb-true v w h)
tied_weights (Rooted v) (Tailored w) h = cc
tied_weights (Tailored v) (Rooted w) h = cc

weight_decides : (v w : SymbolicWeight) → (same_weight v w ≡ true → v ≡ w) × (v ≡ w → same_weight v w ≡ true)
weight_decides v w = (tied_weights v w, λ e. subst (λ x. same_weight v x ≡ true) e (own_weight v))

own_element : (x : SymbolicElement) → same_element x x ≡ true
own_element x =
    ap₂ (λ a b. a && b) ((pointwise_decides weight_decides x.weights x.weights).1 refl)
    (ap₂ (λ a b. a && b) (eq-eqb x.strength x.strength refl) (eq-eqb x.case_bits x.case_bits refl))

tied_elements : (x y : SymbolicElement) → same_element x y ≡ true → x ≡ y
tied_elements x y h =
    let parts = and_parts (pointwise same_weight x.weights y.weights) _ h in
    let rest = and_parts _ _ parts.1 in
    ap (λ (ws : List SymbolicWeight). let z : SymbolicElement = record { weights = ws; strength = x.strength; case_bits = x.case_bits } in z)
    ((pointwise_decides weight_decides x.weights y.weights).0 parts.0)
    ∙ ap (λ s. let z : SymbolicElement = record { weights = y.weights; strength = s; case_bits = x.case_bits } in z) (eqb-true x.strength y.strength rest.0)
    ∙ ap (λ b. let z : SymbolicElement = record { weights = y.weights; strength = y.strength; case_bits = b } in z) (eqb-true x.case_bits y.case_bits rest.1)

element_decides : (x y : SymbolicElement) → (same_element x y ≡ true → x ≡ y) × (x ≡ y → same_element x y ≡ true)
element_decides x y = (tied_elements x y, λ e. subst (λ z. same_element x z ≡ true) e (own_element x))

-- lists of elements are equal where a comparison says so, and only there
pub lists_decide : (xs ys zs : List SymbolicElement) (b : Bool) → b ≡ pointwise same_element xs ys → xs ≡ zs
    → (b ≡ true → zs ≡ ys) × (zs ≡ ys → b ≡ true)
lists_decide xs ys zs b is same = (
  λ h. (λ (e : xs ≡ zs). subst (λ (l : List SymbolicElement). l ≡ ys) e ((pointwise_decides element_decides xs ys).0 (subst (λ c. c ≡ true) is h))) same,
  λ e. is ∙ (pointwise_decides element_decides xs ys).1 (same ∙ e),
)
