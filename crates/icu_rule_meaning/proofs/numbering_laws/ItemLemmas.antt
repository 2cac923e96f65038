-- Weights that count at a level, each with those of the levels before, in the order of two numberings.
use Rattle.std.proofs.Common.{◌≡◌, ℕ, ◌<◌, ◌⊎◌, inl, inr, Bool, true, false, not, List, [], ◌∷◌, ◌++◌, length, map, if◌then◌else◌, refl, ap, sym, subst, ◌∙◌}
use Rattle.std.specs.List.{AllByRecursion}
use Rattle.std.specs.declared.cmp.Ordering.{Ordering}
use Rattle.std.specs.declared.cmp.Ordering.TheVariants.{Less, Equal, Greater}
use Rattle.std.proofs.lemmas.Bool.{cases_Bool}
use Rattle.icu_order_levels.specs.ListOrder.{list_order}
use Rattle.icu_order_levels.proofs.Order.{less_head, alike_head, turned}
use Rattle.icu_rule_meaning.specs.declared.symbolic.SymbolicWeight.{SymbolicWeight}
use Rattle.icu_rule_meaning.specs.declared.symbolic.SymbolicWeight.TheVariants.{Rooted}
use Rattle.icu_rule_meaning.specs.SymbolicElements.{is_same_weight, ends_with_zero}
use Rattle.icu_rule_meaning.specs.WeightTrees.{WeightTree}
use Rattle.icu_rule_meaning.specs.SymbolicOrders.{Numbering, NumbersTree, IsAmongWeights, IsOrderedBefore}

-- a weight, with those of the levels before
pub record Item : Type 0 where
  pub above : List SymbolicWeight
  pub own : SymbolicWeight

abbrev pub joined : Item → List SymbolicWeight
joined i = i.above ++ i.own ∷ []

abbrev pub number : Numbering → Item → ℕ
number numbering i = numbering (joined i)

-- there is a weight at the level before
abbrev pub is_letter : List SymbolicWeight → Bool
is_letter [] = false
is_letter (w ∷ ws) = not (ends_with_zero (w ∷ ws))

-- the weights of the levels before, of those items that have one at the level before
abbrev pub letters : List Item → List (List SymbolicWeight)
letters [] = []
letters (i ∷ is) = if is_letter i.above then i.above ∷ letters is else letters is

-- an item of a level whose weight stands in the tree; without a weight at the level before it stands below these zeros
pub record IsItem (tree : WeightTree) (zeros : List SymbolicWeight) (i : Item) : Type 0 where
  pub among : IsAmongWeights i.own (tree i.above)
  pub counts : is_same_weight i.own (Rooted 0) ≡ false
  pub level : length i.above ≡ length zeros
  pub alone : is_letter i.above ≡ false → i.above ≡ zeros

-- items without a weight at the level before are above the others
abbrev pub Parts : WeightTree → List SymbolicWeight → Numbering → Type 0
Parts tree zeros numbering = (i j : Item) → IsItem tree zeros i → IsItem tree zeros j → is_letter i.above ≡ true
    → is_letter j.above ≡ false → number numbering i < number numbering j

-- ---- siblings

three_ways_among : (v w : SymbolicWeight) (xs : List SymbolicWeight) → IsAmongWeights v xs → IsAmongWeights w xs
    → (v ≡ w) ⊎ (IsOrderedBefore v w xs ⊎ IsOrderedBefore w v xs)
three_ways_among v w [] a b = absurd a
three_ways_among v w (x ∷ xs) (inl e) (inl f) = inl (sym e ∙ f)
three_ways_among v w (x ∷ xs) (inl e) (inr b) = inr (inl (inl (e, b)))
three_ways_among v w (x ∷ xs) (inr a) (inl f) = inr (inr (inl (f, a)))
three_ways_among v w (x ∷ xs) (inr a) (inr b) = elim (three_ways_among v w xs a b) [
  | inl e ↦ inl e
  | inr (inl s) ↦ inr (inl (inr s))
  | inr (inr s) ↦ inr (inr (inr s))
]

-- ---- two lists of items

-- Two numberings order two lists of items alike, and if the lists tie, they are one.
abbrev pub AreAlike : Numbering → Numbering → List Item → List Item → Type 0
AreAlike one other is js =
    (list_order (map (number one) is) (map (number one) js) ≡ list_order (map (number other) is) (map (number other) js))
    × (list_order (map (number one) is) (map (number one) js) ≡ Equal → is ≡ js)

less_differs : (o : Ordering) → o ≡ Less → o ≡ Equal → ⊥
less_differs o e f = cc

greater_differs : (o : Ordering) → o ≡ Greater → o ≡ Equal → ⊥
greater_differs o e f = cc

both_less : (one other : Numbering) (i j : Item) (is js : List Item) → number one i < number one j
    → number other i < number other j → AreAlike one other (i ∷ is) (j ∷ js)
both_less one other i j is js a b =
    let first = less_head (number one i) (number one j) (map (number one) is) (map (number one) js) a in
    let second = less_head (number other i) (number other j) (map (number other) is) (map (number other) js) b in
    (first ∙ sym second, λ e. absurd (less_differs _ first e))

both_greater : (one other : Numbering) (i j : Item) (is js : List Item) → number one j < number one i
    → number other j < number other i → AreAlike one other (i ∷ is) (j ∷ js)
both_greater one other i j is js a b =
    let first = turned (map (number one) (i ∷ is)) (map (number one) (j ∷ js))
    (less_head (number one j) (number one i) (map (number one) js) (map (number one) is) a) in
    let second = turned (map (number other) (i ∷ is)) (map (number other) (j ∷ js))
    (less_head (number other j) (number other i) (map (number other) js) (map (number other) is) b) in
    (first ∙ sym second, λ e. absurd (greater_differs _ first e))

one_head : (one other : Numbering) (i : Item) (is js : List Item) → AreAlike one other is js
    → AreAlike one other (i ∷ is) (i ∷ js)
one_head one other i is js (same, tied) =
    let first = alike_head (number one i) (number one i) (map (number one) is) (map (number one) js) refl in
    let second = alike_head (number other i) (number other i) (map (number other) is) (map (number other) js) refl in
    (first ∙ same ∙ sym second, λ e. ap (λ ks. i ∷ ks) (tied (sym first ∙ e)))

abbrev item : List SymbolicWeight → SymbolicWeight → Item
item above w = record { above = above; own = w }

siblings_alike : (tree : WeightTree) (one other : Numbering) (above : List SymbolicWeight) (v w : SymbolicWeight)
    (is js : List Item) → NumbersTree tree one → NumbersTree tree other → IsAmongWeights v (tree above)
    → IsAmongWeights w (tree above) → AreAlike one other is js
    → AreAlike one other (item above v ∷ is) (item above w ∷ js)
siblings_alike tree one other above v w is js m n a b rest = elim (three_ways_among v w (tree above) a b) [
  | inl e ↦ subst (λ u. AreAlike one other (item above v ∷ is) (item above u ∷ js)) e
      (one_head one other (item above v) is js rest)
  | inr (inl s) ↦ both_less one other (item above v) (item above w) is js (m.ascends above v w s) (n.ascends above v w s)
  | inr (inr s) ↦
      both_greater one other (item above v) (item above w) is js (m.ascends above w v s) (n.ascends above w v s)
]

heads_alike : (tree : WeightTree) (one other : Numbering) (i j : Item) (is js : List Item) → NumbersTree tree one
    → NumbersTree tree other → IsAmongWeights i.own (tree i.above) → IsAmongWeights j.own (tree j.above)
    → i.above ≡ j.above → AreAlike one other is js → AreAlike one other (i ∷ is) (j ∷ js)
heads_alike tree one other i j is js m n a b e rest =
    subst (λ above. AreAlike one other (i ∷ is) (item above j.own ∷ js)) e
    (siblings_alike tree one other i.above i.own j.own is js m n a
    (subst (λ above. IsAmongWeights j.own (tree above)) (sym e) b) rest)

pub letter_first : (i : Item) (is : List Item) → is_letter i.above ≡ true → letters (i ∷ is) ≡ i.above ∷ letters is
letter_first i is e = rw e refl

pub no_letter_first : (i : Item) (is : List Item) → is_letter i.above ≡ false → letters (i ∷ is) ≡ letters is
no_letter_first i is e = rw e refl

abbrev first_of : List (List SymbolicWeight) → List SymbolicWeight
first_of [] = []
first_of (x ∷ xs) = x

abbrev rest_of : List (List SymbolicWeight) → List (List SymbolicWeight)
rest_of [] = []
rest_of (x ∷ xs) = xs

pub items_alike : (tree : WeightTree) (zeros : List SymbolicWeight) (one other : Numbering) → NumbersTree tree one
    → NumbersTree tree other → Parts tree zeros one → Parts tree zeros other → (is js : List Item)
    → AllByRecursion (IsItem tree zeros) is → AllByRecursion (IsItem tree zeros) js → letters is ≡ letters js
    → AreAlike one other is js
items_alike tree zeros one other m n p q [] [] a b l = (refl, λ _. refl)
items_alike tree zeros one other m n p q [] (j ∷ js) a b l = (refl, λ e. cc)
items_alike tree zeros one other m n p q (i ∷ is) [] a b l = (refl, λ e. cc)
items_alike tree zeros one other m n p q (i ∷ is) (j ∷ js) (a, more) (b, others) l =
    elim (cases_Bool (is_letter i.above)) [
      | inl e ↦ elim (cases_Bool (is_letter j.above)) [
        | inl f ↦
            let both : i.above ∷ letters is ≡ j.above ∷ letters js =
            sym (letter_first i is e) ∙ l ∙ letter_first j js f in
            heads_alike tree one other i j is js m n a.among b.among (ap first_of both)
            (items_alike tree zeros one other m n p q is js more others (ap rest_of both))
        | inr f ↦ both_less one other i j is js (p i j a b e f) (q i j a b e f)
      ]
      | inr e ↦ elim (cases_Bool (is_letter j.above)) [
        | inl f ↦ both_greater one other i j is js (p j i b a f e) (q j i b a f e)
        | inr f ↦
            let both : letters is ≡ letters js = sym (no_letter_first i is e) ∙ l ∙ no_letter_first j js f in
            heads_alike tree one other i j is js m n a.among b.among (a.alone e ∙ sym (b.alone f))
            (items_alike tree zeros one other m n p q is js more others both)
      ]
    ]
