-- Two numberings order elements alike: what counts at a level is told by what counts at the level before, and by marks.
use Rattle.std.proofs.Common.{◌≡◌, ◌≢◌, ℕ, zero, suc, ◌<◌, ◌==◌, inl, inr, Bool, true, false, not, List, [], ◌∷◌, ◌++◌, length, map, take, if◌then◌else◌, refl, ap, ap₂, sym, subst, ◌∙◌, arith}
use Rattle.std.specs.List.{AllByRecursion}
use Rattle.std.specs.Ordering.{ordering_then}
use Rattle.std.specs.declared.cmp.Ordering.{Ordering}
use Rattle.std.specs.declared.cmp.Ordering.TheVariants.{Less, Equal, Greater}
use Rattle.std.proofs.lemmas.Bool.{cases_Bool, not-false, not-true}
use Rattle.std.proofs.lemmas.Bool.Decides.{nat_tests}
use Rattle.icu_order_levels.specs.ListOrder.{list_order}
use Rattle.icu_rule_meaning.specs.declared.symbolic.SymbolicWeight.{SymbolicWeight}
use Rattle.icu_rule_meaning.specs.declared.symbolic.SymbolicWeight.TheVariants.{Rooted}
use Rattle.icu_rule_meaning.specs.declared.symbolic.SymbolicElement.{SymbolicElement}
use Rattle.icu_rule_meaning.specs.SymbolicElements.{is_same_weight}
use Rattle.icu_rule_meaning.specs.WeightTrees.{WeightTree}
use Rattle.icu_rule_meaning.specs.SymbolicOrders.{Numbering, NumbersTree, IsAmongWeights, level_numbers, level_order}
use Rattle.icu_rule_meaning.proofs.TreeLemmas.{same_weight_is, is_itself}
use Rattle.icu_rule_meaning.specs.numbering_laws.NumberingLaws.{StandsInTree, StandInTree, OrdersElements, order_up_to, NumberingsOrderAlike}
use Rattle.icu_rule_meaning.proofs.numbering_laws.ItemLemmas.{Item, joined, number, is_letter, letters, IsItem, Parts, items_alike, no_letter_first, letter_first}

-- the first three weights of an element that stands in a tree
record Three : Type 0 where
  primary : SymbolicWeight
  secondary : SymbolicWeight
  tertiary : SymbolicWeight

abbrev three_of : (tree : WeightTree) (e : SymbolicElement) → StandsInTree tree e → Three
three_of tree e s = record { primary = s.primary; secondary = s.secondary; tertiary = s.tertiary }

abbrev threes : (tree : WeightTree) (es : List SymbolicElement) → StandInTree tree es → List Three
threes tree [] all = []
threes tree (e ∷ es) (s, all) = three_of tree e s ∷ threes tree es all

-- the weight of each level, with those before it
abbrev first_item : Three → Item
first_item x = record { above = []; own = x.primary }

abbrev second_item : Three → Item
second_item x = record { above = x.primary ∷ []; own = x.secondary }

abbrev third_item : Three → Item
third_item x = record { above = x.primary ∷ x.secondary ∷ []; own = x.tertiary }

abbrev is_zero : SymbolicWeight → Bool
is_zero w = is_same_weight w (Rooted 0)

-- what counts at a level
abbrev items : (Three → Item) → List Three → List Item
items at [] = []
items at (x ∷ xs) = if is_zero (at x).own then items at xs else at x ∷ items at xs

zero_first : (at : Three → Item) (x : Three) (xs : List Three) → is_zero (at x).own ≡ true
    → items at (x ∷ xs) ≡ items at xs
zero_first at x xs e = rw e refl

counts_first : (at : Three → Item) (x : Three) (xs : List Three) → is_zero (at x).own ≡ false
    → items at (x ∷ xs) ≡ at x ∷ items at xs
counts_first at x xs e = rw e refl

is_no_zero : (w : SymbolicWeight) → is_zero w ≡ false → w ≢ Rooted 0
is_no_zero w e f = let g : is_zero w ≡ true = ap is_zero f ∙ is_itself (Rooted 0) in cc

-- ---- numbers of what counts

-- the elements have these weights at a level
record GivesItems (tree : WeightTree) (level : ℕ) (at : Three → Item) : Type 0 where
  weights : (e : SymbolicElement) (s : StandsInTree tree e) → take level e.weights ≡ joined (at (three_of tree e s))
  among : (e : SymbolicElement) (s : StandsInTree tree e)
      → IsAmongWeights (at (three_of tree e s)).own (tree (at (three_of tree e s)).above)

number_counts : (n : ℕ) → n ≢ 0 → (n == 0) ≡ false
number_counts zero h = absurd (h refl)
number_counts (suc n) h = grind (arith, nat_tests)

no_number_first : (numbering : Numbering) (level : ℕ) (e : SymbolicElement) (es : List SymbolicElement)
    → numbering (take level e.weights) ≡ 0 → level_numbers numbering level (e ∷ es) ≡ level_numbers numbering level es
no_number_first numbering level e es h = rw h refl

number_first : (numbering : Numbering) (level : ℕ) (e : SymbolicElement) (es : List SymbolicElement)
    → numbering (take level e.weights) ≢ 0
    → level_numbers numbering level (e ∷ es) ≡ numbering (take level e.weights) ∷ level_numbers numbering level es
number_first numbering level e es h = rw (number_counts (numbering (take level e.weights)) h) refl

zero_number : (tree : WeightTree) (numbering : Numbering) (i : Item) → NumbersTree tree numbering
    → is_zero i.own ≡ true → number numbering i ≡ 0
zero_number tree numbering i n e =
    ap (λ w. numbering (i.above ++ w ∷ [])) (same_weight_is i.own (Rooted 0) e) ∙ n.zero i.above

numbers_are : (tree : WeightTree) (numbering : Numbering) (level : ℕ) (at : Three → Item)
    → OrdersElements tree numbering → GivesItems tree level at → (es : List SymbolicElement) (all : StandInTree tree es)
    → level_numbers numbering level es ≡ map (number numbering) (items at (threes tree es all))
numbers_are tree numbering level at o g [] all = refl
numbers_are tree numbering level at o g (e ∷ es) (s, all) =
    let x = three_of tree e s in
    let xs = threes tree es all in
    let same : numbering (take level e.weights) ≡ number numbering (at x) = ap numbering (g.weights e s) in
    let rest = numbers_are tree numbering level at o g es all in
    elim (cases_Bool (is_zero (at x).own)) [
      | inl z ↦
          no_number_first numbering level e es (same ∙ zero_number tree numbering (at x) o.numbers z) ∙ rest
          ∙ sym (ap (map (number numbering)) (zero_first at x xs z))
      | inr c ↦
          let counts : numbering (take level e.weights) ≢ 0 =
          λ h. o.counts (at x).above (at x).own (g.among e s) (is_no_zero (at x).own c) (sym same ∙ h) in
          number_first numbering level e es counts
          ∙ ap (λ n. n ∷ level_numbers numbering level es) same
          ∙ ap (λ ns. number numbering (at x) ∷ ns) rest
          ∙ sym (ap (map (number numbering)) (counts_first at x xs c))
    ]

-- ---- one level

-- the items of elements stand in the tree, those without a weight at the level before below these zeros
items_stand : (tree : WeightTree) (zeros : List SymbolicWeight) (level : ℕ) (at : Three → Item) → GivesItems tree level at
    → ((e : SymbolicElement) (s : StandsInTree tree e) → is_letter (at (three_of tree e s)).above ≡ false
    → is_zero (at (three_of tree e s)).own ≡ false → (at (three_of tree e s)).above ≡ zeros)
    → ((e : SymbolicElement) (s : StandsInTree tree e) → length (at (three_of tree e s)).above ≡ length zeros)
    → (es : List SymbolicElement) (all : StandInTree tree es)
    → AllByRecursion (IsItem tree zeros) (items at (threes tree es all))
items_stand tree zeros level at g alone same_level [] all = tt
items_stand tree zeros level at g alone same_level (e ∷ es) (s, all) =
    let x = three_of tree e s in
    let xs = threes tree es all in
    let rest = items_stand tree zeros level at g alone same_level es all in
    elim (cases_Bool (is_zero (at x).own)) [
      | inl z ↦ subst (AllByRecursion (IsItem tree zeros)) (sym (zero_first at x xs z)) rest
      | inr c ↦
          let this : IsItem tree zeros (at x) =
          record { among = g.among e s; counts = c; level = same_level e s; alone = λ m. alone e s m c } in
          subst (AllByRecursion (IsItem tree zeros)) (sym (counts_first at x xs c)) (this, rest)
    ]

-- what counts at a level and at the next one: those with a weight at the level stand below it
record GoesOn (tree : WeightTree) (at next : Three → Item) : Type 0 where
  below : (e : SymbolicElement) (s : StandsInTree tree e) → is_zero (at (three_of tree e s)).own ≡ false
      → (next (three_of tree e s)).above ≡ joined (at (three_of tree e s))
  letter : (e : SymbolicElement) (s : StandsInTree tree e) → is_zero (at (three_of tree e s)).own ≡ false
      → is_letter (next (three_of tree e s)).above ≡ true
  counts : (e : SymbolicElement) (s : StandsInTree tree e) → is_zero (at (three_of tree e s)).own ≡ false
      → is_zero (next (three_of tree e s)).own ≡ false
  mark : (e : SymbolicElement) (s : StandsInTree tree e) → is_zero (at (three_of tree e s)).own ≡ true
      → is_letter (next (three_of tree e s)).above ≡ false

letters_are : (tree : WeightTree) (at next : Three → Item) → GoesOn tree at next
    → (es : List SymbolicElement) (all : StandInTree tree es)
    → letters (items next (threes tree es all)) ≡ map joined (items at (threes tree es all))
letters_are tree at next g [] all = refl
letters_are tree at next g (e ∷ es) (s, all) =
    let x = three_of tree e s in
    let xs = threes tree es all in
    let rest = letters_are tree at next g es all in
    elim (cases_Bool (is_zero (at x).own)) [
      | inl z ↦
          let kept : letters (items next (x ∷ xs)) ≡ letters (items next xs) =
          elim (cases_Bool (is_zero (next x).own)) [
            | inl y ↦ ap letters (zero_first next x xs y)
            | inr c ↦ ap letters (counts_first next x xs c) ∙ no_letter_first (next x) (items next xs) (g.mark e s z)
          ] in
          kept ∙ rest ∙ sym (ap (map joined) (zero_first at x xs z))
      | inr c ↦
          ap letters (counts_first next x xs (g.counts e s c))
          ∙ letter_first (next x) (items next xs) (g.letter e s c)
          ∙ ap (λ above. above ∷ letters (items next xs)) (g.below e s c)
          ∙ ap (λ more. joined (at x) ∷ more) rest
          ∙ sym (ap (map joined) (counts_first at x xs c))
    ]

-- ---- the three levels

one_weight : (e : SymbolicElement) (n : ℕ) (ws vs : List SymbolicWeight) → e.weights ≡ ws → take n ws ≡ vs
    → take n e.weights ≡ vs
one_weight e n ws vs a b = ap (take n) a ∙ b

first_gives : (tree : WeightTree) → GivesItems tree 1 first_item
first_gives tree = record {
  weights = λ e s. one_weight e 1 (s.primary ∷ s.secondary ∷ s.tertiary ∷ s.others) (s.primary ∷ []) s.weights refl;
  among = λ e s. s.has_primary;
}

second_gives : (tree : WeightTree) → GivesItems tree 2 second_item
second_gives tree = record {
  weights = λ e s. one_weight e 2 (s.primary ∷ s.secondary ∷ s.tertiary ∷ s.others) (s.primary ∷ s.secondary ∷ []) s.weights refl;
  among = λ e s. s.has_secondary;
}

third_gives : (tree : WeightTree) → GivesItems tree 3 third_item
third_gives tree = record {
  weights = λ e s. one_weight e 3 (s.primary ∷ s.secondary ∷ s.tertiary ∷ s.others)
      (s.primary ∷ s.secondary ∷ s.tertiary ∷ []) s.weights refl;
  among = λ e s. s.has_tertiary;
}

zero_is : (w : SymbolicWeight) → is_zero w ≡ true → w ≡ Rooted 0
zero_is w e = same_weight_is w (Rooted 0) e

zero_itself : (w : SymbolicWeight) → w ≡ Rooted 0 → is_zero w ≡ true
zero_itself w e = ap is_zero e ∙ is_itself (Rooted 0)

no_zero_counts : (w : SymbolicWeight) → w ≢ Rooted 0 → is_zero w ≡ false
no_zero_counts w h = elim (cases_Bool (is_zero w)) [ inl e ↦ absurd (h (zero_is w e)) | inr e ↦ e ]

first_goes_on : (tree : WeightTree) → GoesOn tree first_item second_item
first_goes_on tree = record {
  below = λ e s c. refl;
  letter = λ e s c. ap not c;
  counts = λ e s c. no_zero_counts s.secondary (λ h. is_no_zero s.primary c (s.no_primary h));
  mark = λ e s z. ap not z;
}

second_goes_on : (tree : WeightTree) → GoesOn tree second_item third_item
second_goes_on tree = record {
  below = λ e s c. refl;
  letter = λ e s c. ap not c;
  counts = λ e s c. no_zero_counts s.tertiary (λ h. is_no_zero s.secondary c (s.no_secondary h));
  mark = λ e s z. ap not z;
}

first_stand : (tree : WeightTree) (es : List SymbolicElement) (all : StandInTree tree es)
    → AllByRecursion (IsItem tree []) (items first_item (threes tree es all))
first_stand tree = items_stand tree [] 1 first_item (first_gives tree) (λ e s m c. refl) (λ e s. refl)

second_stand : (tree : WeightTree) (es : List SymbolicElement) (all : StandInTree tree es)
    → AllByRecursion (IsItem tree (Rooted 0 ∷ [])) (items second_item (threes tree es all))
second_stand tree = items_stand tree (Rooted 0 ∷ []) 2 second_item (second_gives tree)
    (λ e s m c. ap (λ p. p ∷ []) (zero_is s.primary (not-false (is_zero s.primary) m))) (λ e s. refl)

both_zero : (p q : SymbolicWeight) → p ≡ Rooted 0 → q ≡ Rooted 0 → (p ∷ q ∷ []) ≡ (Rooted 0 ∷ Rooted 0 ∷ [])
both_zero p q e f = ap (λ x. x ∷ q ∷ []) e ∙ ap (λ x. Rooted 0 ∷ x ∷ []) f

third_stand : (tree : WeightTree) (es : List SymbolicElement) (all : StandInTree tree es)
    → AllByRecursion (IsItem tree (Rooted 0 ∷ Rooted 0 ∷ [])) (items third_item (threes tree es all))
third_stand tree = items_stand tree (Rooted 0 ∷ Rooted 0 ∷ []) 3 third_item (third_gives tree)
    (λ e s m c. let z = zero_is s.secondary (not-false (is_zero s.secondary) m) in both_zero s.primary s.secondary (s.no_primary z) z)
    (λ e s. refl)

-- ---- marks are above letters

first_parts : (tree : WeightTree) (numbering : Numbering) → Parts tree [] numbering
first_parts tree numbering i j a b l m = absurd (no_letter i.above a.level l)
  where
    no_letter : (above : List SymbolicWeight) → length above ≡ 0 → is_letter above ≡ true → ⊥
    no_letter [] e l = cc
    no_letter (w ∷ ws) e l = omega (arith, e)

second_part : (tree : WeightTree) (numbering : Numbering) → OrdersElements tree numbering
    → (above : List SymbolicWeight) (w alone : SymbolicWeight) → length above ≡ 1 → is_letter above ≡ true
    → IsAmongWeights w (tree above) → IsAmongWeights alone (tree (Rooted 0 ∷ [])) → alone ≢ Rooted 0
    → numbering (above ++ w ∷ []) < numbering (Rooted 0 ∷ alone ∷ [])
second_part tree numbering o [] w alone e l a b h = absurd (omega (arith, e))
second_part tree numbering o (p ∷ []) w alone e l a b h =
    o.secondaries p w alone (is_no_zero p (not-true (is_zero p) l)) a b h
second_part tree numbering o (p ∷ q ∷ ws) w alone e l a b h = absurd (omega (arith, e))

second_parts : (tree : WeightTree) (numbering : Numbering) → OrdersElements tree numbering
    → Parts tree (Rooted 0 ∷ []) numbering
second_parts tree numbering o i j a b l m =
    let stands : IsAmongWeights j.own (tree (Rooted 0 ∷ [])) =
    subst (λ above. IsAmongWeights j.own (tree above)) (b.alone m) b.among in
    subst (λ above. number numbering i < numbering (above ++ j.own ∷ [])) (sym (b.alone m))
    (second_part tree numbering o i.above i.own j.own a.level l a.among stands (is_no_zero j.own b.counts))

third_part : (tree : WeightTree) (numbering : Numbering) → OrdersElements tree numbering
    → (above : List SymbolicWeight) (w alone : SymbolicWeight) → length above ≡ 2 → is_letter above ≡ true
    → IsAmongWeights w (tree above) → IsAmongWeights alone (tree (Rooted 0 ∷ Rooted 0 ∷ [])) → alone ≢ Rooted 0
    → numbering (above ++ w ∷ []) < numbering (Rooted 0 ∷ Rooted 0 ∷ alone ∷ [])
third_part tree numbering o [] w alone e l a b h = absurd (omega (arith, e))
third_part tree numbering o (p ∷ []) w alone e l a b h = absurd (omega (arith, e))
third_part tree numbering o (p ∷ q ∷ []) w alone e l a b h =
    o.tertiaries p q w alone (is_no_zero q (not-true (is_zero q) l)) a b h
third_part tree numbering o (p ∷ q ∷ r ∷ ws) w alone e l a b h = absurd (omega (arith, e))

third_parts : (tree : WeightTree) (numbering : Numbering) → OrdersElements tree numbering
    → Parts tree (Rooted 0 ∷ Rooted 0 ∷ []) numbering
third_parts tree numbering o i j a b l m =
    let stands : IsAmongWeights j.own (tree (Rooted 0 ∷ Rooted 0 ∷ [])) =
    subst (λ above. IsAmongWeights j.own (tree above)) (b.alone m) b.among in
    subst (λ above. number numbering i < numbering (above ++ j.own ∷ [])) (sym (b.alone m))
    (third_part tree numbering o i.above i.own j.own a.level l a.among stands (is_no_zero j.own b.counts))

-- ---- all levels

-- At a level two numberings order elements alike, and where these tie, the same counts in both.
abbrev OrderAlikeAt : Numbering → Numbering → ℕ → (Three → Item) → (tree : WeightTree)
    → (es fs : List SymbolicElement) → StandInTree tree es → StandInTree tree fs → Type 0
OrderAlikeAt one other level at tree es fs a b =
    (level_order one level es fs ≡ level_order other level es fs)
    × (level_order one level es fs ≡ Equal → items at (threes tree es a) ≡ items at (threes tree fs b))

level_alike : (tree : WeightTree) (zeros : List SymbolicWeight) (one other : Numbering) (level : ℕ) (at : Three → Item)
    → OrdersElements tree one → OrdersElements tree other → GivesItems tree level at
    → Parts tree zeros one → Parts tree zeros other
    → ((es : List SymbolicElement) (all : StandInTree tree es)
    → AllByRecursion (IsItem tree zeros) (items at (threes tree es all)))
    → (es fs : List SymbolicElement) (a : StandInTree tree es) (b : StandInTree tree fs)
    → letters (items at (threes tree es a)) ≡ letters (items at (threes tree fs b))
    → OrderAlikeAt one other level at tree es fs a b
level_alike tree zeros one other level at o p g q r stand es fs a b l =
    let is = items at (threes tree es a) in
    let js = items at (threes tree fs b) in
    let (same, tied) = items_alike tree zeros one other o.numbers p.numbers q r is js (stand es a) (stand fs b) l in
    let first : level_order one level es fs ≡ list_order (map (number one) is) (map (number one) js) =
    ap₂ list_order (numbers_are tree one level at o g es a) (numbers_are tree one level at o g fs b) in
    let second : level_order other level es fs ≡ list_order (map (number other) is) (map (number other) js) =
    ap₂ list_order (numbers_are tree other level at p g es a) (numbers_are tree other level at p g fs b) in
    (first ∙ same ∙ sym second, λ e. tied (sym first ∙ e))

then_alike : (a b c d : Ordering) → a ≡ b → (a ≡ Equal → c ≡ d) → ordering_then a c ≡ ordering_then b d
then_alike a b c d e h = subst (λ x. ordering_then a c ≡ ordering_then x d) e (own a c d h)
  where
    own : (a c d : Ordering) → (a ≡ Equal → c ≡ d) → ordering_then a c ≡ ordering_then a d
    own Less c d h = refl
    own Equal c d h = h refl
    own Greater c d h = refl

no_letters : (xs : List Three) → letters (items first_item xs) ≡ []
no_letters [] = refl
no_letters (x ∷ xs) = elim (cases_Bool (is_zero x.primary)) [
  | inl z ↦ ap letters (zero_first first_item x xs z) ∙ no_letters xs
  | inr c ↦ ap letters (counts_first first_item x xs c) ∙ no_letters xs
]

first_alike : (tree : WeightTree) (one other : Numbering) → OrdersElements tree one → OrdersElements tree other
    → (es fs : List SymbolicElement) (a : StandInTree tree es) (b : StandInTree tree fs)
    → OrderAlikeAt one other 1 first_item tree es fs a b
first_alike tree one other o p es fs a b =
    level_alike tree [] one other 1 first_item o p (first_gives tree) (first_parts tree one) (first_parts tree other)
    (first_stand tree) es fs a b (no_letters (threes tree es a) ∙ sym (no_letters (threes tree fs b)))

second_alike : (tree : WeightTree) (one other : Numbering) → OrdersElements tree one → OrdersElements tree other
    → (es fs : List SymbolicElement) (a : StandInTree tree es) (b : StandInTree tree fs)
    → items first_item (threes tree es a) ≡ items first_item (threes tree fs b)
    → OrderAlikeAt one other 2 second_item tree es fs a b
second_alike tree one other o p es fs a b same =
    level_alike tree (Rooted 0 ∷ []) one other 2 second_item o p (second_gives tree) (second_parts tree one o)
    (second_parts tree other p) (second_stand tree) es fs a b
    (letters_are tree first_item second_item (first_goes_on tree) es a ∙ ap (map joined) same
    ∙ sym (letters_are tree first_item second_item (first_goes_on tree) fs b))

third_alike : (tree : WeightTree) (one other : Numbering) → OrdersElements tree one → OrdersElements tree other
    → (es fs : List SymbolicElement) (a : StandInTree tree es) (b : StandInTree tree fs)
    → items second_item (threes tree es a) ≡ items second_item (threes tree fs b)
    → OrderAlikeAt one other 3 third_item tree es fs a b
third_alike tree one other o p es fs a b same =
    level_alike tree (Rooted 0 ∷ Rooted 0 ∷ []) one other 3 third_item o p (third_gives tree) (third_parts tree one o)
    (third_parts tree other p) (third_stand tree) es fs a b
    (letters_are tree second_item third_item (second_goes_on tree) es a ∙ ap (map joined) same
    ∙ sym (letters_are tree second_item third_item (second_goes_on tree) fs b))

then_equal : (a b : Ordering) → ordering_then a b ≡ Equal → (a ≡ Equal) × (b ≡ Equal)
then_equal Less b e = cc
then_equal Equal b e = (refl, e)
then_equal Greater b e = cc

pub alike : NumberingsOrderAlike
alike tree one other zero es fs o p h a b = refl
alike tree one other (suc zero) es fs o p h a b = (first_alike tree one other o p es fs a b).0
alike tree one other (suc (suc zero)) es fs o p h a b =
    let (same, tied) = first_alike tree one other o p es fs a b in
    then_alike (level_order one 1 es fs) (level_order other 1 es fs) (level_order one 2 es fs)
    (level_order other 2 es fs) same (λ e. (second_alike tree one other o p es fs a b (tied e)).0)
alike tree one other (suc (suc (suc zero))) es fs o p h a b =
    let (same, tied) = first_alike tree one other o p es fs a b in
    let two : order_up_to one 2 es fs ≡ order_up_to other 2 es fs =
    then_alike (level_order one 1 es fs) (level_order other 1 es fs) (level_order one 2 es fs)
    (level_order other 2 es fs) same (λ e. (second_alike tree one other o p es fs a b (tied e)).0) in
    then_alike (order_up_to one 2 es fs) (order_up_to other 2 es fs) (level_order one 3 es fs)
    (level_order other 3 es fs) two (λ e.
    let (first, second) = then_equal (level_order one 1 es fs) (level_order one 2 es fs) e in
    (third_alike tree one other o p es fs a b ((second_alike tree one other o p es fs a b (tied first)).1 second)).0)
alike tree one other (suc (suc (suc (suc level)))) es fs o p h a b = absurd (omega (arith, h))
