-- Relations hold, whatever rules follow.
use Rattle.std.specs.Prelude.{ℕ, ◌≡◌, ◌≢◌, List, [], ◌∷◌, ◌++◌, take}
use Rattle.unicode_normalization.specs.Forms.{nfd}
use Rattle.icu_options.specs.declared.settings.Strength.{Strength}
use Rattle.icu_options.specs.declared.settings.Strength.TheVariants.{Identical}
use Rattle.icu_rule_meaning.specs.Rules.{Rule, relation, level_of}
use Rattle.icu_rule_meaning.specs.declared.symbolic.SymbolicWeight.{SymbolicWeight}
use Rattle.icu_rule_meaning.specs.declared.symbolic.SymbolicElement.{SymbolicElement}
use Rattle.icu_rule_meaning.specs.TailoredRoots.{Root}
use Rattle.icu_rule_meaning.specs.TailoredMappings.{symbolic_elements}
use Rattle.icu_rule_meaning.specs.Steps.{counting_at, last_element, tailoring_of}
use Rattle.icu_rule_meaning.specs.SymbolicOrders.{Numbering, NumbersTree, level_numbers, AreLessAt}

-- Elements are less than others at the level of a strength, and the same before it; for the identical strength they
-- are the same at every level.
abbrev pub AreRelated : Numbering → Strength → List SymbolicElement → List SymbolicElement → Type 0
AreRelated numbering Identical es fs =
    (level : ℕ) → level_numbers numbering level es ≡ level_numbers numbering level fs
AreRelated numbering strength es fs = AreLessAt numbering (level_of strength) es fs

-- the elements that the rules up to a place come to
abbrev pub elements_at : Root → List Rule → List SymbolicElement
elements_at root rules = (tailoring_of root rules).elements

-- The elements of a relation are related by its strength to those of the rule before it, whatever rules stand before
-- and behind it, and whatever numbers weights get.
abbrev pub RelationsHold : Type 0
RelationsHold = (root : Root) (earlier later : List Rule) (strength : Strength) (prefix string extension : List ℕ)
    (numbering : Numbering)
    → NumbersTree (tailoring_of root (earlier ++ relation strength prefix string extension ∷ later)).tree numbering
    → AreRelated numbering strength (elements_at root earlier)
    (elements_at root (earlier ++ relation strength prefix string extension ∷ []))

-- the weights of the element that a relation of a level differs from, behind these rules
abbrev pub weights_before : Root → List Rule → ℕ → List SymbolicWeight
weights_before root rules level = (last_element (counting_at level (elements_at root rules))).weights

-- The same holds with any elements behind both, as those of an extension, where the element that the relation differs
-- from has a number at the level.
abbrev pub ExtendedRelationsHold : Type 0
ExtendedRelationsHold = (root : Root) (earlier later : List Rule) (strength : Strength)
    (prefix string extension : List ℕ) (put_behind : List SymbolicElement) (numbering : Numbering)
    → NumbersTree (tailoring_of root (earlier ++ relation strength prefix string extension ∷ later)).tree numbering
    → numbering (take (level_of strength) (weights_before root earlier (level_of strength))) ≢ 0
    → AreRelated numbering strength (elements_at root earlier ++ put_behind)
    (elements_at root (earlier ++ relation strength prefix string extension ∷ []) ++ put_behind)

-- Two strings are related as a relation says, where by all rules they have the elements that they had at the relation:
-- no later rule moved them.
abbrev pub UnmovedStringsAreRelated : Type 0
UnmovedStringsAreRelated = (root : Root) (earlier later : List Rule) (strength : Strength) (other string : List ℕ)
    (numbering : Numbering)
    → let rules = earlier ++ relation strength [] string [] ∷ later in
    let last = tailoring_of root rules in
    NumbersTree last.tree numbering
    → symbolic_elements last.mappings (nfd other) ≡ elements_at root earlier
    → symbolic_elements last.mappings (nfd string)
    ≡ elements_at root (earlier ++ relation strength [] string [] ∷ [])
    → AreRelated numbering strength (symbolic_elements last.mappings (nfd other))
    (symbolic_elements last.mappings (nfd string))
