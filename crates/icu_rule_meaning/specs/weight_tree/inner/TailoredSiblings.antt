-- What was tailored first among siblings.
use Rattle.std.specs.Prelude.{not, List, [], ◌∷◌, filter, take_while, Option, Some, None}
use Rattle.icu_rule_meaning.specs.declared.symbolic.SymbolicWeight.{SymbolicWeight}
use Rattle.icu_rule_meaning.specs.declared.symbolic.SymbolicWeight.TheVariants.{Rooted, Tailored}
use Rattle.icu_rule_meaning.specs.SymbolicElements.{has_tailored_weight, is_same_weight}
use Rattle.icu_rule_meaning.specs.RootPositions.{first_weight_or}

-- the first of weights
abbrev pub first_weight : List SymbolicWeight → Option SymbolicWeight
first_weight [] = None
first_weight (w ∷ ws) = Some w

-- a weight if it is tailored
abbrev pub if_tailored : Option SymbolicWeight → Option SymbolicWeight
if_tailored None = None
if_tailored (Some (Rooted w)) = None
if_tailored (Some (Tailored k)) = Some (Tailored k)

-- the first tailored one of the siblings before a weight, or that weight
abbrev pub first_of_tailored : SymbolicWeight → List SymbolicWeight → SymbolicWeight
first_of_tailored common siblings =
    first_weight_or common (filter has_tailored_weight (take_while (λ w. not (is_same_weight w common)) siblings))
