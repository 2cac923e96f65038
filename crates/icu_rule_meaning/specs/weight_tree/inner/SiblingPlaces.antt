-- Places among siblings.
use Rattle.std.specs.Prelude.{ℕ, zero, suc, Bool, false, if◌then◌else◌, nat_le, List, [], ◌∷◌}
use Rattle.icu_rule_meaning.specs.declared.symbolic.SymbolicWeight.{SymbolicWeight}
use Rattle.icu_rule_meaning.specs.declared.symbolic.SymbolicWeight.TheVariants.{Rooted, Tailored}
use Rattle.icu_rule_meaning.specs.SymbolicElements.{is_same_weight}

-- how many weights stand before the first one that passes
abbrev pub place_by : (SymbolicWeight → Bool) → List SymbolicWeight → ℕ
place_by p [] = zero
place_by p (v ∷ siblings) = if p v then zero else suc (place_by p siblings)

-- a weight of the root is put in its place before this one; a tailored one is this one
abbrev pub ends_search : SymbolicWeight → SymbolicWeight → Bool
ends_search (Rooted w) (Rooted v) = nat_le w v
ends_search (Rooted w) (Tailored k) = false
ends_search (Tailored k) v = is_same_weight v (Tailored k)

-- where a weight stands among siblings, or is put if it is of the root; their number where there is no such place
abbrev pub place_among : SymbolicWeight → List SymbolicWeight → ℕ
place_among w siblings = place_by (ends_search w) siblings

-- where a weight stands first among siblings; their number where it isn't among them
abbrev pub first_place : SymbolicWeight → List SymbolicWeight → ℕ
first_place w siblings = place_by (λ v. is_same_weight v w) siblings

-- how many tailored weights were made before a weight
abbrev pub number_in : SymbolicWeight → ℕ
number_in (Rooted w) = 0
number_in (Tailored k) = k
