-- What the four levels compare of elements, but for case (UTS #10, "Form Sort Keys" and "Variable Weighting").
use Rattle.std.specs.Prelude.{ℕ, ◌-◌, ◌==◌, Bool, not, List, [], ◌∷◌, map, filter, take, slice_index_or, if◌then◌else◌}
use Rattle.std.specs.List.{list_all}
use Rattle.icu_table_entries.specs.Elements.{Element}
use Rattle.icu_table_entries.specs.ElementConditions.{tertiary_of}
use Rattle.icu_order_texts.specs.weighting.Levels.{quaternary_weight}

-- what the quaternary level compares of an element that stayed: the bits of one that has a tertiary
abbrev pub compared_quaternary : Element → ℕ
compared_quaternary x = if tertiary_of x == 0 then 0 else quaternary_weight x

-- what the four levels compare of an element, from the primary one on; 0 is compared by none
abbrev pub compared_weights : Element → List ℕ
compared_weights x = x.primary ∷ x.secondary ∷ tertiary_of x ∷ compared_quaternary x ∷ []

-- what a level, from 1 to 4, compares of an element
abbrev pub weight_on : ℕ → Element → ℕ
weight_on n x = slice_index_or (compared_weights x) (n - 1) 0

-- whether one of these weights isn't 0
abbrev pub has_nonzero : List ℕ → Bool
has_nonzero ws = not (list_all (λ w. w == 0) ws)

-- the weights of an element before a level; before the primary one there are none
abbrev pub upper_weights : ℕ → Element → List ℕ
upper_weights n x = take (n - 1) (compared_weights x)

-- the weights before a level of the elements that have one there
abbrev pub upper_lists : ℕ → List Element → List (List ℕ)
upper_lists n es = filter has_nonzero (map (upper_weights n) es)
