-- Places of a linked list.
use Rattle.std.specs.Prelude.{ℕ, ◌==◌, ◌||◌, nat_lt, if◌then◌else◌, Bool, true, false, List, [], ◌∷◌, Option, Some, None}
use Rattle.icu_rule_meaning.specs.declared.symbolic.SymbolicWeight.{SymbolicWeight}
use Rattle.icu_rule_meaning.specs.declared.symbolic.SymbolicWeight.TheVariants as weights
use Rattle.icu_rule_meaning.specs.declared.weight_tree.stop.Stop.{Stop}
use Rattle.icu_rule_meaning.specs.declared.weight_tree.stop.Stop.TheVariants.{End, Rooted, Tailored}

-- the place of a weight
abbrev pub stop_at : SymbolicWeight → Stop
stop_at (weights.Rooted w) = Rooted w
stop_at (weights.Tailored k) = Tailored k

-- the weight of a place
abbrev pub stop_weight : Stop → Option SymbolicWeight
stop_weight End = None
stop_weight (Rooted w) = Some (weights.Rooted w)
stop_weight (Tailored k) = Some (weights.Tailored k)

-- the weight of a place that isn't the end
abbrev pub standing_weight : Stop → SymbolicWeight
standing_weight End = weights.Rooted 0
standing_weight (Rooted w) = weights.Rooted w
standing_weight (Tailored k) = weights.Tailored k

-- a place of a weight of the root, or else the end
abbrev pub rooted_or_end : Stop → Stop
rooted_or_end End = End
rooted_or_end (Rooted w) = Rooted w
rooted_or_end (Tailored k) = End

-- two places are the same
abbrev pub is_stop : Stop → Stop → Bool
is_stop End End = true
is_stop (Rooted w) (Rooted v) = v == w
is_stop (Tailored k) (Tailored j) = j == k
is_stop _ _ = false

-- a place is that of one of the weights, or the end
abbrev pub stands : Stop → List SymbolicWeight → Bool
stands s [] = is_stop s End
stands s (v ∷ siblings) = is_stop s (stop_at v) || stands s siblings

-- siblings with another one directly before a place
abbrev pub in_front : Stop → SymbolicWeight → List SymbolicWeight → List SymbolicWeight
in_front s new [] = new ∷ []
in_front s new (v ∷ siblings) = if is_stop s (stop_at v) then new ∷ v ∷ siblings else v ∷ in_front s new siblings

-- the place of the first weight of the root that is greater, or the end
abbrev pub rooted_above : ℕ → List SymbolicWeight → Stop
rooted_above w [] = End
rooted_above w (weights.Tailored k ∷ siblings) = rooted_above w siblings
rooted_above w (weights.Rooted v ∷ siblings) = if nat_lt w v then Rooted v else rooted_above w siblings
