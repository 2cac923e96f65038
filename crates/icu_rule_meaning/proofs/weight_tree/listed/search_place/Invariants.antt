use Rattle.std.proofs.Common.{◌≡◌, ℕ, ◌<◌, ◌≤◌, false, length, slice_index_or}
use Rattle.icu_rule_meaning.specs.declared.symbolic.SymbolicWeight.TheVariants.{Rooted}
use Rattle.icu_rule_meaning.specs.weight_tree.inner.SiblingPlaces.{ends_search}
use Rattle.icu_rule_meaning.proofs.weight_tree.listed.search_place.Given as goal

abbrev pub invariant-loop-i : goal.invariant-loop-i
invariant-loop-i l = (l.i ≤ length l.weights)
    × ((k : ℕ) → k < l.i → ends_search l.w (slice_index_or l.weights k (Rooted 0)) ≡ false)
