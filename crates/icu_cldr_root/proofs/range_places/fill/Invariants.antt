use Rattle.std.proofs.Common.{◌≡◌, ℕ, ◌<◌, ◌≤◌, length}
use Rattle.std.specs.Prelude.{slice_index_or}
use Rattle.icu_cldr_root.proofs.range_places.fill.Given as goal

-- those so far are set, and others are as they were
abbrev pub invariant-loop-index : goal.invariant-loop-index
invariant-loop-index l =
    (length l.places.items ≡ length l.fn.places.items)
    × ((k d : ℕ) → l.first ≤ k → k < l.index → slice_index_or l.places.items k d ≡ l.place)
    × ((k d : ℕ) → k < l.first → slice_index_or l.places.items k d ≡ slice_index_or l.fn.places.items k d)
    × ((k d : ℕ) → l.index ≤ k → slice_index_or l.places.items k d ≡ slice_index_or l.fn.places.items k d)
