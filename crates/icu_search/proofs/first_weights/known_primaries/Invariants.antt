use Rattle.std.proofs.Common.{◌≡◌, ℕ, ◌≤◌, ◌<◌, take}
use Rattle.std.specs.Option.{ForSome}
use Rattle.icu_search.specs.inner.FirstWeights.{counted_primaries}
use Rattle.icu_search.proofs.first_weights.known_primaries.Given as goal

-- those of the elements so far that count
abbrev pub invariant-loop-element : goal.invariant-loop-element
invariant-loop-element l = (last : ℕ) → ForSome l.fn.known.sure (λ p. last < p) → l.fn.known.variable ≤ last → counted_primaries last (take l.element-index l.elements) ≡ l.primaries.items
