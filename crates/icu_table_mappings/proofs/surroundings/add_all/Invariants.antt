use Rattle.std.proofs.Common.{◌≡◌, ℕ, List}
use Rattle.icu_table_mappings.specs.Surroundings.{entry_at}
use Rattle.icu_table_mappings.specs.inner.ContextParts.{last_among}
use Rattle.icu_table_mappings.proofs.surroundings.add_all.Given as goal

-- what is left to come decides as all of it did at first
abbrev pub invariant-loop-chars : goal.invariant-loop-chars
invariant-loop-chars l = (chars : List ℕ) → last_among l.chars-iterator (entry_at l.suffixes chars) chars ≡ last_among l.more.entries (entry_at l.fn.suffixes chars) chars
