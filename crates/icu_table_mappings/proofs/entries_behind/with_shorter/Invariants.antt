use Rattle.std.proofs.Common.{ℕ, List}
use Rattle.icu_table_mappings.proofs.NearestLemmas.{JoinsSoFar}
use Rattle.icu_table_mappings.proofs.entries_behind.with_shorter.Given as goal

abbrev pub invariant-loop-chars : goal.invariant-loop-chars
invariant-loop-chars l = (chars : List ℕ) → JoinsSoFar l.longer l.shorter l.entries l.chars-iterator chars
