use Rattle.std.proofs.Common.{◌≡◌, ℕ, ◌<◌, false, take}
use Rattle.std.specs.Prelude.{is_some}
use Rattle.icu_table_mappings.specs.Surroundings.{entry_at}
use Rattle.icu_table_mappings.proofs.entries_behind.begins.Given as goal

-- no shorter beginning has an entry
abbrev pub invariant-loop-count : goal.invariant-loop-count
invariant-loop-count l = (k : ℕ) → k < l.count → is_some (entry_at l.entries (take k l.after)) ≡ false
