use Rattle.std.proofs.Common.{◌≡◌, ℕ, ◌≤◌, ◌<◌}
use Rattle.std.specs.Char.{IsScalar}
use Rattle.icu_table_data.specs.StoredData.{data_of}
use Rattle.icu_table_data.proofs.character_walk.run_entry.Given as goal

-- the characters so far have the entry
abbrev pub invariant-loop-code : goal.invariant-loop-code
invariant-loop-code l = (c : ℕ) → l.start ≤ c → c < l.code → IsScalar c → (data_of l.home).value c ≡ l.bits
