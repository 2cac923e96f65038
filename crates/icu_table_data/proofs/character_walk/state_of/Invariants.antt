use Rattle.std.proofs.Common.{◌≡◌, ℕ, ◌≤◌, ◌<◌, false}
use Rattle.std.specs.Char.{IsScalar}
use Rattle.icu_table_data.specs.StoredData.{data_of}
use Rattle.icu_table_data.specs.inner.BlockWalks.{AreClear, leads_to}
use Rattle.icu_table_data.proofs.character_walk.state_of.Given as goal

-- none so far leads to an entry of the part
abbrev pub invariant-loop-code : goal.invariant-loop-code
invariant-loop-code l = record {
  clear : AreClear l.part (data_of l.home) l.clear;
  none : (c : ℕ) → l.first ≤ c → c < l.code → IsScalar c → leads_to l.part (data_of l.home) ((data_of l.home).value c) ≡ false;
}
