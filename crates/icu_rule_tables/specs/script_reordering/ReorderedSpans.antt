-- A reordering that puts groups of primary weights in an order (UTS #35 part 5, "Collation Reordering").
use Rattle.std.specs.Prelude.{ℕ, ◌*◌, ◌<◌, ◌≤◌, List, length, slice_index_or}
use Rattle.icu_table_provider.specs.Reorderings.{Reordering, reordered}
use Rattle.icu_rule_tables.specs.declared.script_reordering.script_groups.ScriptSpan.{ScriptSpan}

-- the primary weight is one of a group
abbrev pub IsInSpan : ScriptSpan → ℕ → Type 0
IsInSpan s p = (s.start * 0x10000 ≤ p) × (p < s.end * 0x10000)

-- the weights of a group stay in their order
abbrev pub KeepsWeightOrder : Reordering → ScriptSpan → Type 0
KeepsWeightOrder r s = (p q : ℕ) → IsInSpan s p → IsInSpan s q → p < q → reordered r p < reordered r q

-- all weights of one group come before all of another
abbrev pub PutsBefore : Reordering → ScriptSpan → ScriptSpan → Type 0
PutsBefore r s t = (p q : ℕ) → IsInSpan s p → IsInSpan t q → reordered r p < reordered r q

-- the weights of a group come to lead bytes from 03 to FE
abbrev pub StaysInside : Reordering → ScriptSpan → Type 0
StaysInside r s = (p : ℕ) → IsInSpan s p → (0x3000000 ≤ reordered r p) × (reordered r p < 0xFF000000)

-- groups, in their new order, are so put by a reordering
pub record IsReorderedBy (order : List ScriptSpan) (r : Reordering) : Type 0 where
  pub kept : (i : ℕ) → i < length order → (d : ScriptSpan) → KeepsWeightOrder r (slice_index_or order i d)
  pub inside : (i : ℕ) → i < length order → (d : ScriptSpan) → StaysInside r (slice_index_or order i d)
  pub apart : (j : ℕ) → j < length order → (i : ℕ) → i < j → (d : ScriptSpan) → PutsBefore r (slice_index_or order i d) (slice_index_or order j d)
