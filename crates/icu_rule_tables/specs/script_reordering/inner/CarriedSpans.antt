-- A group that a reordering moves as a whole.
use Rattle.std.specs.Prelude.{ℕ, ◌+◌, ◌-◌, ◌/◌, ◌<◌, ◌≤◌, List, slice_index_or}
use Rattle.icu_table_provider.specs.Reorderings.{Reordering, reordered}
use Rattle.icu_table_provider.specs.well_formed.Leads.{TakesBlock}
use Rattle.icu_rule_tables.specs.declared.script_reordering.script_groups.ScriptSpan.{ScriptSpan}
use Rattle.icu_rule_tables.specs.script_reordering.ReorderedSpans.{IsInSpan, KeepsWeightOrder, PutsBefore}

-- the blocks from the first one on and below a limit come to leads as far apart as they were, the first to this one
abbrev pub CarriesUpTo : Reordering → ScriptSpan → ℕ → ℕ → Type 0
CarriesUpTo r s to limit = (h : ℕ) → h < limit → s.start ≤ h → TakesBlock r h (to + h / 256 - s.start / 256)

-- all blocks of a group
abbrev pub CarriesTo : Reordering → ScriptSpan → ℕ → Type 0
CarriesTo r s to = CarriesUpTo r s to s.end

-- the weights of a group stay in their order, and come between two weights
pub record IsCarried (r : Reordering) (s : ScriptSpan) (above next : ℕ) : Type 0 where
  pub kept : KeepsWeightOrder r s
  pub from : (p : ℕ) → IsInSpan s p → above ≤ reordered r p
  pub below : (p : ℕ) → IsInSpan s p → reordered r p < next
  pub ascends : above ≤ next
  pub small : next ≤ 0xFF000000

-- so many of groups are put in their order, below a weight
pub record IsReorderedTo (order : List ScriptSpan) (r : Reordering) (count above : ℕ) : Type 0 where
  pub kept : (i : ℕ) → i < count → (d : ScriptSpan) → KeepsWeightOrder r (slice_index_or order i d)
  pub from : (i : ℕ) → i < count → (d : ScriptSpan) → (p : ℕ) → IsInSpan (slice_index_or order i d) p → 0x3000000 ≤ reordered r p
  pub below : (i : ℕ) → i < count → (d : ScriptSpan) → (p : ℕ) → IsInSpan (slice_index_or order i d) p → reordered r p < above
  pub apart : (j : ℕ) → j < count → (i : ℕ) → i < j → (d : ScriptSpan) → PutsBefore r (slice_index_or order i d) (slice_index_or order j d)
  pub least : 0x3000000 ≤ above
  pub small : above ≤ 0xFF000000
