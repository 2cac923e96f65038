-- What a reordering of rules is (UTS #35 part 5, "Collation Reordering").
use Rattle.std.specs.Prelude.{ℕ, ◌≡◌, true, List, [], map, Option, Some, None, String}
use Rattle.std.specs.declared.alloc.Global.{Global}
use Rattle.icu_table_provider.specs.Reorderings.{Reordering}
use Rattle.icu_rule_meaning.specs.Steps.{TailoringState}
use Rattle.icu_rule_weights.specs.tailoring_numbers.Numberings.{number_of}
use Rattle.icu_rule_weights.specs.declared.tailoring_numbers.tailoring_numbers.TailoringNumbers.{TailoringNumbers}
use Rattle.icu_rule_root.specs.declared.checked_root.CheckedRoot.{CheckedRoot}
use Rattle.icu_rule_tables.specs.declared.script_reordering.script_groups.ScriptSpan.{ScriptSpan}
use Rattle.icu_rule_tables.specs.declared.script_reordering.script_groups.ScriptStart.{ScriptStart}
use Rattle.icu_rule_tables.specs.script_reordering.ScriptOrders.{OrdersScripts}
use Rattle.icu_rule_tables.specs.script_reordering.ReorderedSpans.{IsReorderedBy}
use Rattle.icu_rule_tables.specs.RootGroups.{HaveStarts, are_groups, covers_all}
use Rattle.icu_rule_tables.specs.RuleSettings.{reorder_words}
use Rattle.icu_rule_tables.specs.StatesByRules.{mappings_beside}

-- The root's groups are in the order that words say. Each is as long as the primary weights of a tree, by their
-- numbers, ask: these are tailored ones, and those of the root that they stand between.
pub record ReordersGroups (root : CheckedRoot) (numbers : TailoringNumbers) (state : TailoringState) (words : List (String Global)) (r : Reordering) : Type 0 where
  pub starts : List ScriptStart
  pub spans : List ScriptSpan
  pub order : List ScriptSpan
  pub of_root : HaveStarts (mappings_beside root) starts
  pub groups : are_groups starts spans ≡ true
  pub tailored : covers_all spans (map (number_of numbers) (state.tree [])) ≡ true
  pub ordered : OrdersScripts starts spans words order
  pub put : IsReorderedBy order r

-- a reordering by these words, if there are some, and else none
abbrev pub IsReorderingBy : CheckedRoot → TailoringNumbers → TailoringState → Option (List (String Global)) → Option Reordering → Type 0
IsReorderingBy root numbers state None r = r ≡ None
IsReorderingBy root numbers state (Some words) None = ⊥
IsReorderingBy root numbers state (Some words) (Some r) = ReordersGroups root numbers state words r

-- the reordering that a state says
abbrev pub IsReorderingOf : CheckedRoot → TailoringNumbers → TailoringState → Option Reordering → Type 0
IsReorderingOf root numbers state r = IsReorderingBy root numbers state (reorder_words state.settings) r
