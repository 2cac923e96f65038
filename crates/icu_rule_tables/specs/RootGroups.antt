-- The groups of a root that a reordering moves: scripts, and special groups such as digits (UTS #35 part 5, "Collation
-- Reordering"). Contractions of U+FDD1, which is of no text, with a sample character of each have their first primary
-- weights.
use Rattle.std.specs.Prelude.{ℕ, ◌≡◌, ◌/◌, ◌*◌, ◌<◌, ◌≤◌, ◌⊎◌, Bool, ◌&&◌, ◌||◌, ◌==◌, nat_le, nat_lt, bytes_eq, slice_index, length, if◌then◌else◌, List, [], map, filter_map, Option, Some, None}
use Rattle.std.specs.List.{Contains, list_any, list_all}
use Rattle.icu_table_entries.specs.Elements.{Element}
use Rattle.icu_rule_meaning.specs.TailoredRoots.{RootMapping}
use Rattle.icu_rule_steps.specs.symbolic_mappings.StoredMappings.{root_mapping}
use Rattle.icu_rule_steps.specs.declared.symbolic_mappings.character_mapping.CharacterMapping.{CharacterMapping}
use Rattle.icu_rule_root.specs.CheckedRoots.{leading_primary}
use Rattle.icu_rule_tables.specs.declared.script_reordering.script_groups.ScriptSpan.{ScriptSpan}
use Rattle.icu_rule_tables.specs.declared.script_reordering.script_groups.ScriptStart.{ScriptStart}

-- where a group begins, by a sample character and a primary weight above the separator's and below implicit ones
abbrev pub script_start : ℕ → ℕ → Option ScriptStart
script_start sample primary =
    if nat_le 0x3000000 primary && nat_lt primary 0xFE000000 then Some (record { sample = sample; start = primary / 0x10000 }) else None

-- where a group begins, as a mapping with a sample character behind says it
unfoldable pub start_mapped : CharacterMapping Element → Option ScriptStart
start_mapped m =
    if bytes_eq m.prefix.items [] && (length m.suffix.items == 1) then script_start (slice_index m.suffix.items 0) (leading_primary m.elements.items) else None

-- these are all starts of the root's groups
pub record HaveStarts (mappings : ℕ → List RootMapping) (starts : List ScriptStart) : Type 0 where
  pub kept : List (CharacterMapping Element)
  pub same : map root_mapping kept ≡ mappings 0xFDD1
  pub starts_are : starts ≡ filter_map start_mapped kept

-- the two highest bytes of the first weight that may be a character's
abbrev pub first_block : ℕ
first_block = 0x300

-- those of the first implicit weight
abbrev pub implicit_block : ℕ
implicit_block = 0xFE00

-- a group begins at one of these starts
abbrev pub begins_at : List ScriptStart → ScriptSpan → Bool
begins_at starts s = list_any (λ (at : ScriptStart). at.start == s.start) starts

-- none of these starts is within a group, but its own
abbrev pub is_undivided : List ScriptStart → ScriptSpan → Bool
is_undivided starts s = list_all (λ (at : ScriptStart). nat_le at.start s.start || nat_le s.end at.start) starts

-- A group begins at a start, or is what stands before all of them, or the implicit weights; and no other group begins
-- within it.
unfoldable pub is_group_of : List ScriptStart → ScriptSpan → Bool
is_group_of starts s = ((s.start == first_block) || (s.start == implicit_block) || begins_at starts s) && is_undivided starts s

-- each start is that of a group
unfoldable pub begins_group : List ScriptSpan → ScriptStart → Bool
begins_group spans at = list_any (λ (s : ScriptSpan). s.start == at.start) spans

-- the groups that begin at these starts, and the implicit weights
abbrev pub are_groups : List ScriptStart → List ScriptSpan → Bool
are_groups starts spans = list_all (is_group_of starts) spans && list_all (begins_group spans) starts

-- the weight is one of a group
abbrev pub has_weight : ℕ → ScriptSpan → Bool
has_weight w s = nat_le s.start (w / 0x10000) && nat_lt (w / 0x10000) s.end

-- the weight is one of these groups, or no character's
unfoldable pub is_grouped : List ScriptSpan → ℕ → Bool
is_grouped spans w = nat_lt w 0x3000000 || list_any (has_weight w) spans

-- these groups have all weights
unfoldable pub covers_all : List ScriptSpan → List ℕ → Bool
covers_all spans weights = list_all (is_grouped spans) weights
