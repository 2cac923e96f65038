-- The order of groups that the codes of `[reorder ..]` say (UTS #35 part 5, "Collation Reordering").
use Rattle.std.specs.Prelude.{◌≡◌, ◌++◌, Bool, true, false, not, ◌&&◌, ◌||◌, ◌==◌, nat_lt, count_by, String, string_bytes, None, if◌then◌else◌, List, [], filter}
use Rattle.std.specs.List.{Any, list_any, flat_map}
use Rattle.std.specs.declared.alloc.Global.{Global}
use Rattle.icu_rule_tables.specs.declared.script_reordering.reorder_codes.ReorderCode.{ReorderCode}
use Rattle.icu_rule_tables.specs.declared.script_reordering.reorder_codes.ReorderCode.TheVariants.{Others}
use Rattle.icu_rule_tables.specs.declared.script_reordering.reordering_error.ReorderingError.{ReorderingError}
use Rattle.icu_rule_tables.specs.declared.script_reordering.reordering_error.ReorderingError.TheVariants.{NoMemory, UnknownGroup, RepeatedGroup, NoLeads, NoGroups}
use Rattle.icu_rule_tables.specs.declared.script_reordering.script_groups.ScriptSpan.{ScriptSpan}
use Rattle.icu_rule_tables.specs.declared.script_reordering.script_groups.ScriptStart.{ScriptStart}
use Rattle.icu_rule_tables.specs.script_reordering.ReorderCodes.{AreCodes, code_said, is_special_sample, names_sample}

-- the code stands for all scripts that no code names
abbrev pub is_others : ReorderCode → Bool
is_others Others = true
is_others _ = false

-- the weights are those of a special group
unfoldable pub is_special : List ScriptStart → ScriptSpan → Bool
is_special starts s = list_any (λ (at : ScriptStart). (at.start == s.start) && is_special_sample at.sample) starts

-- the weights are those of the group that a code names
unfoldable pub names_span : List ScriptStart → ReorderCode → ScriptSpan → Bool
names_span starts code s = list_any (λ (at : ScriptStart). (at.start == s.start) && names_sample code at.sample) starts

-- one of the codes names it
unfoldable pub is_named_group : List ScriptStart → List ReorderCode → ScriptSpan → Bool
is_named_group starts named s = list_any (λ code. names_span starts code s) named

-- it is a special group that no code names: these stay in front
abbrev pub stays_in_front : List ScriptStart → List ReorderCode → ScriptSpan → Bool
stays_in_front starts named s = is_special starts s && not (is_named_group starts named s)

-- it is one of the others
abbrev pub is_other : List ScriptStart → List ReorderCode → ScriptSpan → Bool
is_other starts named s = not (is_special starts s) && not (is_named_group starts named s)

-- the groups that a code puts where it stands
unfoldable pub spans_of_code : List ScriptStart → List ReorderCode → List ScriptSpan → ReorderCode → List ScriptSpan
spans_of_code starts named spans code =
    if is_others code then filter (is_other starts named) spans else filter (names_span starts code) spans

-- the others, if no code stands for them
unfoldable pub others_at_end : List ScriptStart → List ReorderCode → List ScriptSpan → List ScriptSpan
others_at_end starts named spans = if list_any is_others named then [] else filter (is_other starts named) spans

-- The groups in their new order: the special groups that no code names, then what the codes name, one after another,
-- and the others where `others` stands, or at the end.
unfoldable pub script_order : List ScriptStart → List ReorderCode → List ScriptSpan → List ScriptSpan
script_order starts named spans =
    filter (stays_in_front starts named) spans
    ++ flat_map (spans_of_code starts named spans) named
    ++ others_at_end starts named spans

-- two of the codes name this group
unfoldable pub is_named_twice : List ScriptStart → List ReorderCode → ScriptSpan → Bool
is_named_twice starts named s = nat_lt 1 (count_by (λ code. names_span starts code s) named)

-- two of the codes name one group, or both stand for the others
unfoldable pub names_one_twice : List ScriptStart → List ReorderCode → List ScriptSpan → Bool
names_one_twice starts named spans =
    nat_lt 1 (count_by is_others named) || list_any (is_named_twice starts named) spans

-- the groups in the order that these words say, none of which is unknown, or names a group again
pub record OrdersScripts (starts : List ScriptStart) (spans : List ScriptSpan) (words : List (String Global)) (order : List ScriptSpan) : Type 0 where
  pub named : List ReorderCode
  pub are_named : AreCodes words named
  pub once : names_one_twice starts named spans ≡ false
  pub ordered : order ≡ script_order starts named spans

-- these words name one group twice
pub record NameTwice (starts : List ScriptStart) (spans : List ScriptSpan) (words : List (String Global)) : Type 0 where
  pub named : List ReorderCode
  pub are_named : AreCodes words named
  pub twice : names_one_twice starts named spans ≡ true

-- the text is one of the words
abbrev pub IsWordOf : List (String Global) → String Global → Type 0
IsWordOf words code = Any (λ (word : String Global). string_bytes word ≡ string_bytes code) words

-- an error of words that name codes: one of them, which it holds, names nothing
abbrev pub IsErrorOfCodes : List (String Global) → ReorderingError → Type 0
IsErrorOfCodes words NoMemory = Unit {0}
IsErrorOfCodes words (UnknownGroup code) = IsWordOf words code × (code_said code ≡ None)
IsErrorOfCodes words (RepeatedGroup code) = ⊥
IsErrorOfCodes words (NoLeads code) = ⊥
IsErrorOfCodes words NoGroups = ⊥

-- What an error says of words. That there are too few lead bytes, or no groups, is left open.
abbrev pub IsErrorOfWords : List ScriptStart → List ScriptSpan → List (String Global) → ReorderingError → Type 0
IsErrorOfWords starts spans words NoMemory = Unit {0}
IsErrorOfWords starts spans words (UnknownGroup code) = IsWordOf words code × (code_said code ≡ None)
IsErrorOfWords starts spans words (RepeatedGroup code) = NameTwice starts spans words × IsWordOf words code
IsErrorOfWords starts spans words (NoLeads code) = Unit {0}
IsErrorOfWords starts spans words NoGroups = Unit {0}
