-- What the codes of `[reorder ..]` name (UTS #35 part 5, "Collation Reordering").
use Rattle.std.specs.Prelude.{ℕ, ◌≡◌, Bool, false, not, ◌&&◌, ◌||◌, ◌==◌, bytes_eq, codes, String, string_bytes, if◌then◌else◌, List, map, Option, Some, None, option_map, option_and_then}
use Rattle.std.specs.Char.{to_ascii_lowercase}
use Rattle.std.specs.declared.alloc.Global.{Global}
use Rattle.ucd_script.specs.Script.{script, script_number}
use Rattle.ucd_script.specs.declared.Script.{Script as ScriptName}
use Rattle.ucd_script.specs.declared.Script.TheVariants.{Katakana, Hiragana, Han}
use Rattle.ucd_sets.specs.Lookup.{by_value}
use Rattle.ucd_sets.specs.declared.set.Set.{Set}
use Rattle.ucd_sets.specs.declared.set.Set.TheVariants as sets
use Rattle.icu_rule_tables.specs.declared.script_reordering.reorder_codes.SpecialGroup.{SpecialGroup}
use Rattle.icu_rule_tables.specs.declared.script_reordering.reorder_codes.SpecialGroup.TheVariants.{Space, Punctuation, Symbol, Currency, Digit}
use Rattle.icu_rule_tables.specs.declared.script_reordering.reorder_codes.ReorderCode.{ReorderCode}
use Rattle.icu_rule_tables.specs.declared.script_reordering.reorder_codes.ReorderCode.TheVariants.{Others, Special, Script}

-- the special group that a word names
unfoldable pub special_named : List ℕ → Option SpecialGroup
special_named word =
    if bytes_eq word (codes "space") then Some Space
    else (if bytes_eq word (codes "punct") then Some Punctuation
    else (if bytes_eq word (codes "symbol") then Some Symbol
    else (if bytes_eq word (codes "currency") then Some Currency
    else (if bytes_eq word (codes "digit") then Some Digit else None))))

-- the script whose weights stand with those of another: Hiragana's with Katakana's
unfoldable pub folded_script : ScriptName → ScriptName
folded_script Hiragana = Katakana
folded_script other = other

-- the script of a set of Unicode's
unfoldable pub script_of_set : Set → Option ScriptName
script_of_set (sets.Script s) = Some (folded_script s)
script_of_set _ = None

-- the script that Unicode has under a name in lower case
unfoldable pub unicode_script : List ℕ → Option ScriptName
unicode_script name = option_and_then script_of_set (by_value (codes "sc") name)

-- The script that a name in lower case stands for. Names of several scripts together stand for the one whose weights
-- these have.
unfoldable pub script_named : List ℕ → Option ScriptName
script_named name =
    if bytes_eq name (codes "hrkt") then Some Katakana
    else (if bytes_eq name (codes "hans") || bytes_eq name (codes "hant") then Some Han
    else unicode_script name)

-- what a code names
unfoldable pub code_named : List ℕ → Option ReorderCode
code_named word =
    if bytes_eq word (codes "others") || bytes_eq word (codes "Zzzz") then Some Others
    else (elim (special_named word) [
      | Some group ↦ Some (Special group)
      | None ↦ option_map Script (script_named (map to_ascii_lowercase word))
    ])

-- what the code in a string names
abbrev pub code_said : String Global → Option ReorderCode
code_said word = code_named (string_bytes word)

-- these codes are named
abbrev pub AreCodes : List (String Global) → List ReorderCode → Type 0
AreCodes words named = map code_said words ≡ map (λ c. Some c) named

-- the sample character of a special group
unfoldable pub special_sample : SpecialGroup → ℕ
special_sample Space = 0xA0
special_sample Punctuation = 0x201C
special_sample Symbol = 0x263A
special_sample Currency = 0x20AC
special_sample Digit = 0x34

-- it is the sample of a special group
abbrev pub is_special_sample : ℕ → Bool
is_special_sample c = (c == 0xA0) || (c == 0x201C) || (c == 0x263A) || (c == 0x20AC) || (c == 0x34)

-- a code names the group that a sample character stands for; `others` names none
unfoldable pub names_sample : ReorderCode → ℕ → Bool
names_sample Others c = false
names_sample (Special group) c = c == special_sample group
names_sample (Script s) c = not (is_special_sample c) && (script_number s == script_number (folded_script (script c)))
