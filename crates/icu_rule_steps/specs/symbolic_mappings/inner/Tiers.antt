-- Mappings that references refer to, and which of them count behind a context.
use Rattle.std.specs.Prelude.{ℕ, not, bytes_eq, if◌then◌else◌, List, [], ◌++◌, map, filter, Option, Some, None, option_map}
use Rattle.std.specs.Borrow.{Bor}
use Rattle.std.specs.List.{list_any}
use Rattle.icu_rule_meaning.specs.declared.symbolic.SymbolicElement.{SymbolicElement}
use Rattle.icu_rule_meaning.specs.TailoredMappings.{SymbolicMapping, SymbolicMatch, begin_suffix, stands_after_prefix}
use Rattle.icu_element_matches.specs.Texts.{unread}
use Rattle.icu_element_matches.specs.declared.text.Text.{Text}
use Rattle.icu_rule_steps.specs.declared.symbolic_mappings.character_mapping.CharacterMapping.{CharacterMapping}
use Rattle.icu_rule_steps.specs.symbolic_mappings.StoredMappings.{symbolic_mapping}

-- the mapping that a reference refers to
abbrev pub lent_mapping : Bor (CharacterMapping SymbolicElement) → SymbolicMapping
lent_mapping r = symbolic_mapping r.now

-- the mappings that references refer to
abbrev pub lent_mappings : List (Bor (CharacterMapping SymbolicElement)) → List SymbolicMapping
lent_mappings = map lent_mapping

-- the mapping that a reference refers to, where there is one
abbrev pub maybe_lent : Option (Bor (CharacterMapping SymbolicElement)) → Option SymbolicMapping
maybe_lent = option_map lent_mapping

-- the mappings of a prefix before those of shorter ones
abbrev pub joined_tiers : List SymbolicMapping → List SymbolicMapping → List SymbolicMapping
joined_tiers own shorter =
    if list_any (λ m. bytes_eq m.suffix []) own then own else own ++ filter (λ m. not (begin_suffix own m)) shorter

-- the mappings that count behind a prefix, where those behind shorter ones are known
abbrev pub with_tier : List SymbolicMapping → List ℕ → List SymbolicMapping → List SymbolicMapping
with_tier mappings prefix shorter = joined_tiers (filter (stands_after_prefix prefix) mappings) shorter

-- what was matched, and what is left of the text
abbrev pub match_left_by : Option SymbolicMapping → Text → SymbolicMatch
match_left_by None text = record { elements = []; suffix = []; rest = unread text }
match_left_by (Some m) text = record { elements = m.elements; suffix = m.suffix; rest = unread text }
