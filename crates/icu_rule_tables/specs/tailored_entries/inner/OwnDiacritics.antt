-- The secondary weight of a mark by the characters that relations touched.
use Rattle.std.specs.Prelude.{ℕ, ◌≡◌, List, MatchBool}
use Rattle.std.specs.List.{Contains}
use Rattle.icu_rule_weights.specs.declared.tailoring_numbers.tailoring_numbers.TailoringNumbers.{TailoringNumbers}
use Rattle.icu_rule_steps.specs.symbolic_mappings.StoredMappings.{symbolic_mappings}
use Rattle.icu_rule_steps.specs.symbolic_mappings.TouchedCharacters.{have_touched}
use Rattle.icu_rule_steps.specs.declared.symbolic_mappings.character_mapping.TouchedCharacter.{TouchedCharacter}
use Rattle.icu_rule_tables.specs.tailored_entries.TailoredDiacritics.{HaveSecondaryAlone}

-- one of these characters is this one, and its mappings give the secondary weight alone
pub record IsListedSecondary (touched : List TouchedCharacter) (t : TailoringNumbers) (c secondary : ℕ) : Type 0 where
  pub listed : TouchedCharacter
  pub member : Contains touched listed
  pub character : listed.character ≡ c
  pub alone : HaveSecondaryAlone t (symbolic_mappings listed.mappings.now) secondary

-- the secondary weight of a mark: by its own mappings, if it is listed, or else the root's
abbrev pub IsOwnSecondary : List TouchedCharacter → TailoringNumbers → ℕ → ℕ → ℕ → Type 0
IsOwnSecondary touched t c rooted secondary =
    MatchBool (have_touched touched c) (IsListedSecondary touched t c secondary) (secondary ≡ rooted)
