-- Blocks of 64 code points, each of whose characters gives the same elements wherever it stands.
use Rattle.std.specs.Prelude.{◌≡◌, ℕ, ◌+◌, ◌*◌, ◌<◌, ◌≤◌, true, [], ◌∷◌}
use Rattle.ucd_normal.specs.declared.forms.Form.TheVariants.{Nfd}
use Rattle.unicode_normalization.specs.Decompose.{decompose}
use Rattle.unicode_normalization.specs.Order.{is_starter}
use Rattle.icu_table_entries.specs.Entries.{kind_of}
use Rattle.icu_table_provider.specs.Tables.{entry_of}
use Rattle.icu_element_reading.specs.TextElements.{Reading}
use Rattle.icu_element_reading.specs.boundaries.Alone.{looks_at_nothing}
use Rattle.icu_element_facts.specs.KeptFacts.{IsOwn}

-- a starter that decomposes to itself, past all marks of the Latin script and past the jamo
pub record IsPlain (c : ℕ) : Type 0 where
  pub itself : decompose Nfd c ≡ c ∷ []
  pub starter : is_starter c ≡ true
  pub late : 0x1200 ≤ c

-- all characters of a block are such
abbrev pub IsPlainBlock : ℕ → Type 0
IsPlainBlock index = (k : ℕ) → k < 64 → IsPlain (64 * index + k)

-- the character's entry gives the same wherever it stands
abbrev pub HasLoneEntry : Reading → ℕ → Type 0
HasLoneEntry reading c = looks_at_nothing reading.numeric (kind_of (entry_of reading.tables c).entry) ≡ true

-- all of its characters are own characters
abbrev pub IsOwnBlock : Reading → ℕ → Type 0
IsOwnBlock reading index = (k : ℕ) → k < 64 → IsOwn reading (64 * index + k)
