-- How a context is added to those of a table.
use Rattle.std.specs.Prelude.{ℕ, List, map}
use Rattle.std.specs.Borrow.{Bor}
use Rattle.icu_table_data.specs.Data.{Mapping, Context}

-- a mapping as it is given: its characters and its entry
abbrev pub given_mapping : Bor (List ℕ) × ℕ → Mapping
given_mapping r = record { chars = r.0.now; entry = r.1 }

-- the context with this entry for all texts but those of its mappings
abbrev pub given_context : ℕ → List (Bor (List ℕ) × ℕ) → Context
given_context default mappings = record { default = default; mappings = map given_mapping mappings }
