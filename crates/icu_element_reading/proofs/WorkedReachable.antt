-- Reachable entries of small tables, computed.
use Rattle.std.proofs.Common.{◌≡◌, [], ◌∷◌, refl}
use Rattle.icu_table_entries.specs.Entries.{kind_of}
use Rattle.icu_table_data.specs.Data.{Data}
use Rattle.icu_table_data.specs.Reachable.{reachable_digit, reachable_contraction, reachable_from}

-- The first context is a contraction's, with a mapping that comes to a digit. The second is a prefix's: its default is
-- that contraction, and its mapping comes to a prefix.
abbrev small : Data
small = record {
  value = λ c. 0;
  elements = [];
  entries = 0x14100505 ∷ 0x14140505 ∷ [];
  contexts =
      record { default = 0x61100505; mappings = record { chars = 0x30A ∷ []; entry = 0x21CA } ∷ [] }
      ∷ record { default = 0xC9; mappings = record { chars = 97 ∷ []; entry = 0x20C8 } ∷ [] } ∷ [];
}

contraction : reachable_from small 0xC9 ≡ 0xC9 ∷ 0x61100505 ∷ 0x21CA ∷ 0x14140505 ∷ []
unfolding reachable_from reachable_contraction reachable_digit kind_of
contraction = refl

-- a prefix that a prefix leads to is reachable, and opens nothing
prefix : reachable_from small 0x20C8 ≡ 0x20C8 ∷ 0xC9 ∷ 0x61100505 ∷ 0x21CA ∷ 0x14140505 ∷ 0x20C8 ∷ []
unfolding reachable_from reachable_contraction reachable_digit kind_of
prefix = refl

-- a context that isn't there reads as the empty one
missing : reachable_from small 0xE0C9 ≡ 0xE0C9 ∷ 0 ∷ []
unfolding reachable_from reachable_contraction reachable_digit kind_of
missing = refl
