-- Tables as bytes. Numbers have the width that they have in a table; what may be absent is no byte, or what is there.
use Rattle.std.specs.Prelude.{ℕ, List, [], ◌∷◌, Option, Some, None}
use Rattle.std.specs.Int.{w16, w32, w64}
use Rattle.std.specs.List.{flat_map}
use Rattle.icu_table_provider.specs.Reorderings.{Reordering}
use Rattle.icu_table_files.specs.fingerprint.FingerprintForms.{StoredData, StoredTables, context_words, mapping_words}
use Rattle.icu_table_files.specs.parts.SpeltParts.{bytes_of_numbers, bytes_of_parts}
use Rattle.icu_table_files.specs.FileContents.{StoredContents}

-- the seven lists of a root or a tailoring
abbrev pub data_parts : StoredData → List (List ℕ)
data_parts s =
    bytes_of_numbers w16 s.blocks ∷ bytes_of_numbers w32 s.values ∷ bytes_of_numbers w64 s.elements ∷ bytes_of_numbers w32 s.entries
    ∷ bytes_of_numbers w32 (flat_map context_words s.contexts) ∷ bytes_of_numbers w32 (flat_map mapping_words s.mappings) ∷ bytes_of_numbers w32 s.chars ∷ []

-- a root or a tailoring
abbrev pub data_bytes : StoredData → List ℕ
data_bytes s = bytes_of_parts (data_parts s)

-- the limit, the lead bytes and the ranges of a reordering
abbrev pub reordering_parts : Reordering → List (List ℕ)
reordering_parts r = bytes_of_numbers w32 (r.limit ∷ []) ∷ r.leads ∷ bytes_of_numbers w32 r.ranges ∷ []

-- a reordering
abbrev pub reordering_bytes : Reordering → List ℕ
reordering_bytes r = bytes_of_parts (reordering_parts r)

-- nothing, or what is there
abbrev pub optional_bytes : {X : Type 0} → (X → List ℕ) → Option X → List ℕ
optional_bytes bytes None = []
optional_bytes bytes (Some x) = bytes x

-- the special primary weights: the lead byte of numbers, and the ends of the groups
abbrev pub special_bytes : ℕ → List ℕ → List ℕ
special_bytes numeric last = numeric ∷ bytes_of_numbers w16 last

-- the parts that tables are made of
abbrev pub table_parts : StoredTables → List (List ℕ)
table_parts s =
    data_bytes s.root ∷ optional_bytes data_bytes s.tailoring ∷ bytes_of_numbers w32 s.jamo ∷ bytes_of_numbers w16 s.diacritics
    ∷ special_bytes s.numeric s.last ∷ bytes_of_numbers w32 (s.bits ∷ []) ∷ optional_bytes reordering_bytes s.reordering ∷ []

-- the parts of a file's body
abbrev pub content_parts : StoredContents → List (List ℕ)
content_parts c = c.tag ∷ c.cldr ∷ c.unicode ∷ table_parts c.tables

-- the body of a file
abbrev pub content_bytes : StoredContents → List ℕ
content_bytes c = bytes_of_parts (content_parts c)
