-- What a root or a tailoring says, as it is stored.
use Rattle.std.specs.Prelude.{ℕ, List, map, slice_index}
use Rattle.icu_table_data.specs.declared.code_point_table.CodePointTable.{CodePointTable}
use Rattle.icu_table_data.specs.declared.context.ContextTable.{ContextTable}
use Rattle.icu_table_data.specs.declared.context.FoundContext.{FoundContext}
use Rattle.icu_table_data.specs.declared.context.FoundMapping.{FoundMapping}
use Rattle.icu_table_data.specs.declared.data.CollationData.{CollationData}
use Rattle.icu_table_entries.specs.Elements.{element_of}
use Rattle.icu_table_data.specs.CodePointTables.{stored_value}
use Rattle.icu_table_data.specs.Data.{Mapping, Context, Data}
use Rattle.icu_table_data.specs.Contexts.{mappings_of, stored_contexts}

-- the function from characters to values that a code point table is
abbrev pub table_value : CodePointTable → ℕ → ℕ
table_value t = stored_value t.blocks.now t.values.now

-- the number of its block that 64 code points share
abbrev pub table_block : CodePointTable → ℕ → ℕ
table_block t i = slice_index t.blocks.now i

-- the contexts of a context table
abbrev pub contexts_of : ContextTable → List Context
contexts_of t = stored_contexts t.contexts.now t.mappings.now t.chars.now

-- a context that was looked up
abbrev pub found_context : FoundContext → Context
found_context f = record { default = f.default; mappings = mappings_of f.chars.now f.mappings.now }

-- a mapping that was looked up
abbrev pub found_mapping : FoundMapping → Mapping
found_mapping r = record { chars = r.chars.now; entry = r.entry }

-- a root or a tailoring by its code point table, its lists of elements and of entries, and its contexts
abbrev pub data_by : CodePointTable → List ℕ → List ℕ → ContextTable → Data
data_by trie ces ce32s contexts =
    record { value = table_value trie; elements = map element_of ces; entries = ce32s; contexts = contexts_of contexts }

-- the number of the block that 64 code points of a root or a tailoring share
abbrev pub block_in : CollationData → ℕ → ℕ
block_in d i = table_block d.trie i

-- what a root or a tailoring that is stored says
unfoldable pub data_of : CollationData → Data
data_of d = data_by d.trie d.ces.now d.ce32s.now d.contexts
