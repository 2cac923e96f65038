-- What a root or a tailoring says that owns its lists.
use Rattle.std.specs.Prelude.{◌⊎◌, true, map}
use Rattle.icu_table_entries.specs.declared.error.DataErrorKind.{DataErrorKind}
use Rattle.icu_table_entries.specs.Elements.{element_of}
use Rattle.icu_table_provider.specs.declared.builder.data_vectors.DataVectors.{DataVectors}
use Rattle.icu_table_provider.specs.declared.builder.data_vectors.OwnedData.{OwnedData}
use Rattle.icu_table_data.specs.CodePointTables.{IsCodePointTable, FailsBlocks, stored_value}
use Rattle.icu_table_data.specs.Contexts.{IsContextTable, FailsContexts, stored_contexts}
use Rattle.icu_table_data.specs.ReachableConditions.{IsWellFormedData, FailsData}
use Rattle.icu_table_data.specs.Data.{Data}

-- what the lists say as they stand
unfoldable pub vectors_data : DataVectors → Data
vectors_data v =
    record {
      value = stored_value v.blocks.items v.values.items;
      elements = map element_of v.ces.items;
      entries = v.ce32s.items;
      contexts = stored_contexts v.contexts.items v.mappings.items v.chars.items;
    }

-- what the lists of a table say that has passed its checks
unfoldable pub owned_data : OwnedData → Data
owned_data o = vectors_data o.vectors

-- the constructors of a root or a tailoring take the lists
pub record MayBeData (v : DataVectors) : Type 0 where
  pub table : IsCodePointTable v.blocks.items v.values.items
  pub contexts : IsContextTable v.contexts.items v.mappings.items v.chars.items
  pub reachable : IsWellFormedData true (vectors_data v)

-- a condition of this kind fails
abbrev pub FailsVectors : DataVectors → DataErrorKind → Type 0
FailsVectors v kind =
    FailsBlocks v.blocks.items v.values.items kind
    ⊎ FailsContexts v.contexts.items v.mappings.items v.chars.items kind
    ⊎ FailsData true (vectors_data v) kind
