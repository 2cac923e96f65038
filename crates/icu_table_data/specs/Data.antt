-- What a root or a tailoring says, apart from how it is stored.
use Rattle.std.specs.Prelude.{ℕ, Bool, true, ◌&&◌, nat_lt, nat_eq, List, [], ◌∷◌, Option, Some, None, if◌then◌else◌, slice_index, slice_index_or, bytes_eq, length, take, drop}
use Rattle.std.specs.List.{starts_with}
use Rattle.icu_table_entries.specs.Elements.{Element, end_element}
use Rattle.icu_table_entries.specs.Entries.{entry_index}

-- a list of characters with its entry
pub record Mapping : Type 0 where
  pub chars : List ℕ
  pub entry : ℕ

-- what a character means beside others: an entry for each of some lists of characters, and one for all else (UTS #35
-- part 5, "Context-Sensitive Mappings")
pub record Context : Type 0 where
  pub default : ℕ
  pub mappings : List Mapping

-- A root or a tailoring: a function from characters to entries, and the lists and contexts that entries name (UTS #35
-- part 5, "Collation Tailorings").
pub record Data : Type 0 where
  pub value : ℕ → ℕ
  pub elements : List Element
  pub entries : List ℕ
  pub contexts : List Context

-- an entry with its home: the table whose lists and contexts it refers to
pub record HomedEntry : Type 0 where
  pub home : Data
  pub entry : ℕ

-- an entry with this home
abbrev pub homed : Data → ℕ → HomedEntry
homed home e = record { home = home; entry = e }

-- the empty context
abbrev pub no_context : Context
no_context = record { default = 0; mappings = [] }

-- the context at an index, or the empty one where there is none
abbrev pub context_in : List Context → ℕ → Context
context_in contexts index = slice_index_or contexts index no_context

-- the context that an entry refers to, or the empty one where its home has none at that index
abbrev pub context_of : HomedEntry → Context
context_of h = context_in h.home.contexts (entry_index h.entry)

-- the data that an offset entry refers to, or the end element where its home has none at that index
abbrev pub data_element : Data → ℕ → Element
data_element home e = slice_index_or home.elements (entry_index e) end_element

-- the data that an offset entry refers to, if its home has them
abbrev pub found_data : Data → ℕ → List Element
found_data home e = take 1 (drop (entry_index e) home.elements)

-- the plain entry that a digit entry refers to, or 0 where its home has none at that index
abbrev pub plain_of : Data → ℕ → ℕ
plain_of home e = slice_index home.entries (entry_index e)

-- the entry of the mapping with these characters
unfoldable pub mapping_entry : List Mapping → List ℕ → Option ℕ
mapping_entry [] chars = None
mapping_entry (mapping ∷ mappings) chars = if bytes_eq mapping.chars chars then Some mapping.entry else mapping_entry mappings chars

-- the mapping has more characters than the other one, or there is no other one
abbrev pub is_longer : Mapping → Option Mapping → Bool
is_longer mapping None = true
is_longer mapping (Some best) = nat_lt (length best.chars) (length mapping.chars)

-- the mapping, where it begins the text and is longer than the best so far
abbrev pub better : Option Mapping → Mapping → List ℕ → Option Mapping
better best mapping text = if starts_with nat_eq text mapping.chars && is_longer mapping best then Some mapping else best

-- the longest of the mappings that begin the text, and of the best before them
unfoldable pub longest_from : Option Mapping → List Mapping → List ℕ → Option Mapping
longest_from best [] text = best
longest_from best (mapping ∷ mappings) text = longest_from (better best mapping text) mappings text

-- the longest mapping that begins the text (UTS #10, "Produce Collation Element Arrays")
abbrev pub longest_mapping : List Mapping → List ℕ → Option Mapping
longest_mapping = longest_from None
