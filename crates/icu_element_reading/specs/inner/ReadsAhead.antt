-- What reading ahead does: characters come from a source of decomposed characters to those that were read.
use Rattle.std.specs.Prelude.{true, not, Bool, ◌<◌, ◌&&◌, ◌||◌, ◌==◌, length, drop, is_some, ◌≡◌, ◌⊎◌, ℕ, List, [], ◌++◌, Option, None, IsTrue, option_to_list, ⊤}
use Rattle.icu_element_reading.specs.declared.decomposed_source.DecomposedSource.{DecomposedSource}
use Rattle.std.specs.List.{list_any}
use Rattle.unicode_normalization.specs.Order.{is_starter}
use Rattle.icu_table_entries.specs.declared.entry.EntryKind.TheVariants.{Digit}
use Rattle.icu_table_entries.specs.Entries.{kind_of}
use Rattle.icu_table_data.specs.Data.{Context, longest_mapping}
use Rattle.icu_table_provider.specs.Tables.{Tables}
use Rattle.icu_element_matches.specs.MatchesAhead.{are_decided, mapping_length}
use Rattle.icu_element_reading.specs.TextElements.{Reading, begins_with_mark, continues_number}
use Rattle.icu_element_reading.specs.inner.Iterating.{StillReads}

-- Some more came after the text that there was, of what the source had; then the text is as it is to be, or the source
-- has no more.
pub record ReadsTo {I : Type 0} (steps : I → Option ℕ → I → Type 0) (Is : List ℕ → Type 0) (old : DecomposedSource I) (text : List ℕ) (new : DecomposedSource I) (longer : List ℕ) : Type 0 where
  pub more : List ℕ
  pub grown : longer ≡ text ++ more
  pub at : (cs : List ℕ) → StillReads steps old cs → (left : List ℕ) × (cs ≡ more ++ left) × StillReads steps new left × (Is longer ⊎ (left ≡ []))

-- some more came
abbrev pub ReadsMore : {I : Type 0} → (I → Option ℕ → I → Type 0) → DecomposedSource I → List ℕ → DecomposedSource I → List ℕ → Type 0
ReadsMore steps = ReadsTo steps (λ _. ⊤)

-- one came, or all did
abbrev pub ReadsOne : {I : Type 0} → (I → Option ℕ → I → Type 0) → Option ℕ → DecomposedSource I → List ℕ → DecomposedSource I → List ℕ → Type 0
ReadsOne steps found old text new longer = ReadsTo steps (λ _. IsTrue (is_some found)) old text new longer × (longer ≡ text ++ option_to_list found)

-- ---- how far it reads

-- a character of the text doesn't go on a number
abbrev pub has_run_end : Tables → List ℕ → Bool
has_run_end tables text = list_any (λ d. not (continues_number tables d)) text

-- a mark comes first, before which a digit is a number by itself, or a character doesn't go on a number
abbrev pub stops_run : Tables → List ℕ → Bool
stops_run tables text = begins_with_mark text || has_run_end tables text

-- so it is, where this entry is a digit's and digits are read as numbers
abbrev pub IsRunRead : Reading → ℕ → List ℕ → Type 0
IsRunRead reading entry text = is_some reading.numeric ≡ true → kind_of entry ≡ Digit → stops_run reading.tables text ≡ true

-- a character is there
abbrev pub IsBegun : List ℕ → Type 0
IsBegun text = 0 < length text

-- so is one after a dot that it may make silent
abbrev pub IsDotRead : Reading → ℕ → List ℕ → Type 0
IsDotRead reading c text = (reading.lithuanian && c == 0x307) ≡ true → IsBegun text

-- the mappings of a context are decided, the longest one takes so many characters, and a starter stands behind them
pub record IsMatchRead (context : Context) (taken : ℕ) (text : List ℕ) : Type 0 where
  pub decided : are_decided context.mappings text ≡ true
  pub longest : mapping_length (longest_mapping context.mappings text) ≡ taken
  pub behind : list_any is_starter (drop taken text) ≡ true

-- and where no mapping begins the text, the run of a digit is read
pub record HasWholeContraction (reading : Reading) (context : Context) (text : List ℕ) : Type 0 where
  pub decided : are_decided context.mappings text ≡ true
  pub behind : list_any is_starter (drop (mapping_length (longest_mapping context.mappings text)) text) ≡ true
  pub run : longest_mapping context.mappings text ≡ None → IsRunRead reading context.default text
