-- The characters that mappings name, and lists of characters that have them.
use Rattle.std.specs.Prelude.{◌≡◌, ◌<◌, ◌≤◌, ℕ, Bool, false, ◌==◌, List, length, slice_index, Option, Some, None}
use Rattle.std.specs.List.{list_any}
use Rattle.icu_table_data.specs.Data.{Mapping, Context, Data}

-- a mapping names the character
abbrev pub names : ℕ → Mapping → Bool
names x mapping = list_any (λ c. c == x) mapping.chars

-- a mapping of a context does
abbrev pub is_named_in : ℕ → Context → Bool
is_named_in x context = list_any (names x) context.mappings

-- a mapping of one of its contexts names the character
abbrev pub is_named : ℕ → Data → Bool
is_named x home = list_any (is_named_in x) home.contexts

-- a mapping of the tailoring does, where there is one
abbrev pub is_named_by_tailoring : ℕ → Option Data → Bool
is_named_by_tailoring x None = false
is_named_by_tailoring x (Some d) = is_named x d

-- a list has the character
abbrev pub has_character : ℕ → List ℕ → Bool
has_character x chars = list_any (λ c. c == x) chars

-- no member is below one before it
abbrev pub Ascends : List ℕ → Type 0
Ascends xs = (i j : ℕ) → i ≤ j → j < length xs → slice_index xs i ≤ slice_index xs j

-- what a list doesn't have no mapping of a root or a tailoring names
abbrev pub HasMappingCharacters : List ℕ → Data → Type 0
HasMappingCharacters chars home = (x : ℕ) → has_character x chars ≡ false → is_named x home ≡ false

-- what it doesn't have no mapping of the tailoring names, where there is one
abbrev pub HasTailoringCharacters : List ℕ → Option Data → Type 0
HasTailoringCharacters chars tailoring = (x : ℕ) → has_character x chars ≡ false → is_named_by_tailoring x tailoring ≡ false

-- a list has all that another has
abbrev pub KeepsCharacters : List ℕ → List ℕ → Type 0
KeepsCharacters old new = (x : ℕ) → has_character x new ≡ false → has_character x old ≡ false
