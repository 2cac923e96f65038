-- How far a match looks into a text, where more of it may follow.
use Rattle.std.specs.Prelude.{◌≡◌, ◌⊎◌, ℕ, Bool, true, false, not, ◌||◌, nat_eq, List, [], ◌∷◌, ◌++◌, Option, Some, None, length, take}
use Rattle.std.specs.List.{list_all}
use Rattle.icu_table_data.specs.Data.{Mapping, HomedEntry}
use Rattle.icu_element_matches.specs.Matches.{Match, match_of}

-- a match that leaves more
abbrev pub and_then : Match → List ℕ → Match
and_then m more = record { entry = m.entry; suffix = m.suffix; rest = m.rest ++ more }

-- a match that consumes nothing
abbrev pub lone_match : ℕ → List ℕ → Match
lone_match entry text = record { entry = entry; suffix = []; rest = text }

-- what follows the text changes nothing of the match but what it leaves
abbrev pub HasWholeMatch : HomedEntry → List ℕ → List ℕ → Type 0
HasWholeMatch h before text = (left : List ℕ) → match_of h before (text ++ left) ≡ and_then (match_of h before text) left

-- what follows the text doesn't decide whether it begins with these characters: they don't go on where the text ends
unfoldable pub is_decided : List ℕ → List ℕ → Bool
is_decided [] text = true
is_decided (y ∷ ys) [] = false
is_decided (y ∷ ys) (c ∷ cs) = not (nat_eq y c) || is_decided ys cs

-- what follows the text doesn't decide which of these mappings it begins with
abbrev pub are_decided : List Mapping → List ℕ → Bool
are_decided mappings text = list_all (λ mapping. is_decided mapping.chars text) mappings

-- how many characters a mapping has
abbrev pub mapping_length : Option Mapping → ℕ
mapping_length None = 0
mapping_length (Some mapping) = length mapping.chars

-- the text begins with these characters, and they decide which of these mappings it begins with, or are all of it
pub record IsDecidedFront (mappings : List Mapping) (text front : List ℕ) : Type 0 where
  pub begins : front ≡ take (length front) text
  pub decides : (are_decided mappings front ≡ true) ⊎ (front ≡ text)
