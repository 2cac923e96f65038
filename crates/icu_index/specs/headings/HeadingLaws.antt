-- The law of headings, as a contract names it.
use Rattle.std.specs.Prelude.{◌≡◌, ℕ, zero, suc, nat_eq, List, ◌++◌, filter, length}
use Rattle.std.specs.List.Sorted.{IsSorted}
use Rattle.icu_table_provider.specs.well_formed.WellFormedTables.{IsWellFormedTables}
use Rattle.icu_text_encodings.specs.DecodedTexts.{utf8_text}
use Rattle.icu_order_texts.specs.Collations.{Collation}
use Rattle.icu_order_texts.specs.TextOrder.{text_key, text_order}
use Rattle.icu_index_keys.specs.keyed_starts.Starts.{stands_within}
use Rattle.icu_index_keys.specs.declared.keyed_starts.starts.KeyBounds.{KeyBounds}
use Rattle.icu_index.specs.headings.HeadingLists.{NamedStart, heading_number}

-- the names under the heading of a number
abbrev pub names_under : Collation → List NamedStart → ℕ → List (List ℕ) → List (List ℕ)
names_under c starts n names = filter (λ x. nat_eq (heading_number c starts x) n) names

-- the names under the heading of a number are those whose keys stand between these bounds
abbrev pub KeysStandUnder : Collation → List NamedStart → ℕ → KeyBounds → Type 0
KeysStandUnder c starts n bounds =
    (name : List ℕ) → stands_within bounds (text_key c (utf8_text name)) ≡ nat_eq (heading_number c starts name) n

-- the names under each heading up to a number, one heading after another
abbrev pub names_up_to : Collation → List NamedStart → ℕ → List (List ℕ) → List (List ℕ)
names_up_to c starts zero names = names_under c starts zero names
names_up_to c starts (suc n) names = names_up_to c starts n names ++ names_under c starts (suc n) names

-- names that are in order, at any strength, are those under the first heading, then those under the next, and so on
abbrev pub HeadingsPartNames : Type 0
HeadingsPartNames =
    (c : Collation) → IsWellFormedTables c.tables → (starts : List NamedStart) (names : List (List ℕ))
    → IsSorted (λ x y. text_order c (utf8_text x) (utf8_text y)) names
    → names_up_to c starts (length starts) names ≡ names
