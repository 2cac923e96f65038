-- The listing of names, by the order of texts and the order of insertion (UTS #10, "Multi-Level Comparison" and
-- "Compare Sort Keys").
use Rattle.std.specs.Prelude.{ℕ, Bool, ◌&&◌, not, List, [], ◌∷◌, filter, fold, if◌then◌else◌}
use Rattle.std.specs.Ordering.{is_eq, is_gt, is_lt}
use Rattle.std.specs.declared.cmp.Ordering.{Ordering}
use Rattle.icu_table_provider.specs.well_formed.WellFormedTables.{IsWellFormedTables}
use Rattle.icu_text_encodings.specs.DecodedTexts.{utf8_text}
use Rattle.icu_order_texts.specs.text_beginnings.TextBeginnings.{text_begins}
use Rattle.icu_order_texts.specs.Collations.{Collation}
use Rattle.icu_collator.specs.NameOrders.{IsStablySorted, name_order}

-- a listing with one more name: before the first listed one that compares Greater to it, or last
abbrev pub inserted : (List ℕ → List ℕ → Ordering) → List ℕ → List (List ℕ) → List (List ℕ)
inserted order name [] = name ∷ []
inserted order name (x ∷ xs) = if is_gt (order x name) then name ∷ x ∷ xs else x ∷ inserted order name xs

-- the names of a listing that compare Equal to a name
abbrev pub equal_names : (List ℕ → List ℕ → Ordering) → List ℕ → List (List ℕ) → List (List ℕ)
equal_names order name names = filter (λ x. is_eq (order x name)) names

-- the names of a listing that don't compare Less to one name, and compare Less to another
abbrev pub names_between : (List ℕ → List ℕ → Ordering) → List ℕ → List ℕ → List (List ℕ) → List (List ℕ)
names_between order from to names = filter (λ x. not (is_lt (order x from)) && is_lt (order x to)) names

-- whether a name begins with another at the primary level
abbrev pub name_begins : Collation → List ℕ → List ℕ → Bool
name_begins c beginning name = text_begins c (utf8_text beginning) (utf8_text name)

-- the names of a listing that begin with a name at the primary level
abbrev pub names_beginning : Collation → List ℕ → List (List ℕ) → List (List ℕ)
names_beginning c beginning names = filter (λ x. name_begins c beginning x) names

-- the listing of names that were inserted one after another, the first into a listing of none
abbrev pub listing_of : (List ℕ → List ℕ → Ordering) → List (List ℕ) → List (List ℕ)
listing_of order names = fold (λ sorted name. inserted order name sorted) [] names

-- by each collation whose tables meet the conditions, names that were inserted one after another are sorted
abbrev pub InsertsSort : Type 0
InsertsSort =
    (c : Collation) (names : List (List ℕ)) → IsWellFormedTables c.tables
    → IsStablySorted (name_order c) names (listing_of (name_order c) names)
