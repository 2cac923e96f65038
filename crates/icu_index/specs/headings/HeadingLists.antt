-- Headings, and which of them a name stands under, by the primary level (UTS #10, "Multi-Level Comparison").
use Rattle.std.specs.Prelude.{ℕ, zero, suc, Bool, true, false, ◌||◌, List, [], ◌∷◌, drop, filter, fold, if◌then◌else◌, length}
use Rattle.std.specs.Ordering.{is_le}
use Rattle.std.specs.declared.cmp.Ordering.{Ordering}
use Rattle.icu_text_encodings.specs.DecodedTexts.{utf8_text}
use Rattle.icu_order_texts.specs.text_beginnings.TextBeginnings.{primary_order}
use Rattle.icu_order_texts.specs.Collations.{Collation}
use Rattle.icu_index_keys.specs.keyed_starts.Starts.{placed_by}
use Rattle.icu_index.specs.declared.headings.heading.Heading.{Heading}
use Rattle.icu_index.specs.declared.headings.heading.Heading.TheVariants as headings
use Rattle.icu_index.specs.declared.headings.heading.HeadingStart.{HeadingStart}
use Rattle.icu_index.specs.declared.headings.heading.HeadingStart.TheVariants.{Label, Limit}

-- what a heading starts with, and whether that is its label
abbrev pub NamedStart : Type 0
NamedStart = List ℕ × Bool

-- a start that a caller gave
abbrev pub start_given : HeadingStart → NamedStart
start_given (Label name) = (name.now, true)
start_given (Limit name) = (name.now, false)

-- the order of two names, which are bytes in UTF-8 that may be damaged, at the primary level
abbrev pub name_primary_order : Collation → List ℕ → List ℕ → Ordering
name_primary_order c x y = primary_order c (utf8_text x) (utf8_text y)

-- starts with one more: before the first that is Greater at the primary level, or last. One that is Equal to an earlier
-- one goes
abbrev pub start_placed : Collation → NamedStart → List NamedStart → List NamedStart
start_placed c s [] = s ∷ []
start_placed c s (x ∷ xs) = placed_by (name_primary_order c x.0 s.0) s x xs (start_placed c s xs)

-- the starts that are kept, in order, of those that a caller gave one after another
abbrev pub starts_kept : Collation → List NamedStart → List NamedStart
starts_kept c starts = fold (λ kept s. start_placed c s kept) [] starts

-- the number of a name's heading: how many starts aren't Greater than the name at the primary level
abbrev pub heading_number : Collation → List NamedStart → List ℕ → ℕ
heading_number c starts name = length (filter (λ x. is_le (name_primary_order c x.0 name)) starts)

-- ---- what a number means

-- a heading, as a list of bytes where it is a label
pub data HeadingIs : Type 0 where
  underflow : HeadingIs
  label : List ℕ → HeadingIs
  inflow : HeadingIs
  overflow : HeadingIs

-- the heading that code has
abbrev pub heading_is : Heading → HeadingIs
heading_is headings.Underflow = underflow
heading_is (headings.Label name) = label name.now
heading_is headings.Inflow = inflow
heading_is headings.Overflow = overflow

-- whether there is a label among starts
abbrev pub any_label : List NamedStart → Bool
any_label [] = false
any_label (x ∷ xs) = x.1 || any_label xs

-- the heading that begins with the first of these starts
abbrev pub heading_from : List NamedStart → HeadingIs
heading_from [] = overflow
heading_from (x ∷ xs) = if x.1 then label x.0 else if any_label xs then inflow else overflow

-- the heading of a number: 0 stands before all starts
abbrev pub heading_at : List NamedStart → ℕ → HeadingIs
heading_at starts zero = underflow
heading_at starts (suc n) = heading_from (drop n starts)

-- the heading of a name
abbrev pub heading_of : Collation → List NamedStart → List ℕ → HeadingIs
heading_of c starts name = heading_at starts (heading_number c starts name)
