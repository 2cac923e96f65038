-- How texts order by plain settings, if weights of their elements are the same before a level and less at it (UTS #10,
-- "Form Sort Keys" and "Compare Sort Keys"; UTS #35 part 5, "Setting Options").
use Rattle.std.specs.Prelude.{ℕ, ◌≡◌, ◌≤◌, ◌+◌, false, List, None}
use Rattle.std.specs.List.{list_any}
use Rattle.std.specs.declared.cmp.Ordering.TheVariants.{Equal}
use Rattle.unicode_normalization.specs.Forms.{nfd}
use Rattle.icu_options.specs.Metadata.{is_backward}
use Rattle.icu_options.specs.declared.settings.AlternateHandling.TheVariants.{NonIgnorable}
use Rattle.icu_table_entries.specs.Elements.{Element}
use Rattle.icu_table_provider.specs.Metadata.{is_lithuanian}
use Rattle.icu_element_reading.specs.TextElements.{non_numeric_reading, elements_of}
use Rattle.icu_order_texts.specs.weighting.Collations.{Collation}
use Rattle.icu_order_texts.specs.weighting.Forms.{last_variable_by}
use Rattle.icu_order_texts.specs.weighting.Handled.{is_variable}
use Rattle.icu_order_texts.specs.TextOrder.{text_order}
use Rattle.icu_order_texts.specs.text_laws.OrderLaws.{strength_rank}
use Rattle.icu_rule_weights.specs.tailoring_numbers.NumberedElements.{element_numbers}
use Rattle.icu_rule_laws.specs.apart_elements.ApartElements.{said_at}
use Rattle.icu_rule_laws.specs.apart_elements.ApartElementLaws.{IsWithoutCase}
use Rattle.icu_rule_laws.specs.RelatedTexts.{AreLessElements}

-- a text is read plainly: digits are letters, and no dot is silent
pub record ReadsPlainly (c : Collation) : Type 0 where
  pub digits : c.settings.numeric ≡ false
  pub dots : is_lithuanian c.tables.bits ≡ false

-- Settings are plain for a difference of a level: texts are read plainly. At the primary level scripts stand in the
-- order of the tables. Below it secondaries are compared forward, and no case counts, but at the secondary level by a
-- strength that has it.
pub record HasPlainSettings (c : Collation) (n : ℕ) : Type 0 where
  pub reading : ReadsPlainly c
  pub scripts : n ≡ 1 → c.tables.reordering ≡ None
  pub case : 2 ≤ n → (n ≡ 2 → strength_rank c.settings.strength ≡ 0) → IsWithoutCase c
  pub forward : 2 ≤ n → is_backward c.tables.bits ≡ false

-- the elements of a text, with digits as letters and no silent dot
abbrev pub plain_elements : Collation → List ℕ → List Element
plain_elements c t = elements_of (non_numeric_reading c.tables.tables) (nfd t)

-- no element of a text is variable by the settings
abbrev pub HasNoVariable : Collation → List ℕ → Type 0
HasNoVariable c t = list_any (is_variable (last_variable_by c)) (plain_elements c t) ≡ false

-- if variable elements are handled as all others are, no text has one
abbrev pub NoTextHasVariable : Type 0
NoTextHasVariable = (c : Collation) (t : List ℕ) → c.settings.alternate_handling ≡ NonIgnorable → HasNoVariable c t

-- Of texts whose elements have the same weights before a level up to the tertiary one, the one with lesser weights
-- there is Less by each strength that has the level. By those below they are Equal.
abbrev pub RelatedTextsOrder : Type 0
RelatedTextsOrder =
    (c : Collation) (t u : List ℕ) (n : ℕ) → 1 ≤ n → n ≤ 3 → HasPlainSettings c n → HasNoVariable c t → HasNoVariable c u
    → AreLessElements n (plain_elements c t) (plain_elements c u) → text_order c t u ≡ said_at c.settings.strength n

-- texts whose elements have the same weights at each level of a strength up to the tertiary one are Equal by it
abbrev pub SameTextsTie : Type 0
SameTextsTie =
    (c : Collation) (t u : List ℕ) (n : ℕ) → 3 ≤ n → HasPlainSettings c n → HasNoVariable c t → HasNoVariable c u
    → strength_rank c.settings.strength ≤ 2
    → ((level : ℕ) → 1 ≤ level → level ≤ strength_rank c.settings.strength + 1
    → element_numbers level (plain_elements c t) ≡ element_numbers level (plain_elements c u))
    → text_order c t u ≡ Equal
