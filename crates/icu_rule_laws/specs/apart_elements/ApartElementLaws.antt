-- How texts order whose elements are one apart, are alike, or begin with a greater primary (UTS #10, "Compare Sort
-- Keys"; UTS #35 part 5, "Setting Options").
use Rattle.std.specs.Prelude.{ℕ, ◌≡◌, ◌≢◌, ◌≤◌, ◌+◌, false, List, [], ◌∷◌, map}
use Rattle.std.specs.Ordering.{ordering_then}
use Rattle.std.specs.declared.cmp.Ordering.{Ordering}
use Rattle.std.specs.declared.cmp.Ordering.TheVariants.{Less}
use Rattle.unicode_normalization.specs.Forms.{nfd}
use Rattle.icu_options.specs.declared.settings.CollationCaseFirst.TheVariants as case_first
use Rattle.icu_order_levels.specs.ListOrder.{IsUnder}
use Rattle.icu_order_levels.specs.Keys.{cases_order, characters_order}
use Rattle.icu_order_levels.specs.declared.forms.TertiaryForm.TheVariants.{WithoutCase}
use Rattle.icu_table_entries.specs.Elements.{Element}
use Rattle.icu_table_provider.specs.CollatorTables.{reorder}
use Rattle.icu_order_texts.specs.weighting.Collations.{Collation}
use Rattle.icu_order_texts.specs.weighting.Forms.{case_form, cased_form, is_identical}
use Rattle.icu_order_texts.specs.weighting.Levels.{primaries}
use Rattle.icu_order_texts.specs.TextOrder.{lists_by, text_order}
use Rattle.icu_order_texts.specs.text_laws.OrderLaws.{strength_rank}
use Rattle.icu_rule_laws.specs.apart_elements.UpperWeights.{upper_lists}
use Rattle.icu_rule_laws.specs.apart_elements.ApartElements.{AreOneApart, SettingsDecide, StaysAfter, kept_elements, said_at, elements_by}

-- neither a case level nor case first
pub record IsWithoutCase (c : Collation) : Type 0 where
  pub case_level : c.settings.case_level ≡ false
  pub case_first : c.settings.case_first ≡ case_first.False

-- One apart at the primary level, texts are Less by each strength, and at the secondary one by each that has it:
-- whatever case is.
abbrev pub ApartTextsAreLess : Type 0
ApartTextsAreLess =
    (c : Collation) (t u : List ℕ) (n : ℕ) → 1 ≤ n → n ≤ 2 → n ≤ strength_rank c.settings.strength + 1
    → (a : AreOneApart n (elements_by c t) (elements_by c u)) → SettingsDecide c n a → text_order c t u ≡ Less

-- One apart at a level, without case texts are Less by each strength that has the level, and else Equal.
abbrev pub ApartTextsOrder : Type 0
ApartTextsOrder =
    (c : Collation) (t u : List ℕ) (n : ℕ) → 1 ≤ n → n ≤ 4 → IsWithoutCase c
    → (a : AreOneApart n (elements_by c t) (elements_by c u)) → SettingsDecide c n a
    → text_order c t u ≡ said_at c.settings.strength n

-- the order by the case level, if there is one
abbrev pub case_order : Collation → List ℕ → List ℕ → Ordering
case_order c t u = cases_order (case_form c.settings.case_level c.settings.case_first) (lists_by c (nfd t)) (lists_by c (nfd u))

-- One apart at a level below the primary one, texts order by their case level first, and then as without case: at the
-- secondary level by the primary strength. There is a case level, or no case first.
abbrev pub ApartTextsOrderAfterCase : Type 0
ApartTextsOrderAfterCase =
    (c : Collation) (t u : List ℕ) (n : ℕ) → 2 ≤ n → n ≤ 4 → (n ≡ 2 → strength_rank c.settings.strength ≡ 0)
    → cased_form c.settings.case_level c.settings.case_first ≡ WithoutCase
    → (a : AreOneApart n (elements_by c t) (elements_by c u)) → SettingsDecide c n a
    → text_order c t u ≡ ordering_then (case_order c t u) (said_at c.settings.strength n)

-- Texts of whose elements the four levels compare the same weights, without case differ by their characters alone,
-- where these count: what no level compares stands anywhere.
abbrev pub AlikeTextsOrder : Type 0
AlikeTextsOrder =
    (c : Collation) (t u : List ℕ) → IsWithoutCase c → upper_lists 5 (elements_by c t) ≡ upper_lists 5 (elements_by c u)
    → text_order c t u ≡ characters_order (is_identical c.settings.strength) (lists_by c (nfd t)) (lists_by c (nfd u))

-- A text begins with an element that stays and has a primary
pub record HasFirstPrimary (c : Collation) (t : List ℕ) (first : Element) : Type 0 where
  pub rest : List Element
  pub elements : elements_by c t ≡ first ∷ rest
  pub stays : StaysAfter c [] first
  pub counts : first.primary ≢ 0

-- A text is Less than one that begins with a primary greater than its own first one, in the order of scripts, also if
-- it has no primary itself: by all settings, whatever follows. So all texts up to a position are Less than what a rule
-- puts after it.
abbrev pub LesserPrimariesOrder : Type 0
LesserPrimariesOrder =
    (c : Collation) (t u : List ℕ) (first : Element) → HasFirstPrimary c u first
    → IsUnder (reorder c.tables first.primary) (map (reorder c.tables) (primaries (kept_elements c (elements_by c t))))
    → text_order c t u ≡ Less
