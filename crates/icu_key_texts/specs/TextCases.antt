-- The elements of texts have case bits that name a case.
use Rattle.std.specs.Prelude.{ℕ, List}
use Rattle.std.specs.List.{AllByRecursion}
use Rattle.unicode_normalization.specs.Forms.{nfd}
use Rattle.icu_table_provider.specs.well_formed.WellFormedTables.{IsWellFormedTables}
use Rattle.icu_element_reading.specs.TextElementLaws.{IsText}
use Rattle.icu_order_texts.specs.weighting.Collations.{Collation}
use Rattle.icu_order_texts.specs.TextOrder.{handled_by}
use Rattle.icu_order_texts.specs.weighting.HandledSources.{HasCase}

-- of any text, by each collation whose tables meet the conditions
abbrev pub TextsHaveCase : Type 0
TextsHaveCase =
    (c : Collation) → IsWellFormedTables c.tables → (t : List ℕ) → IsText t
    → AllByRecursion HasCase (handled_by c (nfd t))
