-- The order of two texts and the key of one, by any collation (UTS #10, "Form Sort Keys" and "Compare Sort Keys").
use Rattle.std.specs.Prelude.{ℕ, Bool, false, List, Some, None, if◌then◌else◌}
use Rattle.std.specs.declared.cmp.Ordering.{Ordering}
use Rattle.unicode_normalization.specs.Forms.{nfd}
use Rattle.icu_order_levels.specs.Keys.{LevelLists, key_bytes, levels_order}
use Rattle.icu_table_entries.specs.Elements.{Element}
use Rattle.icu_table_provider.specs.Metadata.{is_lithuanian}
use Rattle.icu_table_provider.specs.CollatorTables.{reorder}
use Rattle.icu_element_reading.specs.TextElements.{Reading, elements_of}
use Rattle.icu_element_reading.specs.ReachableTexts.{collator_reading}
use Rattle.icu_order_texts.specs.weighting.Collations.{Collation}
use Rattle.icu_order_texts.specs.weighting.Handled.{HandledElement, handled}
use Rattle.icu_order_texts.specs.weighting.Levels.{level_lists}
use Rattle.icu_order_texts.specs.weighting.Forms.{compression_of, form_by, last_variable_by}

-- how texts are read: digits as numbers where the settings say so, and silent dots where the metadata does
abbrev pub reading_by : Collation → Reading
reading_by c =
    collator_reading c.tables (if c.settings.numeric then Some c.tables.special.numeric else None)
    (is_lithuanian c.tables.bits)

-- elements as the collation handles them, where a variable one came last before them or not
abbrev pub handled_elements : Collation → Bool → List Element → List HandledElement
handled_elements c after es = handled c.settings.alternate_handling (last_variable_by c) after es

-- the elements of a decomposed text, as they are handled
abbrev pub handled_by : Collation → List ℕ → List HandledElement
handled_by c text = handled_elements c false (elements_of (reading_by c) text)

-- the lists of a decomposed text
unfoldable pub lists_by : Collation → List ℕ → LevelLists
lists_by c text = level_lists (reorder c.tables) (form_by c) (handled_by c text) text

-- the order of two texts: that of the lists that the collation names, in turn
unfoldable pub text_order : Collation → List ℕ → List ℕ → Ordering
text_order c t u =
    levels_order (compression_of c.tables) (form_by c) (lists_by c (nfd t)) (lists_by c (nfd u))

-- the key of a text
unfoldable pub text_key : Collation → List ℕ → List ℕ
text_key c t = key_bytes (compression_of c.tables) (form_by c) (lists_by c (nfd t))
