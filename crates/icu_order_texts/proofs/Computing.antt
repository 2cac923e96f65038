-- What has to be opened to compute the keys and the orders of worked rows.
use Rattle.icu_table_provider.specs.Reorderings.{moved, reordered}
use Rattle.icu_table_provider.specs.SpecialPrimaries.{is_compressible}
use Rattle.icu_element_reading.proofs.Computing.{icu_elements}
use Rattle.icu_order_texts.specs.weighting.Handled.{handled}
use Rattle.icu_order_texts.specs.weighting.Levels.{weights, parted, quaternaries}
use Rattle.icu_order_texts.specs.TextOrder.{lists_by, text_order, text_key}

-- `unfolding icu_order_texts` lets `refl` compute the keys and the order of short texts
unfoldable pub icu_text_order : Unit {0}
unfolding icu_elements moved reordered is_compressible handled weights parted quaternaries lists_by text_order text_key
icu_text_order = tt
