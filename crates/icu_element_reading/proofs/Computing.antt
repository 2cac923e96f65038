-- What short texts need unfolded so that `refl` computes their elements.
use Rattle.unicode_normalization.proofs.Computing.{unicode_normalization}
use Rattle.icu_table_entries.specs.Entries.{kind_of, self_contained}
use Rattle.icu_table_entries.specs.EntryConditions.{has_offset_weight}
use Rattle.icu_table_entries.specs.Weights.{implicit_weight, ordinal_of, weight_at, offset_ordinal, offset_weight}
use Rattle.icu_table_provider.specs.Tables.{entry_of, diacritic_of}
use Rattle.icu_table_data.specs.Data.{mapping_entry, longest_from}
use Rattle.icu_table_data.specs.Final.{final_elements}
use Rattle.icu_order_levels.specs.Numbers.{pair_count}
use Rattle.icu_element_matches.specs.Matches.{after_prefix, is_blocked, with_marks, contracted, match_from}
use Rattle.icu_element_reading.specs.TextElements.{number_step, entry_step, matched_step, elements_along, elements_after}

-- `unfolding icu_element_reading` lets `refl` compute the elements of a short text
unfoldable pub icu_elements : Unit {0}
unfolding unicode_normalization kind_of self_contained implicit_weight ordinal_of weight_at offset_ordinal offset_weight has_offset_weight entry_of diacritic_of mapping_entry longest_from final_elements pair_count after_prefix is_blocked with_marks contracted match_from number_step entry_step matched_step elements_along elements_after
icu_elements = tt
