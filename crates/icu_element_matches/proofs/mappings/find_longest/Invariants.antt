use Rattle.std.proofs.Common.{◌≡◌, length}
use Rattle.icu_table_data.specs.Data.{longest_mapping}
use Rattle.icu_table_data.specs.StoredData.{found_context}
use Rattle.icu_element_matches.proofs.mappings.find_longest.Given as goal

-- the longest mapping that begins the text begins what is left of it
abbrev pub invariant-cutting : goal.invariant-cutting
invariant-cutting l = longest_mapping (found_context l.context).mappings l.text ≡ longest_mapping (found_context l.context).mappings l.cut

abbrev pub decreases-cutting : goal.decreases-cutting
decreases-cutting l = length l.cut
