use Rattle.std.proofs.Common.{◌-◌, ◌≤◌, length}
use Rattle.icu_table_data.specs.StoredData.{found_context}
use Rattle.icu_element_matches.specs.inner.Mappings.{IsUpTo, ComeAfter}
use Rattle.icu_element_matches.proofs.mappings.mappings_up_to.Given as goal

abbrev pub invariant-loop-low : goal.invariant-loop-low
invariant-loop-low l = record {
  order : l.low ≤ l.high;
  inside : l.high ≤ length (found_context l.context).mappings;
  last : IsUpTo (found_context l.context).mappings l.text l.low;
  above : ComeAfter (found_context l.context).mappings l.text l.high;
}

abbrev pub decreases-loop-low : goal.decreases-loop-low
decreases-loop-low l = l.high - l.low
