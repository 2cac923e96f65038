use Rattle.std.proofs.Common.{◌≡◌, ◌+◌, ◌-◌, ◌/◌, ◌∷◌, ◌++◌, [], true, ℕ, List, rules, arith}
use Rattle.icu_table_data.specs.StoredData.{found_context, found_mapping}
use Rattle.icu_table_data.specs.Contexts.{is_before}
use Rattle.icu_table_data.specs.Data.{Mapping}
use Rattle.icu_element_matches.proofs.MappingLemmas.{after_middle}
use Rattle.icu_element_matches.proofs.steady_matches.begun.mappings_up_to.Goals as goal

pub loop-low-preserved-then-comes_after : goal.loop-low-preserved-then-comes_after
loop-low-preserved-then-comes_after c =
    let mappings : List Mapping = (found_context c.args.context).mappings in
    let l = c.loop-low in
    let middle : ℕ = l.low + (l.high - l.low) / 2 in
    let after : is_before (c.args.front.now ++ c.args.last ∷ []) (found_mapping c.mapping.result).chars ≡ true = search rules in
    record {
      order = omega arith;
      inside = omega (arith, l.invariant.inside, c.loop-low-test.true);
      last = l.invariant.last;
      above = after_middle mappings (c.args.front.now ++ c.args.last ∷ []) c.requires middle (found_mapping c.mapping.result) c.mapping.ensures after;
    }
