-- The weights are those of all keys.
use Rattle.std.proofs.Common.{[], refl, ap, ◌∙◌}
use Rattle.icu_table_provider.specs.well_formed.Checked.{checked_tables}
use Rattle.icu_rule_root.specs.CheckedRoots.{last_regular_of, last_variable_of}
use Rattle.icu_rule_root.specs.RootEntries.{root_mappings_of}
use Rattle.icu_rule_root.specs.inner.KeyWindows.{weights_by_keys}
use Rattle.icu_rule_root.proofs.RootWeightLemmas.{root_weights, weights_ascend}
use Rattle.icu_rule_root.proofs.checked_root.CheckedRoot.new.Goals as goal

pub returns : goal.returns
returns c =
    let all = checked_tables c.args.tables.now in
    let keys = c.in_ok-keys.keys.items in
    record {
      mappings = refl;
      ascending = weights_ascend keys c.in_ok-keys.ensures.ascending;
      weights = root_weights all c.are_well_formed.ensures keys c.in_ok-keys.ensures.members;
      last_variable = c.last_variable-last_variable.ensures ∙ ap (λ keys. last_variable_of all (weights_by_keys keys [])) c.as_slice-2.ensures.value;
      last_regular = c.in_ok-last_regular.ensures ∙ ap (λ keys. last_regular_of (root_mappings_of all.tables) (weights_by_keys keys [])) c.as_slice.ensures.value;
      first_implicit = c.in_ok-first_implicit.ensures;
    }
