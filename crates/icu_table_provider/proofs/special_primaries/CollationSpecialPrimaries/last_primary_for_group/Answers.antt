use Rattle.std.proofs.Common.{rules, ◌≤◌, get_or}
use Rattle.icu_table_provider.proofs.SpecialLemmas.{group_end}
use Rattle.icu_table_provider.proofs.special_primaries.CollationSpecialPrimaries.last_primary_for_group.Goals as goal

pub overflow_sub-result : goal.overflow_sub-result
overflow_sub-result c =
    let special = c.args.self.is_special in
    let end : 1 ≤ get_or c.args.self.last_primaries.now c.group_index.result 0 =
    group_end c.args.self.numeric_primary c.group_index.result c.args.self.last_primaries.now c.group_index.ensures.bound special.count special.group_ends.ends in
    search rules
