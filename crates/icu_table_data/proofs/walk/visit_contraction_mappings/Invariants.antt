use Rattle.std.proofs.Common.{◌≡◌, drop}
use Rattle.icu_table_data.specs.Reachable.{reachable_contraction}
use Rattle.icu_table_data.specs.Contexts.{mappings_of}
use Rattle.icu_table_data.specs.StoredData.{data_of}
use Rattle.icu_table_data.specs.inner.Visitors.{after_mappings}
use Rattle.icu_table_data.proofs.walk.visit_contraction_mappings.Given as goal

-- what is after the rest of the mappings is after all of them
abbrev pub invariant-loop-mapping : goal.invariant-loop-mapping
invariant-loop-mapping g l =
    let home = data_of l.home in
    let from = after_mappings g.V.Visit.after reachable_contraction home l.c in
    from (mappings_of l.context.chars.now (drop l.mapping-index l.mappings)) (g.V.Visit.seen l.visitor) ≡ from (mappings_of l.context.chars.now l.mappings) (g.V.Visit.seen l.fn.visitor)
