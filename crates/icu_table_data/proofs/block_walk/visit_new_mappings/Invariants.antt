use Rattle.std.proofs.Common.{take}
use Rattle.std.specs.List.{Contains}
use Rattle.icu_table_data.specs.StoredData.{data_of}
use Rattle.icu_table_data.specs.inner.BlockWalks.{Spends, contraction_entries}
use Rattle.icu_table_data.proofs.block_walk.visit_new_mappings.Given as goal

-- what the mappings so far lead to was visited
abbrev pub invariant-loop-mapping : goal.invariant-loop-mapping
invariant-loop-mapping g l =
    Spends g.V.Visit.after l.fn.falls_back (data_of l.fn.home) l.fn.seen l.seen (g.V.Visit.seen l.fn.visitor) (g.V.Visit.seen l.visitor)
    (Contains (contraction_entries (data_of l.fn.home) (take l.mapping-index l.mappings)))
