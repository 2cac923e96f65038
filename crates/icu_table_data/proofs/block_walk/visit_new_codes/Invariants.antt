use Rattle.icu_table_data.specs.StoredData.{data_of}
use Rattle.icu_table_data.specs.inner.BlockWalks.{Spends, IsReachableIn}
use Rattle.icu_table_data.proofs.block_walk.visit_new_codes.Given as goal

-- the code points so far were walked
abbrev pub invariant-loop-code : goal.invariant-loop-code
invariant-loop-code g l =
    Spends g.V.Visit.after l.falls_back (data_of l.home) l.fn.seen l.seen (g.V.Visit.seen l.fn.visitor) (g.V.Visit.seen l.visitor) (IsReachableIn l.falls_back (data_of l.home) l.first l.code)
