use Rattle.std.proofs.Common.{◌≡◌, ◌-◌}
use Rattle.icu_table_data.specs.StoredData.{data_of}
use Rattle.icu_table_data.specs.Walks.{after_run}
use Rattle.icu_table_data.proofs.character_walk.visit_run.Given as goal

-- the entry was visited with the characters so far
abbrev pub invariant-loop-code : goal.invariant-loop-code
invariant-loop-code g l =
    g.V.Visit.seen l.visitor ≡ after_run g.V.Visit.after (g.V.Visit.seen l.fn.visitor) (data_of l.home) l.fn.first l.entry (l.code - l.start)
