use Rattle.std.proofs.Common.{◌≡◌, take}
use Rattle.icu_table_data.specs.StoredData.{data_of}
use Rattle.icu_table_data.specs.Walks.{after_all}
use Rattle.icu_table_data.proofs.character_walk.visit_each.Given as goal

-- the entries so far were visited
abbrev pub invariant-loop-place : goal.invariant-loop-place
invariant-loop-place g l =
    g.V.Visit.seen l.visitor ≡ after_all g.V.Visit.after (g.V.Visit.seen l.fn.visitor) (data_of l.home) l.c (take l.place l.sought.entries)
