use Rattle.std.proofs.Common.{ℕ, ◌+◌, ◌*◌, ◌<◌}
use Rattle.icu_table_provider.specs.StoredTables.{reordering_of}
use Rattle.icu_table_provider.specs.well_formed.Leads.{TakesBlock}
use Rattle.icu_table_weights.proofs.leads.takes_lead.Given as goal

-- the blocks passed go to the lead
abbrev pub invariant-loop-second : goal.invariant-loop-second
invariant-loop-second l = (s : ℕ) → s < l.second → TakesBlock (reordering_of l.reordering) (l.from * 256 + s) l.to
