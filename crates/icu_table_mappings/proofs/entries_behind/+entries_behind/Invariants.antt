use Rattle.icu_table_mappings.proofs.entries_behind.+entries_behind.Given as goal

abbrev pub decreases-entries_behind : goal.decreases-entries_behind
decreases-entries_behind l = l.count
