use Rattle.std.proofs.Common.{◌≡◌, take}
use Rattle.icu_rule_tables.proofs.tailored_entries.root_lists.entries_of.Given as goal

-- the entries so far
abbrev pub invariant-loop-entry : goal.invariant-loop-entry
invariant-loop-entry l = l.entries.items ≡ take l.entry-index l.bits
