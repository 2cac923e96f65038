use Rattle.std.proofs.Common.{◌≡◌, drop}
use Rattle.icu_rule_steps.specs.symbolic_mappings.TouchedCharacters.{have_touched}
use Rattle.icu_rule_tables.proofs.tailored_entries.jamo_table.own_mappings.Given as goal

-- those behind have the character if one of all has it
abbrev pub invariant-loop-other : goal.invariant-loop-other
invariant-loop-other l = have_touched (drop l.other-index l.touched) l.c ≡ have_touched l.touched l.c
