use Rattle.std.proofs.Common.{take}
use Rattle.icu_rule_tables.specs.script_reordering.ReorderCodes.{AreCodes}
use Rattle.icu_rule_tables.proofs.script_reordering.reorder_codes.codes_of.Given as goal

-- the words passed name the codes
abbrev pub invariant-loop-word : goal.invariant-loop-word
invariant-loop-word l = AreCodes (take l.word-index l.words) l.named.items
