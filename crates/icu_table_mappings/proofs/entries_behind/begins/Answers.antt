use Rattle.std.proofs.Common.{sym, ◌∙◌, arith}
use Rattle.icu_table_mappings.proofs.NearestLemmas.{begun_by, none_begins}
use Rattle.icu_table_mappings.proofs.entries_behind.begins.Goals as goal

pub returns-then-has_entry : goal.returns-then-has_entry
returns-then-has_entry c = sym (begun_by c.args.entries.now.entries c.args.after.now c.loop-count.count (sym c.has_entry.ensures ∙ c.if-has_entry.true))

pub returns : goal.returns
returns c = sym (none_begins c.args.entries.now.entries c.args.after.now (λ k inside. c.loop-count.invariant k (omega arith)))
