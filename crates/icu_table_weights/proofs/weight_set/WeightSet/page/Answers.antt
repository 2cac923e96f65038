use Rattle.std.proofs.Common.{sym, ◌∙◌, arith}
use Rattle.icu_table_weights.proofs.WeightSetLemmas.{page-at, page-beyond}
use Rattle.icu_table_weights.proofs.weight_set.WeightSet.page.Goals as goal

pub returns-then-lead-len : goal.returns-then-lead-len
returns-then-lead-len c = c.as_slice.ensures.value ∙ sym (page-at c.args.self.now.pages.items c.index.result.now c.index.result.now c.args.lead (omega arith) c.index.ensures)

pub returns-else-lead-len : goal.returns-else-lead-len
returns-else-lead-len c = sym (page-beyond c.args.self.now.pages.items c.args.lead (omega arith))
