use Rattle.std.proofs.Common.{sym, ap, ◌∙◌, ◌-◌, slice_index, arith}
use Rattle.icu_table_check.proofs.ImplicitOverlapLemmas.{loaded_jamo}
use Rattle.icu_table_check.proofs.check.implicit_overlaps.is_implicit_jamo.Goals as goal

pub returns : goal.returns
returns c = λ t.
    loaded_jamo c.args.tables c.args.c c.new.result (omega arith) (omega arith)
    (c.new.ensures ∙ ap (λ es. slice_index es (c.args.c - 0x1100)) c.ce32s.ensures.value) (sym c.leads_to_implicit.ensures ∙ t)
