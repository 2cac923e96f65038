use Rattle.std.proofs.Common.{ℕ, sym, ◌∙◌, subst, eq-eqb, arith}
use Rattle.icu_element_cursor.specs.inner.MarkRuns.{IsInRun}
use Rattle.icu_element_facts.proofs.KeptBaseLemmas.{one_item}
use Rattle.icu_element_cursor.proofs.StandLemmas.{first_item, one_in_run, starter_in_run, ends_runs}
use Rattle.icu_element_cursor.proofs.cursor_tables.class_of_first.Goals as goal

pub returns-in-len1 : goal.returns-in-len1
returns-in-len1 c =
    let first = c.first-item.result in
    let split = sym c.decomposition.ensures.value ∙ one_item _ first _ c.in-len1.len_at_least c.in-len1.len_below c.first-item.is in
    subst (λ (k : ℕ). IsInRun c.args.c k) (sym c.canonical_combining_class.ensures) (one_in_run c.args.c first split)

pub returns-in-len1-up : goal.returns-in-len1-up
returns-in-len1-up c =
    let parts = first_item c.decomposition.result.now c.first-item-2.result _ (omega (arith, c.in-len1-up.len_at_least)) c.first-item-2.is in
    starter_in_run c.args.c
    (ends_runs c.args.c c.first-item-2.result parts.0 (sym c.decomposition.ensures.value ∙ parts.1)
    (eq-eqb _ 0 (sym c.canonical_combining_class-2.ensures ∙ c.if-canonical_combining_class-eq0.true)))
