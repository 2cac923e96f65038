use Rattle.std.proofs.Common.{ap, ◌∙◌}
use Rattle.icu_table_provider.specs.CollatorTables.{CollatorTables}
use Rattle.icu_table_provider.specs.StoredTables.{reordering_of}
use Rattle.icu_collator.specs.Collators.{collation_borrowed}
use Rattle.icu_search.proofs.ApartLeadLemmas.{apart_without, no_marks}
use Rattle.icu_search.proofs.apart_leads.apart_leads.Goals as goal

pub returns-then-is_none : goal.returns-then-is_none
returns-then-is_none c =
    apart_without reordering_of c.reordering.result (collation_borrowed c.args.collator.now) c.if-is_none.ensures
    (c.reordering.ensures ∙ ap (λ (t : CollatorTables). t.reordering) c.checked_tables.ensures)

pub returns-in-None : goal.returns-in-None
returns-in-None c = no_marks (collation_borrowed c.args.collator.now)
