use Rattle.std.proofs.Common.{rules, ◌≡◌, ◌∙◌, sym, subst}
use Rattle.icu_table_provider.specs.TableSets.{tables_in}
use Rattle.icu_table_check.specs.inner.EntryViolations.{HasEndsTogether}
use Rattle.icu_table_check.proofs.AlikeRunLemmas.{run_alike}
use Rattle.icu_table_check.proofs.check.entry_judge.implicit_between_is_alike.Goals as goal

pub returns : goal.returns
returns c together =
    let same : c.implicit_high.result ≡ c.implicit_high-high.result = search rules in
    run_alike (tables_in c.args.tables) c.args.first c.args.last c.requires (sym c.implicit_high.ensures ∙ same ∙ c.implicit_high-high.ensures)
    (subst (λ h. HasEndsTogether (tables_in c.args.tables) h) c.implicit_high-high.ensures (c.has_ends_together.ensures together))
