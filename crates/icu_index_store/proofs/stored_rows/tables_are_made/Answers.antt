use Rattle.icu_index_store.proofs.stored_rows.MadeTables.{tables_made, tables_stay}
use Rattle.icu_index_store.proofs.stored_rows.tables_are_made.Goals as goal

pub returns : goal.returns
returns g c = record { made = λ old new none h. tables_made g.S.Store old new h none; stay = λ old new kept keeps h. tables_stay g.S.Store old new h kept keeps }
