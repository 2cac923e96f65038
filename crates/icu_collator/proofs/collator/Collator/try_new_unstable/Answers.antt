-- The tables that the provider returned are those that were refused.
use Rattle.std.proofs.Common.{◌≡◌, Result, Ok, Err, sym, subst, IfErr, IfOk}
use Rattle.std.specs.Result.{IsErrAnd}
use Rattle.icu_table_entries.specs.declared.error.DataError.{DataError}
use Rattle.icu_table_entries.specs.declared.error.DataErrorKind.TheVariants.{NoMemory}
use Rattle.icu_table_provider.specs.CollatorTables.{CollatorTables}
use Rattle.icu_table_provider.specs.well_formed.WellFormedTables.{IsWellFormedTables}
use Rattle.icu_table_provider.specs.TableSets.{tables_in}
use Rattle.icu_collator.specs.Collators.{loaded_for}
use Rattle.icu_collator.proofs.collator.Collator.try_new_unstable.Goals as goal

handed_on : {T : Type 0} (r : Result T DataError) (e : DataError) (P : DataError → Type 0) → IsErrAnd r (λ x. x ≡ e) → P e → IfErr r P
handed_on (Ok x) e P is p = tt
handed_on (Err x) e P is p = subst P (sym is) p

pub returns-in_err-tables-clause-exact : goal.returns-in_err-tables-clause-exact
returns-in_err-tables-clause-exact g c =
    let loaded : loaded_for (g.P.CollationProvider.loads c.args.provider.now) c.args.preferences ≡ Ok (tables_in c.in_ok-loaded.loaded) = sym c.in_ok-loaded.ensures in
    handed_on c.from_residual-in_err-tables.result c.in_err-tables.field-0.0
    (λ e. IfOk (loaded_for (g.P.CollationProvider.loads c.args.provider.now) c.args.preferences) (λ (all : CollatorTables). (e.kind ≡ NoMemory → ⊥) → IsWellFormedTables all → ⊥))
    c.from_residual-in_err-tables.ensures.1 (rw loaded c.in_err-tables.ensures.exact)
