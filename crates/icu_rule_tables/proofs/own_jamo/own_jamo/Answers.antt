-- What was made is checked; or nothing was made.
use Rattle.std.proofs.Common.{Some, None}
use Rattle.icu_table_provider.specs.builder.OwnedData.{owned_data, vectors_data}
use Rattle.icu_table_provider.specs.OwnedTables.{owned_jamo}
use Rattle.icu_table_provider.specs.StoredTables.{jamo_of}
use Rattle.icu_table_data.specs.StoredData.{data_of}
use Rattle.icu_table_provider.specs.well_formed.Checked.{checked_tables}
use Rattle.icu_rule_tables.specs.RuleErrors.{IsErrorOfRules}
use Rattle.icu_rule_tables.proofs.TailoringLemmas.{handed_on, jamo_checked, made_over}
use Rattle.icu_rule_tables.proofs.own_jamo.own_jamo.Goals as goal

pub returns-in_err-checked_vectors-in-Some-clause-err : goal.returns-in_err-checked_vectors-in-Some-clause-err
returns-in_err-checked_vectors-in-Some-clause-err c root statements =
    handed_on c.from_residual-in_err-checked_vectors-in-Some.result c.in_err-checked_vectors-in-Some.field-0.0 (IsErrorOfRules root statements)
    c.from_residual-in_err-checked_vectors-in-Some.ensures.1 (c.in_err-checked_vectors-in-Some.ensures.err root statements)

pub returns-in_ok-checked_vectors-in-Some-clause-ok : goal.returns-in_ok-checked_vectors-in-Some-clause-ok
returns-in_ok-checked_vectors-in-Some-clause-ok c =
    let numbers = c.args.numbers.now in
    let kept = c.args.mappings.now in
    let base = (checked_tables c.args.tables.now).tables in
    let own = c.in_ok-checked_vectors-in-Some.field-0 in
    let made = c.in-Some.vectors in
    jamo_checked numbers kept base.root (vectors_data made.root) (owned_data own.root) base.jamo made.ce32s.items (owned_jamo own.jamo)
    c.in_ok-checked_vectors-in-Some.ensures.root c.in_ok-checked_vectors-in-Some.ensures.jamo
    (made_over numbers kept (data_of c.root.result) base.root (jamo_of c.jamo.result) base.jamo c.in_ok-vectors.field-0 (Some made)
    c.root.ensures c.jamo.ensures c.in-Some.is c.in_ok-vectors.ensures)

pub returns-in-None-clause-ok : goal.returns-in-None-clause-ok
returns-in-None-clause-ok c =
    let base = (checked_tables c.args.tables.now).tables in
    made_over c.args.numbers.now c.args.mappings.now (data_of c.root.result) base.root (jamo_of c.jamo.result) base.jamo c.in_ok-vectors.field-0 None
    c.root.ensures c.jamo.ensures c.in-None.is c.in_ok-vectors.ensures
