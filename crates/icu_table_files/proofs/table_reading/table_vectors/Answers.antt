use Rattle.std.proofs.Common.{◌≡◌, ◌∷◌, [], Result, Ok, Err, IfErr, sym, subst}
use Rattle.std.specs.Int.{w32}
use Rattle.std.specs.Result.{IsErrAnd}
use Rattle.icu_table_files.specs.parts.SpeltParts.{bytes_of_numbers}
use Rattle.icu_table_files.specs.declared.parts.form_error.FormError.{FormError}
use Rattle.icu_table_files.specs.TableBytes.{special_bytes, table_parts}
use Rattle.icu_table_files.specs.inner.Lists.{RefusesPartsOf}
use Rattle.icu_table_files.specs.inner.Vectors.{HaveTableWidths, parts_in_tables}
use Rattle.icu_table_files.proofs.table_reading.table_vectors.Goals as goal

handed_on : {T : Type 0} (r : Result T FormError) (e : FormError) (P : FormError → Type 0) → IsErrAnd r (λ x. x ≡ e) → P e → IfErr r P
handed_on (Ok x) e P is p = tt
handed_on (Err x) e P is p = subst P (sym is) p

pub returns-in_err-numeric-clause-refused : goal.returns-in_err-numeric-clause-refused
returns-in_err-numeric-clause-refused c =
    handed_on c.from_residual.result c.in_err-numeric.field-0.0 (RefusesPartsOf table_parts HaveTableWidths (parts_in_tables c.args.parts.now)) c.from_residual.ensures.1
    (λ s f e.
    let special : special_bytes s.numeric s.last ≡ c.args.parts.now.special.now = cc in
    c.in_err-numeric.ensures.refused s.numeric s.last f.last special)

pub returns-in_err-number_from_bytes-clause-refused : goal.returns-in_err-number_from_bytes-clause-refused
returns-in_err-number_from_bytes-clause-refused c =
    handed_on c.from_residual-in_err-number_from_bytes.result c.in_err-number_from_bytes.field-0.0 (RefusesPartsOf table_parts HaveTableWidths (parts_in_tables c.args.parts.now))
    c.from_residual-in_err-number_from_bytes.ensures.1
    (λ s f e.
    let bits : bytes_of_numbers w32 (s.bits ∷ []) ≡ c.args.parts.now.metadata.now = cc in
    c.in_err-number_from_bytes.ensures.refused s.bits bits)
