use Rattle.std.proofs.Common.{[], ◌≡◌, ◌∙◌, ap, sym, map, length, arith}
use Rattle.std.proofs.lemmas.Bool.Decides.{nat_tests}
use Rattle.icu_table_files.specs.parts.SpeltParts.{bytes_of_parts}
use Rattle.icu_table_files.proofs.RefusalLemmas.{other_count, seven}
use Rattle.icu_table_files.proofs.data_reading.parts_of_data.Goals as goal
use Rattle.icu_table_files.proofs.data_reading.parts_of_data.Goals.{in_default-via-then-as_slice-lt7, in_default-via-else-as_slice-lt7+else-this-lt8}

pub returns-in-len7-clause-spelt : goal.returns-in-len7-clause-spelt
returns-in-len7-clause-spelt c =
    let listed = seven c.as_slice.result.now (record { ref_ptr = (0, 0); now = [] }) (λ p. p.now) c.in-len7.len_at_least c.in-len7.len_below in
    ap bytes_of_parts (sym listed) ∙ (ap (λ ps. bytes_of_parts (map (λ p. p.now) ps)) c.as_slice.ensures.value ∙ c.in_ok-parts.ensures.spelt)

pub returns-clause-refused : goal.returns-clause-refused
returns-clause-refused c =
    λ parts count e. absurd (other_count c.in_ok-parts.parts.items (λ p. p.now) parts c.args.bytes.now 7 (omega arith) c.in_ok-parts.ensures.spelt
    (λ same.
    let len : length c.as_slice.result.now ≡ 7 = ap length c.as_slice.ensures.value ∙ same in
    elim c.in_default.branch [
      | in_default-via-then-as_slice-lt7 w ↦ grind (arith, nat_tests)
      | in_default-via-else-as_slice-lt7+else-this-lt8 w ↦ grind (arith, nat_tests)
    ]) count e)
