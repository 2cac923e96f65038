use Rattle.std.proofs.Common.{◌≡◌, ◌∙◌, ap, sym, length, arith}
use Rattle.std.proofs.lemmas.Bool.Decides.{nat_tests}
use Rattle.icu_table_files.proofs.RefusalLemmas.{other_count}
use Rattle.icu_table_files.proofs.other_reading.parts_of_reordering.Goals as goal
use Rattle.icu_table_files.proofs.other_reading.parts_of_reordering.Goals.{in_default-via-then-as_slice-lt3, in_default-via-else-as_slice-lt3+else-this-lt4}

pub returns-clause-refused : goal.returns-clause-refused
returns-clause-refused c =
    λ parts count e. absurd (other_count c.in_ok-parts.parts.items (λ p. p.now) parts c.args.bytes.now 3 (omega arith) c.in_ok-parts.ensures.spelt
    (λ same.
    let len : length c.as_slice.result.now ≡ 3 = ap length c.as_slice.ensures.value ∙ same in
    elim c.in_default.branch [
      | in_default-via-then-as_slice-lt3 w ↦ grind (arith, nat_tests)
      | in_default-via-else-as_slice-lt3+else-this-lt4 w ↦ grind (arith, nat_tests)
    ]) count e)
