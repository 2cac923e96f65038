-- There are 256 jamo.
use Rattle.std.proofs.Common.{◌≡◌, ◌+◌, ◌∙◌, ap, arith, length, length-append}
use Rattle.icu_table_mini.specs.Characters.{run}
use Rattle.icu_table_mini.proofs.WeightRunLemmas.{length_run}
use Rattle.icu_table_mini.proofs.mini.Mini.with_jamo_list.Goals as goal

pub index_mut-requires : goal.index_mut-requires
index_mut-requires c =
    let count : length c.in_ok-mini.mini.jamo.items ≡ length (run 0x65100505 0x10000 128) + length (run 0x66100505 0x10000 128)
    = ap length c.in_ok-mini.ensures.jamo ∙ length-append (run 0x65100505 0x10000 128) (run 0x66100505 0x10000 128) in
    let half = length_run 0x65100505 0x10000 128 in
    let room = c.in_ok-mini.mini.jamo.ok.0 in
    omega arith
