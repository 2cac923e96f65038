use Rattle.std.proofs.Common.{◌≡◌, rules}
use Rattle.std.specs.Prelude.{slice_get, Some}
use Rattle.icu_element_reading.proofs.MappingHeadLemmas.{above_by}
use Rattle.icu_element_reading.proofs.mapping_heads.begins_above.Goals as goal

pub returns-in-Some : goal.returns-in-Some
returns-in-Some c = λ is.
    let first : slice_get c.args.chars.now 0 ≡ Some c.in-Some.first = search rules in
    above_by c.args.d c.in-Some.first c.args.chars.now first (search rules)
