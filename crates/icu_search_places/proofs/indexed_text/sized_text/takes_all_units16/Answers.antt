use Rattle.std.proofs.Common.{arith}
use Rattle.icu_search_places.proofs.indexed_text.SizeLemmas.{utf16_all}
use Rattle.icu_search_places.proofs.indexed_text.sized_text.takes_all_units16.Goals as goal

pub returns : goal.returns
returns c = utf16_all c.args.units.now (λ i. omega (arith, c.type_inv.units i))
