use Rattle.std.proofs.Common.{arith}
use Rattle.icu_index_keys.proofs.PlacedLemmas.{bytes_from}
use Rattle.icu_index_keys.proofs.bytes.are_bytes.Goals as goal

pub returns : goal.returns
returns c = bytes_from c.args.bytes.now (λ i. omega (arith, c.type_inv.bytes i))
