-- The first eight bytes are told apart.
use Rattle.std.proofs.Common.{◌∙◌, arith}
use Rattle.icu_index_keys.proofs.KeyPrefixLemmas.{prefix_is}
use Rattle.icu_index_keys.proofs.PlacedLemmas.{bytes_from}
use Rattle.line_sorts.proofs.key_front.key_front.Goals as goal

pub returns-in-len8-up-clause-front : goal.returns-in-len8-up-clause-front
returns-in-len8-up-clause-front c = c.from_be_bytes.ensures ∙ prefix_is c.args.key.now

pub returns-in-len8-up-clause-bytes : goal.returns-in-len8-up-clause-bytes
returns-in-len8-up-clause-bytes c = bytes_from c.args.key.now (λ i. omega (arith, c.type_inv.key i))
