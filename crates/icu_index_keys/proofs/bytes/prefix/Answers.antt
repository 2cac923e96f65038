use Rattle.std.proofs.Common.{◌∙◌}
use Rattle.icu_index_keys.proofs.KeyPrefixLemmas.{prefix_is}
use Rattle.icu_index_keys.proofs.bytes.prefix.Goals as goal

pub returns-in-len8-up : goal.returns-in-len8-up
returns-in-len8-up c = c.from_be_bytes.ensures ∙ prefix_is c.args.key.now
