use Rattle.icu_index_keys.proofs.KeyPrefixLemmas.{prefix_is}
use Rattle.icu_index_keys.proofs.bytes.short_prefix.Goals as goal

pub returns : goal.returns
returns c = let e = prefix_is c.args.key.now in cc
