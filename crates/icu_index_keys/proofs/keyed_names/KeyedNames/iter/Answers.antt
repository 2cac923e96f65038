use Rattle.icu_index_keys.proofs.KeyedLemmas.{names_of}
use Rattle.icu_index_keys.proofs.keyed_names.KeyedNames.iter.Goals as goal

pub returns : goal.returns
returns c = names_of c.args.self.now.bytes.items c.as_slice.result.now c.as_slice.ensures.value c.args.self.now.leaves.items c.as_slice-2.result.now c.as_slice-2.ensures.value
