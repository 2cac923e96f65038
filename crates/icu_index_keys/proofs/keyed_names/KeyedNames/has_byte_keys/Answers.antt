use Rattle.std.proofs.Common.{map, subst}
use Rattle.icu_index_keys.proofs.BeginningRangeLemmas.{byte_keys}
use Rattle.icu_index_keys.specs.inner.NameEntries.{HaveByteKeys, keyed_in}
use Rattle.icu_index_keys.specs.inner.Leaves.{entries_of}
use Rattle.icu_index_keys.proofs.keyed_names.KeyedNames.has_byte_keys.Goals as goal

pub returns : goal.returns
returns c =
    let self = c.args.self.now in
    subst (λ bs. HaveByteKeys (map (keyed_in bs) (entries_of self.leaves.items))) c.all-bytes.ensures.value
    (byte_keys c.all-bytes.result.now c.all-bytes.ensures.bytes (entries_of self.leaves.items))
