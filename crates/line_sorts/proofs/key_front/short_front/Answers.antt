-- The first eight bytes are asked one by one.
use Rattle.std.proofs.Common.{ap, ◌∙◌, ◌≡◌, ◌∷◌, [], slice_index, refl}
use Rattle.std.specs.Int.{from_be_bytes, w64}
use Rattle.icu_index_keys.proofs.KeyPrefixLemmas.{prefix_is}
use Rattle.line_sorts.proofs.key_front.short_front.Goals as goal

pub returns : goal.returns
returns c =
    let key = c.args.key.now in
    let asked : c.byte_or_zero.result ∷ c.byte_or_zero-2.result ∷ c.byte_or_zero-3.result ∷ c.byte_or_zero-4.result ∷ c.byte_or_zero-5.result ∷ c.byte_or_zero-6.result ∷ c.byte_or_zero-7.result ∷ c.byte_or_zero-8.result ∷ []
    ≡ slice_index key 0 ∷ slice_index key 1 ∷ slice_index key 2 ∷ slice_index key 3 ∷ slice_index key 4 ∷ slice_index key 5 ∷ slice_index key 6 ∷ slice_index key 7 ∷ [] =
    rw (c.byte_or_zero.ensures, c.byte_or_zero-2.ensures, c.byte_or_zero-3.ensures, c.byte_or_zero-4.ensures, c.byte_or_zero-5.ensures, c.byte_or_zero-6.ensures, c.byte_or_zero-7.ensures, c.byte_or_zero-8.ensures) refl in
    c.from_be_bytes.ensures ∙ (ap (from_be_bytes w64) asked ∙ prefix_is key)
