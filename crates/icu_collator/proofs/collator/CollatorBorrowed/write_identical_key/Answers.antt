-- What was read is what the key of the text is of.
use Rattle.std.proofs.Common.{◌∙◌, ℕ, List, refl, subst}
use Rattle.unicode_normalization.specs.Forms.{nfd}
use Rattle.icu_key_writers.specs.KeyWrites.{WritesKey}
use Rattle.icu_collator.specs.Collators.{collation_borrowed}
use Rattle.icu_collator.proofs.KeyLemmas.{key_read}
use Rattle.icu_collator.proofs.collator.CollatorBorrowed.write_identical_key.Goals as goal

pub write_key_with_characters-requires : goal.write_key_with_characters-requires
write_key_with_characters-requires g c = record {
  cases = c.texts_have_case.ensures (collation_borrowed c.args.self.now) c.are_well_formed.ensures (g.T.EncodedText.text c.args.text) c.has_scalar_values.ensures;
}

pub returns : goal.returns
returns g c =
    let text = g.T.EncodedText.text c.args.text in
    let read = key_read (collation_borrowed c.args.self.now) text (nfd text) c.as_slice.result.now
    refl (λ on. c.as_slice.ensures.value ∙ c.in-Ok.ensures) in
    record { key = subst (λ (key : List ℕ). WritesKey g.S.CollationKeySink.effects c.args.sink.now key c.write_key_with_characters.result c.write_key_with_characters.new.sink) read c.write_key_with_characters.ensures.key }
