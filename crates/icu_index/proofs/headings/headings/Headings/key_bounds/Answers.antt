use Rattle.std.proofs.Common.{◌∙◌, ap, nat_eq}
use Rattle.icu_collator.specs.Collators.{collation_borrowed}
use Rattle.icu_text_encodings.specs.DecodedTexts.{utf8_text}
use Rattle.icu_index_keys.specs.keyed_starts.Starts.{starts_in}
use Rattle.icu_order_texts.specs.TextOrder.{text_key}
use Rattle.icu_index.proofs.headings.HeadingBounds.{number_by_key}
use Rattle.icu_index.proofs.headings.headings.Headings.key_bounds.Goals as goal

pub returns : goal.returns
returns c name =
    let self = c.args.self.now in
    let collation = collation_borrowed self.collator in
    c.bounds.ensures (text_key collation (utf8_text name))
    ∙ ap (λ m. nat_eq m c.args.number) (number_by_key collation c.has_well_formed_tables.ensures name (starts_in self.starts) self.keyed)
