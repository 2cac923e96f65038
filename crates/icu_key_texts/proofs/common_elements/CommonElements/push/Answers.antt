use Rattle.std.proofs.Common.{ℕ, ◌+◌, List, ◌∷◌, ap}
use Rattle.icu_order_levels.specs.Keys.{parts_bytes}
use Rattle.icu_table_entries.specs.Elements.{Element}
use Rattle.icu_key_writers.specs.WriterRests.{primary_rest}
use Rattle.icu_key_writers.proofs.Writing.{fails_front}
use Rattle.icu_key_writers.proofs.KeyWriting.{brings_of, feeds_both}
use Rattle.icu_order_texts.specs.weighting.Handled.{HandledElement, stayed_elements}
use Rattle.icu_order_texts.specs.weighting.Levels.{primaries}
use Rattle.icu_key_texts.specs.CommonRests.{parts_after_commons}
use Rattle.icu_key_texts.specs.ThreeRests.{parts_after_held}
use Rattle.icu_key_texts.proofs.CommonRestLemmas.{one_counted}
use Rattle.icu_key_texts.proofs.ThreeRestLemmas.{one_held}
use Rattle.icu_key_texts.proofs.common_elements.CommonElements.push.Goals as goal

pub returns-in-Err-clause-bytes : goal.returns-in-Err-clause-bytes
returns-in-Err-clause-bytes g c = λ t identical cs rest.
    fails_front g.S.CollationKeySink.effects _ _ _ _ _ (parts_bytes (parts_after_commons t identical c.args.self.now.count cs (c.args.element ∷ stayed_elements rest))) _ (c.in-Err.ensures.bytes (stayed_elements rest))

pub returns-clause-bytes : goal.returns-clause-bytes
returns-clause-bytes g c = λ t identical cs.
    let n : ℕ = c.args.self.now.count in
    let p : List Element → List ℕ = λ es. primary_rest (g.C.PrimaryCompression.compression c.args.compression.now) c.args.self.now.primaries (primaries (c.args.element ∷ es)) in
    let q : List Element → List ℕ = λ es. primary_rest (g.C.PrimaryCompression.compression c.args.compression.now) c.push_primary.new.writer (primaries es) in
    feeds_both g.S.CollationKeySink.effects _ _ _ _ (λ (hs : List HandledElement). p (stayed_elements hs)) (λ hs. q (stayed_elements hs))
    (λ hs. parts_bytes (parts_after_commons t identical n cs (c.args.element ∷ stayed_elements hs)))
    (λ hs. parts_bytes (parts_after_commons t identical (n + 1) cs (stayed_elements hs)))
    (brings_of g.S.CollationKeySink.effects stayed_elements _ _ _ _ p q c.in_default.ensures.bytes)
    (λ hs. ap parts_bytes (one_counted t identical n cs c.args.element (stayed_elements hs) c.requires.common.0 c.requires.common.1))

pub returns-in-Err-clause-held : goal.returns-in-Err-clause-held
returns-in-Err-clause-held g c = λ t l identical cs rest.
    fails_front g.S.CollationKeySink.effects _ _ _ _ _ (parts_bytes (parts_after_held t identical c.args.self.now.count l cs (c.args.element ∷ stayed_elements rest))) _ (c.in-Err.ensures.bytes (stayed_elements rest))

pub returns-clause-held : goal.returns-clause-held
returns-clause-held g c = λ t l identical cs.
    let n : ℕ = c.args.self.now.count in
    let p : List Element → List ℕ = λ es. primary_rest (g.C.PrimaryCompression.compression c.args.compression.now) c.args.self.now.primaries (primaries (c.args.element ∷ es)) in
    let q : List Element → List ℕ = λ es. primary_rest (g.C.PrimaryCompression.compression c.args.compression.now) c.push_primary.new.writer (primaries es) in
    feeds_both g.S.CollationKeySink.effects _ _ _ _ (λ (hs : List HandledElement). p (stayed_elements hs)) (λ hs. q (stayed_elements hs))
    (λ hs. parts_bytes (parts_after_held t identical n l cs (c.args.element ∷ stayed_elements hs)))
    (λ hs. parts_bytes (parts_after_held t identical (n + 1) l cs (stayed_elements hs)))
    (brings_of g.S.CollationKeySink.effects stayed_elements _ _ _ _ p q c.in_default.ensures.bytes)
    (λ hs. ap parts_bytes (one_held t identical n l cs c.args.element (stayed_elements hs) c.requires.common.0 c.requires.common.1))
