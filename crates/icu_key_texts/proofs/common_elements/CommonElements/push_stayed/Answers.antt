use Rattle.std.proofs.Common.{ℕ, List, ◌∷◌, ap}
use Rattle.std.proofs.lemmas.Result.{err_from_is_err_and}
use Rattle.icu_order_levels.specs.Keys.{parts_bytes}
use Rattle.icu_table_entries.specs.Elements.{Element}
use Rattle.icu_key_writers.specs.WriterRests.{primary_rest}
use Rattle.icu_key_writers.proofs.Writing.{fails_front}
use Rattle.icu_key_writers.proofs.KeyWriting.{begins_brought, brings_of, feeds_both}
use Rattle.icu_order_texts.specs.weighting.Handled.{HandledElement, stayed_elements}
use Rattle.icu_order_texts.specs.weighting.Levels.{primaries}
use Rattle.icu_key_texts.specs.ThreeRests.{parts_after_held}
use Rattle.icu_key_texts.proofs.common_elements.CommonElements.push_stayed.Goals as goal

pub returns-in-Err-clause-bytes : goal.returns-in-Err-clause-bytes
returns-in-Err-clause-bytes g c = λ identical cs rest.
    fails_front g.S.CollationKeySink.effects _ _ _ _ _ (parts_bytes (parts_after_held c.args.form identical c.args.self.now.count c.args.levels.now cs (c.args.element ∷ stayed_elements rest))) _ (c.in-Err.ensures.bytes (stayed_elements rest))

pub returns-in_err-hold-clause-bytes : goal.returns-in_err-hold-clause-bytes
returns-in_err-hold-clause-bytes g c = λ identical cs.
    let r = err_from_is_err_and c.from_residual.result c.from_residual.ensures.1 in
    let p : List Element → List ℕ = λ es. primary_rest (g.C.PrimaryCompression.compression c.args.compression.now) c.args.self.now.primaries (primaries (c.args.element ∷ es)) in
    let q : List Element → List ℕ = λ es. primary_rest (g.C.PrimaryCompression.compression c.args.compression.now) c.push_primary.new.writer (primaries es) in
    rw (r.1, r.2) (λ rest. begins_brought g.S.CollationKeySink.effects _ _ _ _ (λ (hs : List HandledElement). p (stayed_elements hs)) (λ hs. q (stayed_elements hs))
    (λ hs. parts_bytes (parts_after_held c.args.form identical c.args.self.now.count c.args.levels.now cs (c.args.element ∷ stayed_elements hs)))
    (brings_of g.S.CollationKeySink.effects stayed_elements _ _ _ _ p q c.in_default.ensures.bytes) rest)

pub returns-clause-bytes : goal.returns-clause-bytes
returns-clause-bytes g c = λ identical cs.
    let p : List Element → List ℕ = λ es. primary_rest (g.C.PrimaryCompression.compression c.args.compression.now) c.args.self.now.primaries (primaries (c.args.element ∷ es)) in
    let q : List Element → List ℕ = λ es. primary_rest (g.C.PrimaryCompression.compression c.args.compression.now) c.push_primary.new.writer (primaries es) in
    feeds_both g.S.CollationKeySink.effects _ _ _ _ (λ (hs : List HandledElement). p (stayed_elements hs)) (λ hs. q (stayed_elements hs))
    (λ hs. parts_bytes (parts_after_held c.args.form identical c.args.self.now.count c.args.levels.now cs (c.args.element ∷ stayed_elements hs)))
    (λ hs. parts_bytes (parts_after_held c.args.form identical c.hold.new.count c.hold.new.levels cs (stayed_elements hs)))
    (brings_of g.S.CollationKeySink.effects stayed_elements _ _ _ _ p q c.in_default.ensures.bytes)
    (λ hs. ap parts_bytes (c.in_ok-hold.ensures.levels identical cs (stayed_elements hs)))
