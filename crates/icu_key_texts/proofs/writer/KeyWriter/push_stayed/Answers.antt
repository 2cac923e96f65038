use Rattle.std.proofs.Common.{ℕ, List, ◌∷◌}
use Rattle.std.proofs.lemmas.Result.{err_from_is_err_and}
use Rattle.icu_order_levels.specs.Keys.{parts_bytes}
use Rattle.icu_table_entries.specs.Elements.{Element}
use Rattle.icu_key_writers.specs.WriterRests.{primary_rest}
use Rattle.icu_key_writers.proofs.Writing.{fails_front}
use Rattle.icu_key_writers.proofs.KeyWriting.{begins_brought, brings_of}
use Rattle.icu_order_texts.specs.weighting.Handled.{HandledElement, stayed, stayed_elements}
use Rattle.icu_order_texts.specs.weighting.Levels.{primaries}
use Rattle.icu_key_texts.specs.LevelRests.{counted_left}
use Rattle.icu_key_texts.proofs.writer.KeyWriter.push_stayed.Goals as goal

pub returns-in-Err-clause-bytes : goal.returns-in-Err-clause-bytes
returns-in-Err-clause-bytes g c = λ cs rest.
    fails_front g.S.CollationKeySink.effects _ _ _ _ _ (parts_bytes (counted_left (g.C.PrimaryCompression.compression c.args.compression.now).reorder (g.F.WrittenForm.form_written c.args.form.now) c.args.self.now.levels cs (stayed c.args.element ∷ rest))) _ (c.in-Err.ensures.bytes (stayed_elements rest))

pub returns-in_err-push_stayed-clause-bytes : goal.returns-in_err-push_stayed-clause-bytes
returns-in_err-push_stayed-clause-bytes g c = λ cs.
    let r = err_from_is_err_and c.from_residual.result c.from_residual.ensures.1 in
    let p : List Element → List ℕ = λ es. primary_rest (g.C.PrimaryCompression.compression c.args.compression.now) c.args.self.now.primaries (primaries (c.args.element ∷ es)) in
    let q : List Element → List ℕ = λ es. primary_rest (g.C.PrimaryCompression.compression c.args.compression.now) c.push_primary.new.writer (primaries es) in
    rw (r.1, r.2) (λ rest. begins_brought g.S.CollationKeySink.effects _ _ _ _ (λ (hs : List HandledElement). p (stayed_elements hs)) (λ hs. q (stayed_elements hs))
    (λ hs. parts_bytes (counted_left (g.C.PrimaryCompression.compression c.args.compression.now).reorder (g.F.WrittenForm.form_written c.args.form.now) c.args.self.now.levels cs (stayed c.args.element ∷ hs)))
    (brings_of g.S.CollationKeySink.effects stayed_elements _ _ _ _ p q c.in_default.ensures.bytes) rest)
