use Rattle.std.proofs.Common.{ℕ, List, Err, sym, subst}
use Rattle.std.proofs.lemmas.List.{append-nil}
use Rattle.std.proofs.lemmas.Result.{err_from_is_err_and}
use Rattle.icu_order_levels.specs.Keys.{part_bytes}
use Rattle.icu_key_writers.specs.KeyWrites.{KeyWrites}
use Rattle.icu_key_writers.proofs.KeyWriting.{key_after, key_front}
use Rattle.icu_order_texts.specs.weighting.Levels.{weights}
use Rattle.icu_key_texts.specs.LevelRests.{characters_left}
use Rattle.icu_key_texts.proofs.CommonRestLemmas.{ends}
use Rattle.icu_key_texts.proofs.common_elements.CommonElements.close.Goals as goal

pub returns-in_err-write_secondaries-clause-bytes : goal.returns-in_err-write_secondaries-clause-bytes
unfolding weights
returns-in_err-write_secondaries-clause-bytes g c = λ k.
    let p = err_from_is_err_and c.from_residual.result c.from_residual.ensures.1 in
    rw (p.1, p.2) (ends {O = Unit {0}} g.S.CollationKeySink.effects _ _ _ _ c.args.tertiary c.args.identical c.args.self.now.count c.args.characters.now (Err c.in_err-write_secondaries.field-0.0)
    (key_front g.S.CollationKeySink.effects (Unit {0}) (Unit {0}) _ _ _ _ _ _ c.in_err-write_secondaries.field-0.0 c.in_err-write_secondaries.ensures.bytes))

pub returns-in_err-write_tertiaries-clause-bytes : goal.returns-in_err-write_tertiaries-clause-bytes
unfolding weights
returns-in_err-write_tertiaries-clause-bytes g c = λ k.
    let p = err_from_is_err_and c.from_residual-in_err-write_tertiaries.result c.from_residual-in_err-write_tertiaries.ensures.1 in
    rw (p.1, p.2) (ends {O = Unit {0}} g.S.CollationKeySink.effects _ _ _ _ c.args.tertiary c.args.identical c.args.self.now.count c.args.characters.now (Err c.in_err-write_tertiaries.field-0.0)
    (key_after g.S.CollationKeySink.effects {O = Unit {0}} _ _ _ _ _ _ _ _ (Err c.in_err-write_tertiaries.field-0.0)
    (λ y z t u b d. g.met.S.CollationKeySink.took_both _ y z _ t u b d c.requires) c.in_ok-write_secondaries.ensures.bytes
    (key_front g.S.CollationKeySink.effects (Unit {0}) (Unit {0}) _ _ _ _ _ _ c.in_err-write_tertiaries.field-0.0 c.in_err-write_tertiaries.ensures.bytes)))

pub returns-clause-bytes : goal.returns-clause-bytes
unfolding weights
returns-clause-bytes g c = λ k.
    let end = subst (λ (l : List ℕ). KeyWrites g.S.CollationKeySink.effects c.write_tertiaries.new.sink c.write_tertiaries.new.state l c.write_identical.result c.write_identical.new.sink c.write_identical.new.state)
    (sym (append-nil (part_bytes (characters_left c.args.identical c.args.characters.now)))) c.write_identical.ensures.bytes in
    ends g.S.CollationKeySink.effects _ _ _ _ c.args.tertiary c.args.identical c.args.self.now.count c.args.characters.now _
    (key_after g.S.CollationKeySink.effects _ _ _ _ _ _ _ _ _
    (λ y z t u b d. g.met.S.CollationKeySink.took_both _ y z _ t u b d c.requires) c.in_ok-write_secondaries.ensures.bytes
    (key_after g.S.CollationKeySink.effects _ _ _ _ _ _ _ _ _
    (λ y z t u b d. g.met.S.CollationKeySink.took_both _ y z _ t u b d c.in_ok-write_secondaries.ensures.sound) c.in_ok-write_tertiaries.ensures.bytes
    end))
