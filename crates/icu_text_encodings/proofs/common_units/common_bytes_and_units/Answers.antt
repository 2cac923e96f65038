-- A word or a unit more that both have goes to the common beginning.
use Rattle.std.proofs.Common.{arith, ◌∷◌, []}
use Rattle.icu_text_encodings.proofs.UnitCutLemmas.{rest_alike, none_left, longer_beginning, same_beginning, same_characters}
use Rattle.icu_text_encodings.proofs.common_units.common_bytes_and_units.Goals as goal

pub units-preserved : goal.units-preserved
units-preserved c =
    let both = c.in-Some.ensures in
    longer_beginning _ _ _ _ (both.0 ∷ []) _ _ c.units.invariant both.1 both.2

pub returns-clause-beginnings : goal.returns-clause-beginnings
returns-clause-beginnings c = λ n le. same_characters n _ c.args.left.now c.args.right.now (λ i. omega (arith, c.type_inv.left i)) le
    (same_beginning _ _ _ _ c.units.invariant)

pub returns-clause-same : goal.returns-clause-same
returns-clause-same c = λ e.
    let empty = c.in_default.ensures (rest_alike _ _ _ _ c.units.invariant e) in
    none_left c.args.left.now c.units.left_rest.now empty
