-- A byte more that both have goes to the common beginning.
use Rattle.std.proofs.Common.{◌∷◌, []}
use Rattle.icu_text_encodings.proofs.UnitCutLemmas.{rest_alike, none_left, longer_beginning, beginning_goes_on}
use Rattle.icu_text_encodings.proofs.common_units.common_bytes.Goals as goal

pub bytes-preserved : goal.bytes-preserved
bytes-preserved c =
    let both = c.in-Some.ensures in
    longer_beginning _ _ _ _ (both.0 ∷ []) _ _ c.bytes.invariant both.1 both.2

pub returns-clause-same : goal.returns-clause-same
returns-clause-same c = λ e.
    let empty = c.in_default.ensures (rest_alike _ _ _ _ c.bytes.invariant e) in
    none_left c.args.left.now c.bytes.left_rest.now empty

pub bytes-init : goal.bytes-init
bytes-init c =
    beginning_goes_on _ _ _ _ _ _ c.after_common_blocks.ensures c.after_common_words.ensures
