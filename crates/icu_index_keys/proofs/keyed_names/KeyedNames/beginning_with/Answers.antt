use Rattle.std.proofs.Common.{◌≡◌, Some, None, ◌∙◌, ap, sym}
use Rattle.icu_order_levels.specs.beginnings.KeyBeginnings.{least_above}
use Rattle.icu_index_keys.proofs.BeginningRangeLemmas.{behind_begins, between_begins}
use Rattle.icu_index_keys.specs.KeyedLists.{keyed_names}
use Rattle.icu_index_keys.proofs.keyed_names.KeyedNames.beginning_with.Goals as goal

pub returns-then-raise : goal.returns-then-raise
returns-then-raise c =
    let is : least_above c.args.beginning.now ≡ Some c.as_slice.result.now
    = ap least_above (sym c.in_ok-end.ensures.items)
    ∙ (c.if-raise.ensures ∙ ap (λ bs. Some bs) (sym c.as_slice.ensures.value)) in
    c.between.ensures
    ∙ between_begins c.args.beginning c.are_bytes.ensures c.as_slice.result is (keyed_names c.args.self.now) c.has_byte_keys.ensures

pub returns : goal.returns
returns c =
    let is : least_above c.args.beginning.now ≡ None
    = ap least_above (sym c.in_ok-end.ensures.items) ∙ c.if-raise.ensures in
    c.behind.ensures ∙ behind_begins c.args.beginning c.are_bytes.ensures is (keyed_names c.args.self.now) c.has_byte_keys.ensures
