-- A table's values are those of the blocks that it stores.
use Rattle.std.proofs.Common.{◌≡◌, ◌+◌, ◌*◌, ◌/◌, ◌%◌, ℕ, ap, sym, ◌∙◌, slice_index, arith}
use Rattle.icu_table_entries.specs.Entries.{kind_of}
use Rattle.icu_table_data.specs.Data.{Data}
use Rattle.icu_element_facts.specs.inner.LoneEntries.{is_lone_kind}
use Rattle.icu_element_facts.proofs.lone_blocks.LoneTable.new.Goals as goal

pub returns : goal.returns
returns c = λ index k set small.
    let x = 64 * index + k in
    let blocks = c.parts-2.result.0.now in
    let values = c.parts-2.result.1.now in
    let at : x / 64 ≡ index = omega (arith, small) in
    let within : x % 64 ≡ k = omega (arith, small) in
    ap (λ (d : Data). is_lone_kind (kind_of (d.value x))) (sym c.parts.ensures.value)
    ∙ ap (λ (f : ℕ → ℕ). is_lone_kind (kind_of (f x))) (sym c.parts-2.ensures.value)
    ∙ ap (λ i. is_lone_kind (kind_of (slice_index values (64 * slice_index blocks i + x % 64)))) at
    ∙ ap (λ j. is_lone_kind (kind_of (slice_index values (64 * slice_index blocks index + j)))) within
    ∙ c.in_ok-stored.ensures (slice_index blocks index) k set small
