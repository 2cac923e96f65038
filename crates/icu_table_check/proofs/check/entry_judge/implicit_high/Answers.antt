use Rattle.std.proofs.Common.{◌≡◌, ◌/◌, ◌∙◌, ap}
use Rattle.icu_table_entries.specs.Elements.{Element}
use Rattle.icu_table_entries.specs.Weights.{implicit_weight}
use Rattle.icu_table_check.proofs.check.entry_judge.implicit_high.Goals as goal

pub returns : goal.returns
returns c =
    let is : c.primary.result ≡ implicit_weight c.args.c = c.primary.ensures ∙ ap (λ (x : Element). x.primary) c.new_implicit_from_char.ensures in
    ap (λ p. p / 65536) is
