use Rattle.std.proofs.Common.{ap, ap₂, ◌++◌, List, ℕ}
use Rattle.icu_order_levels.specs.Keys.{parts_bytes}
use Rattle.icu_order_texts.specs.weighting.Handled.{stayed_elements}
use Rattle.icu_order_texts.specs.weighting.Levels.{primaries}
use Rattle.icu_key_texts.proofs.CommonRestLemmas.{none_counted}
use Rattle.icu_key_texts.proofs.common_elements.CommonElements.new.Goals as goal

pub returns : goal.returns
returns g = λ k t identical cs hs.
    ap₂ (λ (a b : List ℕ). a ++ b) (g.new.ensures k (primaries (stayed_elements hs))) (ap parts_bytes (none_counted t identical k.reorder cs hs))
