use Rattle.std.proofs.Common.{◌≡◌, ℕ, List, ◌∷◌, ◌∙◌, sym}
use Rattle.icu_order_levels.specs.declared.forms.KeyForm.{KeyForm}
use Rattle.icu_order_texts.specs.weighting.Handled.{HandledElement, shifted_primary}
use Rattle.icu_key_texts.specs.LevelRests.{counted_commons, levels_left}
use Rattle.icu_key_texts.proofs.CommonElementLemmas.{said_otherwise, uncounted}
use Rattle.icu_key_texts.proofs.counted_levels.CountedLevels.push_shifted.Goals as goal

pub returns-clause-levels : goal.returns-clause-levels
returns-clause-levels g c =
    let reorder : ℕ → ℕ = (g.C.PrimaryCompression.compression c.args.compression.now).reorder in
    let f : KeyForm = g.F.WrittenForm.form_written c.args.form.now in
    said_otherwise {P = (cs : List ℕ) (hs : List HandledElement) → levels_left reorder f c.feed.new.self.levels cs (shifted_primary c.args.primary ∷ hs) ≡ levels_left reorder f c.push_shifted.new.self cs hs}
    c.push_shifted.result
    (λ pushed cs hs. c.in_ok-feed.ensures.levels reorder cs (shifted_primary c.args.primary ∷ hs)
    ∙ (pushed cs hs ∙ sym (uncounted reorder f c.push_shifted.new.self (counted_commons c.feed.new.self.commons f.secondary) cs hs c.in_ok-feed.ensures.none)))
    c.push_shifted.ensures.levels
