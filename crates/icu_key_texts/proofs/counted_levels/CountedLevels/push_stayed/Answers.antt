use Rattle.std.proofs.Common.{◌≡◌, ℕ, suc, ◌+◌, ◌∙◌, ap, sym, arith, refl, Some}
use Rattle.icu_order_levels.specs.declared.forms.KeyForm.{KeyForm}
use Rattle.icu_order_levels.specs.declared.forms.SecondaryForm.TheVariants.{Forward}
use Rattle.icu_key_texts.specs.LevelRests.{counted_commons, levels_after}
use Rattle.icu_key_texts.proofs.CommonElementLemmas.{counted_more}
use Rattle.icu_key_texts.proofs.counted_levels.CountedLevels.push_stayed.Goals as goal

pub returns-then-self-lt4294967295-clause-levels : goal.returns-then-self-lt4294967295-clause-levels
returns-then-self-lt4294967295-clause-levels g c = λ reorder cs hs.
    let f : KeyForm = g.F.WrittenForm.form_written c.args.form.now in
    let n : ℕ = c.args.self.now.commons in
    let forward : f.secondary ≡ Some Forward = ap (λ (k : KeyForm). k.secondary) (sym c.form.ensures) ∙ c.if-counts.ensures.0 refl in
    let common : (c.args.element.secondary ≡ 0x500) × (c.args.element.lower ≡ 0x500) = c.if-is_common.ensures refl in
    let one : suc n ≡ n + 1 = omega arith in
    counted_more reorder f c.args.self.now.levels cs n c.args.element hs forward c.requires.form common.0 common.1
    ∙ ap (λ (m : ℕ). levels_after reorder f c.args.self.now.levels (counted_commons m f.secondary) cs hs) one
