-- The last characters decide.
use Rattle.std.proofs.Common.{◌&&◌, ◌-◌, ℕ, List, length, get_or, sym, ◌∙◌, refl}
use Rattle.std.proofs.lemmas.Bool.{or_left}
use Rattle.icu_rule_steps.specs.RuleFaults.{is_leading_jamo, is_vowel_jamo}
use Rattle.icu_rule_steps.proofs.ContractionEnds.{short, by_last, or_right, and_right, and_left, last_at, before_at}
use Rattle.icu_rule_steps.proofs.faults.ends_in_syllable.Goals as goal

pub returns-then-count-lt2 : goal.returns-then-count-lt2
returns-then-count-lt2 c = short c.args.string.now c.if-count-lt2.true

pub returns-then-is_leading_jamo : goal.returns-then-is_leading_jamo
returns-then-is_leading_jamo c =
    let xs : List ℕ = c.args.string.now in
    let y : ℕ = get_or xs (length xs - 2) 0 in
    let z : ℕ = c.index-string-count.result in
    c.if-is_leading_jamo.true
    ∙ sym (or_left (is_leading_jamo z) (is_vowel_jamo z && is_leading_jamo y) (sym c.is_leading_jamo.ensures ∙ c.if-is_leading_jamo.true))
    ∙ by_last xs y z c.if-count-lt2.false refl (last_at xs z c.if-count-lt2.false c.index-string-count.is)

pub returns-then-is_vowel_jamo : goal.returns-then-is_vowel_jamo
returns-then-is_vowel_jamo c =
    let xs : List ℕ = c.args.string.now in
    let y : ℕ = c.index-string-count-then-is_vowel_jamo.result in
    let z : ℕ = c.index-string-count.result in
    c.is_leading_jamo-then-is_vowel_jamo.ensures
    ∙ sym (and_right (is_vowel_jamo z) (is_leading_jamo y) (sym c.is_vowel_jamo.ensures ∙ c.if-is_vowel_jamo.true))
    ∙ sym (or_right (is_leading_jamo z) (is_vowel_jamo z && is_leading_jamo y) (sym c.is_leading_jamo.ensures ∙ c.if-is_leading_jamo.false))
    ∙ by_last xs y z c.if-count-lt2.false (before_at xs y c.if-count-lt2.false c.index-string-count-then-is_vowel_jamo.is)
    (last_at xs z c.if-count-lt2.false c.index-string-count.is)

pub returns-else-is_vowel_jamo : goal.returns-else-is_vowel_jamo
returns-else-is_vowel_jamo c =
    let xs : List ℕ = c.args.string.now in
    let y : ℕ = get_or xs (length xs - 2) 0 in
    let z : ℕ = c.index-string-count.result in
    c.if-is_vowel_jamo.false
    ∙ sym (and_left (is_vowel_jamo z) (is_leading_jamo y) (sym c.is_vowel_jamo.ensures ∙ c.if-is_vowel_jamo.false))
    ∙ sym (or_right (is_leading_jamo z) (is_vowel_jamo z && is_leading_jamo y) (sym c.is_leading_jamo.ensures ∙ c.if-is_leading_jamo.false))
    ∙ by_last xs y z c.if-count-lt2.false refl (last_at xs z c.if-count-lt2.false c.index-string-count.is)
