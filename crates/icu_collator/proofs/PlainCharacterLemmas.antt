-- Characters with a bit are starters that decompose to themselves, by a computation over those below U+0800.
use Rattle.std.proofs.Common.{◌≡◌, ℕ, ◌<◌, ◌/◌, ◌%◌, Bool, true, false, not, ◌&&◌, ◌||◌, ◌==◌, nat_lt, slice_index, List, [], ◌∷◌, refl, sym, ap, ◌∙◌}
use Rattle.std.proofs.lemmas.Bool.{and_parts, ltb-true}
use Rattle.ucd_table.proofs.Stepped.{Stepped, zip_stepped}
use Rattle.ucd_table.proofs.Facts.{Stepped-below}
use Rattle.ucd_table.proofs.RangedFacts.{points_ok}
use Rattle.ucd_table.proofs.Computing.{tables}
use Rattle.ucd_normal.specs.declared.forms.Form.TheVariants.{Nfd}
use Rattle.ucd_normal.specs.declared.forms.QuickCheck.{QuickCheck}
use Rattle.ucd_normal.specs.CanonicalCombiningClass.{canonical_combining_class as class_of}
use Rattle.ucd_normal.specs.QuickCheck.{quick_check}
use Rattle.ucd_normal.proofs.CanonicalCombiningClassLemmas.{canonical_combining_class_stepped}
use Rattle.ucd_normal.proofs.QuickCheckLemmas.{quick_check_stepped}
use Rattle.unicode_normalization.specs.Decompose.{decompose}
use Rattle.unicode_normalization.specs.Order.{is_starter}
use Rattle.unicode_normalization.proofs.DecomposeLemmas.{decompose-final}
use Rattle.unicode_normalization.proofs.FormsLemmas.{is_final-Nfd, is_yes-true}
use Rattle.unicode_normalization.proofs.TableFacts.{is_yes}
use Rattle.icu_table_entries.specs.Entries.{has_bit}
use Rattle.icu_collator.specs.declared.plain_characters.TheConstants.{PLAIN}

-- the bit of a character
abbrev pub is_set : ℕ → Bool
is_set c = has_bit (c % 64) (slice_index PLAIN (c / 64))

abbrev is_plain_by : ℕ → QuickCheck → Bool
is_plain_by class quick = class == 0 && is_yes quick

abbrev passes : ℕ → Bool → Bool
passes c plain = not (is_set c) || plain

plain_there : (c : ℕ) → c < 0x800 → passes c (is_plain_by (class_of c) (quick_check Nfd c)) ≡ true
unfolding tables points_ok canonical_combining_class_stepped quick_check_stepped
plain_there =
    let plain : Stepped (λ c. is_plain_by (class_of c) (quick_check Nfd c)) = zip_stepped is_plain_by class_of (quick_check Nfd) canonical_combining_class_stepped (quick_check_stepped Nfd) in
    Stepped-below (λ c. is_plain_by (class_of c) (quick_check Nfd c)) plain passes 0x800 refl

-- such a character
pub plain_parts : (c : ℕ) → (nat_lt c 0x800 && is_set c) ≡ true → (decompose Nfd c ≡ c ∷ []) × (is_starter c ≡ true)
plain_parts c h =
    let parts = and_parts (nat_lt c 0x800) (is_set c) h in
    let there : is_plain_by (class_of c) (quick_check Nfd c) ≡ true =
    ap (λ b. not b || is_plain_by (class_of c) (quick_check Nfd c)) (sym parts.1) ∙ plain_there c (ltb-true c 0x800 parts.0) in
    let plain = and_parts (class_of c == 0) (is_yes (quick_check Nfd c)) there in
    (decompose-final Nfd c (is_final-Nfd c (is_yes-true _ plain.1)), plain.0)
