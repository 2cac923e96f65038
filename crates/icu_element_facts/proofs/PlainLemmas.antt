-- The characters of some blocks are starters that decompose to themselves, by a computation over all characters.
use Rattle.std.proofs.Common.{◌≡◌, ℕ, ◌+◌, ◌*◌, ◌<◌, ◌≤◌, Bool, true, false, not, ◌&&◌, ◌||◌, ◌==◌, nat_le, List, [], ◌∷◌, map, refl, sym, ap, ◌∙◌, inl, inr, arith}
use Rattle.std.proofs.lemmas.Bool.{and_parts, and_from, le-leb, leb-true, or_cases, or_left, or_right, or_parts, not-false, true_from_ne_false}
use Rattle.std.proofs.lemmas.List.Folds.{list_any_at}
use Rattle.std.specs.List.{list_any}
use Rattle.ucd_table.specs.Rows.{Range, in_ranges}
use Rattle.ucd_table.proofs.Stepped.{Stepped, zip_stepped, of_ranges}
use Rattle.ucd_table.proofs.RangedFacts.{points_ok, Stepped-at_points}
use Rattle.ucd_table.proofs.Computing.{tables}
use Rattle.ucd_normal.specs.declared.forms.Form.TheVariants.{Nfd}
use Rattle.ucd_normal.specs.declared.forms.QuickCheck.{QuickCheck}
use Rattle.ucd_normal.specs.CanonicalCombiningClass.{canonical_combining_class as class_of}
use Rattle.ucd_normal.specs.QuickCheck.{quick_check}
use Rattle.ucd_normal.proofs.CanonicalCombiningClassLemmas.{canonical_combining_class_stepped}
use Rattle.ucd_normal.proofs.QuickCheckLemmas.{quick_check_stepped}
use Rattle.unicode_normalization.proofs.DecomposeLemmas.{decompose-final}
use Rattle.unicode_normalization.proofs.FormsLemmas.{is_final-Nfd, is_yes-true}
use Rattle.unicode_normalization.proofs.TableFacts.{is_yes}
use Rattle.icu_element_facts.specs.declared.plain_blocks.TheConstants.{PLAIN_BLOCKS}
use Rattle.icu_element_facts.specs.inner.OwnBlocks.{IsPlain, IsPlainBlock}

-- ---- ranges of blocks, and of their code points

abbrev holds : ℕ → Range → Bool
holds index r = nat_le r.0 index && nat_le index r.1

abbrev code_points : Range → Range
code_points r = (64 * r.0, 64 * r.1 + 63)

points_in_ranges : (rs : List Range) (index k : ℕ) → k < 64 → list_any (holds index) rs ≡ true → in_ranges (map code_points rs) (64 * index + k) ≡ true
unfolding in_ranges
points_in_ranges [] index k small h = cc
points_in_ranges (r ∷ rs) index k small h =
    elim (or_cases (holds index r) (list_any (holds index) rs) h) [
      | inl here ↦
          let parts = and_parts (nat_le r.0 index) (nat_le index r.1) here in
          let low = leb-true r.0 index parts.0 in
          let high = leb-true index r.1 parts.1 in
          or_left _ _ (and_from _ _ (le-leb (64 * r.0) (64 * index + k) (omega (arith, low))) (le-leb (64 * index + k) (64 * r.1 + 63) (omega (arith, high, small))))
      | inr later ↦ or_right _ _ (points_in_ranges rs index k small later)
    ]

-- ---- the computation

abbrev is_plain_by : ℕ → QuickCheck → Bool
is_plain_by class quick = class == 0 && is_yes quick

abbrev plain_ranges : List Range
plain_ranges = map code_points PLAIN_BLOCKS

abbrev passes : Bool → Bool → Bool
passes inside plain = not inside || plain

plain_there : (c : ℕ) → passes (in_ranges plain_ranges c) (is_plain_by (class_of c) (quick_check Nfd c)) ≡ true
unfolding tables points_ok canonical_combining_class_stepped quick_check_stepped
plain_there c =
    let plain : Stepped (λ c. is_plain_by (class_of c) (quick_check Nfd c)) = zip_stepped is_plain_by class_of (quick_check Nfd) canonical_combining_class_stepped (quick_check_stepped Nfd) in
    let inside : Stepped (in_ranges plain_ranges) = of_ranges plain_ranges refl in
    let both : Stepped (λ c. passes (in_ranges plain_ranges c) (is_plain_by (class_of c) (quick_check Nfd c))) = zip_stepped passes (in_ranges plain_ranges) (λ c. is_plain_by (class_of c) (quick_check Nfd c)) inside plain in
    true_from_ne_false _ (λ fails. let clash = Stepped-at_points _ both (λ b. b) (λ _ _. false) refl c fails in cc)

late_by : (rs : List Range) (c : ℕ) → list_any (λ r. not (nat_le 0x1200 r.0)) rs ≡ false → in_ranges rs c ≡ true → 0x1200 ≤ c
unfolding in_ranges
late_by [] c h is = cc
late_by (r ∷ rs) c h is =
    let later = or_parts (not (nat_le 0x1200 r.0)) _ h in
    elim (or_cases (nat_le r.0 c && nat_le c r.1) (in_ranges rs c) is) [
      | inl here ↦
          let low = leb-true r.0 c (and_parts (nat_le r.0 c) (nat_le c r.1) here).0 in
          let first = leb-true 0x1200 r.0 (not-false (nat_le 0x1200 r.0) later.0) in
          omega (arith, low, first)
      | inr there ↦ late_by rs c later.1 there
    ]

plain_in : (c : ℕ) → in_ranges plain_ranges c ≡ true → IsPlain c
plain_in c inside =
    let there : is_plain_by (class_of c) (quick_check Nfd c) ≡ true = ap (λ b. passes b (is_plain_by (class_of c) (quick_check Nfd c))) (sym inside) ∙ plain_there c in
    let parts = and_parts (class_of c == 0) (is_yes (quick_check Nfd c)) there in
    record {
      itself = decompose-final Nfd c (is_final-Nfd c (is_yes-true _ parts.1));
      starter = parts.0;
      late = late_by plain_ranges c refl inside;
    }

pub plain_block : (index : ℕ) → list_any (λ r. nat_le r.0 index && nat_le index r.1) PLAIN_BLOCKS ≡ true → IsPlainBlock index
plain_block index h = λ k small. plain_in (64 * index + k) (points_in_ranges PLAIN_BLOCKS index k small h)

-- the blocks from the first one of the last range on are in it
pub last_plain : (index : ℕ) → 0xBE9 ≤ index → index < 17408 → true ≡ list_any (λ r. nat_le r.0 index && nat_le index r.1) PLAIN_BLOCKS
last_plain index low high =
    sym (list_any_at (λ (r : Range). nat_le r.0 index && nat_le index r.1) PLAIN_BLOCKS 14 (0, 0) (omega arith)
    (and_from _ _ (le-leb 0xBE9 index low) (le-leb index 0x43FF (omega (arith, high)))))
