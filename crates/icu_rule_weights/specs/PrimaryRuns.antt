-- Gaps for the tailored primary weights of runs (UTS #35 part 5, "Collation Tailorings").
use Rattle.std.specs.Prelude.{ℕ, true, ◌≡◌, ◌/◌, ◌^◌, ◌≤◌, List, [], ◌∷◌, length, unwrap_or}
use Rattle.icu_table_provider.specs.SpecialPrimaries.{SpecialPrimaries, is_compressible}
use Rattle.icu_rule_weights.specs.declared.weight_gaps.byte_range.WeightForm.{WeightForm}
use Rattle.icu_rule_weights.specs.declared.primary_gaps.PrimaryGap.{PrimaryGap}
use Rattle.icu_rule_weights.specs.declared.sibling_run.SiblingRun.{SiblingRun}

-- one of the lead bytes between those of two weights is compressible
abbrev pub HasCompressible : SpecialPrimaries → ℕ → ℕ → Type 0
HasCompressible special low high =
    (b : ℕ) × (low / 2 ^ 24 ≤ b) × (b ≤ high / 2 ^ 24) × (is_compressible special b ≡ true)

-- how weights are written where a lead byte is compressible: with a second byte, from 04 to FE
pub record IsCompressedForm (form : WeightForm) : Type 0 where
  pub shortest : form.shortest ≡ 2
  pub longest : form.longest ≡ 4
  pub least : form.seconds.least ≡ 4
  pub greatest : form.seconds.greatest ≡ 0xFE

-- how other weights are written
pub record IsPlainForm (form : WeightForm) : Type 0 where
  pub shortest : form.shortest ≡ 1
  pub longest : form.longest ≡ 4
  pub least : form.seconds.least ≡ 2
  pub greatest : form.seconds.greatest ≡ 0xFF

-- how weights between two others are written
pub record IsFormFor (special : SpecialPrimaries) (low high : ℕ) (form : WeightForm) : Type 0 where
  pub compressed : HasCompressible special low high → IsCompressedForm form
  pub plain : (HasCompressible special low high → ⊥) → IsPlainForm form

-- the gap for the tailored weights of a run
pub record IsPrimaryGapOf (special : SpecialPrimaries) (limit : ℕ) (run : SiblingRun) (wanted : PrimaryGap) : Type 0 where
  pub low : wanted.gap.low ≡ run.rooted
  pub high : wanted.gap.high ≡ unwrap_or run.next limit
  pub count : wanted.count ≡ length run.tailored.now
  pub form : IsFormFor special wanted.gap.low wanted.gap.high wanted.gap.form

-- gaps for the tailored weights of runs, in turn
abbrev pub ArePrimaryGapsOf : SpecialPrimaries → ℕ → List SiblingRun → List PrimaryGap → Type 0
ArePrimaryGapsOf special limit [] [] = Unit {0}
ArePrimaryGapsOf special limit [] (wanted ∷ gaps) = ⊥
ArePrimaryGapsOf special limit (run ∷ runs) [] = ⊥
ArePrimaryGapsOf special limit (run ∷ runs) (wanted ∷ gaps) =
    IsPrimaryGapOf special limit run wanted × ArePrimaryGapsOf special limit runs gaps
