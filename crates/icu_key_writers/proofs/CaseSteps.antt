-- Nibbles of a level that counts runs, one case at a time.
use Rattle.std.proofs.Common.{◌≡◌, ◌≢◌, ℕ, suc, List, [], ◌∷◌, ◌++◌, refl, sym, ap, ◌∙◌, append_assoc}
use Rattle.std.proofs.lemmas.List.{append-nil}
use Rattle.icu_order_levels.specs.declared.run_bytes.RunBytes.{RunBytes}
use Rattle.icu_order_levels.specs.Runs.{run_before_less, run_before, level_bytes}
use Rattle.icu_order_levels.specs.Cases.{packed, case_runs}
use Rattle.icu_order_levels.specs.declared.forms.CaseForm.{CaseForm}
use Rattle.icu_order_levels.specs.declared.forms.CaseForm.TheVariants.{LowerFirst, UpperFirst}
use Rattle.icu_key_writers.specs.CaseRanks.{rank_of}
use Rattle.icu_key_writers.specs.declared.cases.LetterCase.TheVariants.{Lower}
use Rattle.icu_order_levels.proofs.LevelOrder.{level_common}
use Rattle.icu_key_writers.proofs.RunSteps.{other_level}

-- a common case is counted
pub counted_case : (q r : RunBytes) (spell : ℕ → List ℕ) (n m w : ℕ) (ws held due byte left : List ℕ) → q ≡ r → w ≡ r.common
    → ((vs : List ℕ) → level_bytes r spell (suc n) vs ≡ due ++ level_bytes r spell m vs)
    → ((ns : List ℕ) → packed (held ++ (due ++ ns)) ≡ byte ++ packed (left ++ ns))
    → packed (held ++ level_bytes q spell n (w ∷ ws)) ≡ byte ++ packed (left ++ level_bytes q spell m ws)
counted_case q r spell n m w ws held due byte left d e counts packs =
    ap (λ p. packed (held ++ level_bytes p spell n (w ∷ ws))) d
    ∙ (ap (λ l. packed (held ++ l)) (level_common r spell n w ws e ∙ counts ws)
    ∙ (packs (level_bytes r spell m ws) ∙ ap (λ p. byte ++ packed (left ++ level_bytes p spell m ws)) (sym d)))

-- another case ends the run, and its own nibble follows
pub other_case : (q r : RunBytes) (spell : ℕ → List ℕ) (n m w v nibble : ℕ) (ws held last first mid second left : List ℕ) → q ≡ r → w ≡ v → v ≢ r.common
    → last ≡ run_before r n v → spell v ≡ nibble ∷ [] → m ≡ 0
    → ((ns : List ℕ) → packed (held ++ (last ++ ns)) ≡ first ++ packed (mid ++ ns))
    → ((ns : List ℕ) → packed (mid ++ (nibble ∷ ns)) ≡ second ++ packed (left ++ ns))
    → packed (held ++ level_bytes q spell n (w ∷ ws)) ≡ (first ++ second) ++ packed (left ++ level_bytes q spell m ws)
other_case q r spell n m w v nibble ws held last first mid second left d f other ends spells empty packs adds =
    ap (λ p. packed (held ++ level_bytes p spell n (w ∷ ws))) d
    ∙ (ap (λ u. packed (held ++ level_bytes r spell n (u ∷ ws))) f
    ∙ (ap (λ l. packed (held ++ l)) (other_level r spell n v m ws last (nibble ∷ []) other ends spells empty ∙ append_assoc last (nibble ∷ []) (level_bytes r spell m ws))
    ∙ (packs (nibble ∷ level_bytes r spell m ws)
    ∙ (ap (λ l. first ++ l) (adds (level_bytes r spell m ws))
    ∙ (sym (append_assoc first second (packed (left ++ level_bytes r spell m ws)))
    ∙ ap (λ p. (first ++ second) ++ packed (left ++ level_bytes p spell m ws)) (sym d))))))

-- the end closes the run, and pads a nibble that is left
pub end_case : (q r : RunBytes) (n : ℕ) (held last first mid second : List ℕ) → q ≡ r → last ≡ run_before_less r n
    → ((ns : List ℕ) → packed (held ++ (last ++ ns)) ≡ first ++ packed (mid ++ ns))
    → second ≡ packed mid
    → packed (held ++ run_before_less q n) ≡ first ++ second
end_case q r n held last first mid second d ends packs pads =
    ap (λ p. packed (held ++ run_before_less p n)) d
    ∙ (ap (λ l. packed (held ++ l)) (sym ends ∙ sym (append-nil last))
    ∙ (packs [] ∙ ap (λ l. first ++ l) (ap packed (append-nil mid) ∙ sym pads)))

-- lower case is common
lower : (form : CaseForm) → rank_of form Lower ≡ (case_runs form).common
lower LowerFirst = refl
lower UpperFirst = refl

pub lower_common : (f g : CaseForm) → f ≡ g → rank_of f Lower ≡ (case_runs g).common
lower_common f g e = rw e (lower g)
