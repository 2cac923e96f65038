-- Elements with common weights, counted and fed to the levels together.
use Rattle.std.proofs.Common.{◌≡◌, ◌^◌, ℕ, zero, suc, List, ◌∷◌, ◌++◌, Option, Some, None, refl, sym, ap, ◌∙◌, replicate, Result, Ok, Err, OnOk, IfSome}
use Rattle.std.specs.declared.alloc.AllocError.{AllocError}
use Rattle.icu_order_levels.specs.Cases.{case_runs}
use Rattle.icu_order_levels.specs.Keys.{LevelPart, opened, closed}
use Rattle.icu_order_levels.specs.Tertiaries.{tertiary_runs}
use Rattle.icu_order_levels.specs.declared.forms.CaseForm.{CaseForm}
use Rattle.icu_order_levels.specs.declared.forms.CaseForm.TheVariants as cases
use Rattle.icu_order_levels.specs.declared.forms.KeyForm.{KeyForm}
use Rattle.icu_order_levels.specs.declared.forms.QuaternaryForm.{QuaternaryForm}
use Rattle.icu_order_levels.specs.declared.forms.SecondaryForm.{SecondaryForm}
use Rattle.icu_order_levels.specs.declared.forms.SecondaryForm.TheVariants.{Forward, Backward}
use Rattle.icu_order_levels.specs.declared.forms.TertiaryForm.{TertiaryForm}
use Rattle.icu_order_levels.specs.declared.forms.TertiaryForm.TheVariants.{WithoutCase, LowerFirst, UpperFirst}
use Rattle.icu_table_entries.specs.Elements.{Element}
use Rattle.icu_key_writers.specs.HeldRests.{held_secondaries, held_cases, held_case_form, held_tertiaries, held_tertiary_form, held_quaternaries}
use Rattle.icu_key_writers.specs.declared.held_secondaries.HeldSecondaries.{HeldSecondaries}
use Rattle.icu_key_writers.specs.declared.held_segments.HeldSegments.{HeldSegments}
use Rattle.icu_key_writers.specs.declared.held_cases.HeldCases.{HeldCases}
use Rattle.icu_key_writers.specs.declared.held_tertiaries.HeldTertiaries.{HeldTertiaries}
use Rattle.icu_key_writers.specs.declared.held_quaternaries.HeldQuaternaries.{HeldQuaternaries}
use Rattle.icu_order_texts.specs.weighting.Handled.{HandledElement, stayed, stayed_elements}
use Rattle.icu_order_texts.specs.weighting.Levels.{weights, secondaries, case_reads, case_rank, tertiaries, quaternaries}
use Rattle.icu_key_texts.specs.LevelRests.{counted_commons, secondaries_left, secondaries_after, cases_left, cases_after, tertiaries_left, tertiaries_after, quaternaries_left, quaternaries_after, levels_left, levels_after, HasLaterForm}
use Rattle.icu_key_texts.specs.declared.later_levels.LaterLevels.{LaterLevels}

-- ---- how many are counted

pub counted_none : (n : ℕ) (before : Option SecondaryForm) → (before ≡ Some Forward → ⊥) → counted_commons n before ≡ 0
counted_none zero before h = refl
counted_none (suc n) (Some Forward) h = absurd (h refl)
counted_none (suc n) (Some Backward) h = refl
counted_none (suc n) None h = refl

pub counted_some : (n : ℕ) (before : Option SecondaryForm) → before ≡ Some Forward → counted_commons n before ≡ n
counted_some zero before e = refl
counted_some (suc n) (Some Forward) e = refl
counted_some (suc n) (Some Backward) e = cc
counted_some (suc n) None e = cc

four_parts : (a b c d e f g h : LevelPart) (rest : List LevelPart) → a ≡ e → b ≡ f → c ≡ g → d ≡ h
    → (a ∷ b ∷ c ∷ d ∷ rest) ≡ (e ∷ f ∷ g ∷ h ∷ rest)
four_parts a b c d e f g h rest p q r s = rw (p, q, r, s) refl

-- ---- none

plain_secondaries : (before : Option SecondaryForm) (l : HeldSecondaries) (backward : Option HeldSegments) (es : List Element)
    → secondaries_after 0 before l backward es ≡ secondaries_left before l backward es
plain_secondaries None l backward es = refl
plain_secondaries (Some Forward) l backward es = refl
plain_secondaries (Some Backward) l backward es = refl

plain_cases : (before : Option SecondaryForm) (form : Option CaseForm) (l : Option HeldCases) (es : List Element)
    → cases_after 0 before form l es ≡ cases_left before form l es
plain_cases before None l es = refl
plain_cases before (Some form) None es = refl
plain_cases before (Some form) (Some l) es = refl

plain_tertiaries : (form : Option TertiaryForm) (l : HeldTertiaries) (es : List Element) → tertiaries_after 0 form l es ≡ tertiaries_left form l es
plain_tertiaries None l es = refl
plain_tertiaries (Some form) l es = refl

plain_quaternaries : (reorder : ℕ → ℕ) (form : Option QuaternaryForm) (l : Option HeldQuaternaries) (hs : List HandledElement)
    → quaternaries_after reorder 0 form l hs ≡ quaternaries_left reorder form l hs
plain_quaternaries reorder None l hs = refl
plain_quaternaries reorder (Some form) None hs = refl
plain_quaternaries reorder (Some form) (Some l) hs = refl

pub levels_plain : (reorder : ℕ → ℕ) (form : KeyForm) (l : LaterLevels) (cs : List ℕ) (hs : List HandledElement)
    → levels_after reorder form l 0 cs hs ≡ levels_left reorder form l cs hs
levels_plain reorder form l cs hs =
    four_parts _ _ _ _ _ _ _ _ _ (plain_secondaries form.secondary l.secondaries l.segments (stayed_elements hs))
    (plain_cases form.secondary form.cases l.cases (stayed_elements hs))
    (plain_tertiaries form.tertiary l.tertiaries (stayed_elements hs))
    (plain_quaternaries reorder form.quaternary l.quaternaries hs)

-- where none is counted
pub uncounted : (reorder : ℕ → ℕ) (form : KeyForm) (l : LaterLevels) (n : ℕ) (cs : List ℕ) (hs : List HandledElement) → n ≡ 0
    → levels_after reorder form l n cs hs ≡ levels_left reorder form l cs hs
uncounted reorder form l n cs hs e = ap (λ (m : ℕ). levels_after reorder form l m cs hs) e ∙ levels_plain reorder form l cs hs

-- ---- levels that are fed them

pub secondaries_fed : (l m : HeldSecondaries) (n : ℕ) (r : Result Unit AllocError)
    → OnOk r ((ws : List ℕ) → held_secondaries l (replicate n 0x500 ++ ws) ≡ held_secondaries m ws)
    → OnOk r ((before : Option SecondaryForm) (backward : Option HeldSegments) (es : List Element)
    → secondaries_after n before l backward es ≡ secondaries_left before m backward es)
secondaries_fed l m n (Ok v) h = by
  where
    by : (before : Option SecondaryForm) (backward : Option HeldSegments) (es : List Element)
        → secondaries_after n before l backward es ≡ secondaries_left before m backward es
    by None backward es = refl
    by (Some Forward) backward es = ap closed (h (secondaries es))
    by (Some Backward) backward es = refl
secondaries_fed l m n (Err x) h = tt

-- ---- one more

pub shifted : (k n : ℕ) (ws : List ℕ) → replicate n k ++ (k ∷ ws) ≡ k ∷ (replicate n k ++ ws)
shifted k zero ws = refl
shifted k (suc n) ws = ap (λ l. k ∷ l) (shifted k n ws)

abbrev pub made : ℕ → ℕ → ℕ → Element
made p s l = record { primary = p; secondary = s; lower = l }

abbrev pub with_common : ℕ → Element
with_common p = made p 0x500 0x500

pub common_tertiary : (form : TertiaryForm) (p : ℕ) (es : List Element)
    → tertiaries form (with_common p ∷ es) ≡ (tertiary_runs form).common ∷ tertiaries form es
unfolding weights
common_tertiary WithoutCase p es = refl
common_tertiary LowerFirst p es = refl
common_tertiary UpperFirst p es = refl

common_case : (form : CaseForm) (p : ℕ) (es : List Element)
    → weights (case_reads (Some Forward)) (case_rank form) (with_common p ∷ es)
    ≡ (case_runs form).common ∷ weights (case_reads (Some Forward)) (case_rank form) es
unfolding weights
common_case cases.LowerFirst p es = refl
common_case cases.UpperFirst p es = refl

common_quaternary : (reorder : ℕ → ℕ) (p : ℕ) (hs : List HandledElement)
    → quaternaries reorder (stayed (with_common p) ∷ hs) ≡ 2 ^ 32 ∷ quaternaries reorder hs
unfolding quaternaries
common_quaternary reorder p hs = refl

more_secondaries : (n p : ℕ) (before : Option SecondaryForm) (l : HeldSecondaries) (backward : Option HeldSegments) (es : List Element) → before ≡ Some Forward
    → secondaries_after n before l backward (with_common p ∷ es) ≡ secondaries_after (suc n) before l backward es
unfolding weights
more_secondaries n p (Some Forward) l backward es e = ap (λ ws. closed (held_secondaries l ws)) (shifted 0x500 n (secondaries es))
more_secondaries n p (Some Backward) l backward es e = cc
more_secondaries n p None l backward es e = cc

more_cases : (n p : ℕ) (before : Option SecondaryForm) (form : Option CaseForm) (l : Option HeldCases) (es : List Element) → before ≡ Some Forward
    → cases_after n before form l (with_common p ∷ es) ≡ cases_after (suc n) before form l es
more_cases n p before None l es e = refl
more_cases n p before (Some form) None es e = refl
more_cases n p (Some Forward) (Some form) (Some l) es e =
    ap (λ ws. opened (held_cases l ws))
    (ap (λ ws. replicate n (case_runs (held_case_form l)).common ++ ws) (common_case (held_case_form l) p es)
    ∙ shifted (case_runs (held_case_form l)).common n (weights (case_reads (Some Forward)) (case_rank (held_case_form l)) es))
more_cases n p (Some Backward) (Some form) (Some l) es e = cc
more_cases n p None (Some form) (Some l) es e = cc

more_tertiaries : (n p : ℕ) (form : Option TertiaryForm) (l : HeldTertiaries) (es : List Element) → IfSome form (λ t. held_tertiary_form l ≡ t)
    → tertiaries_after n form l (with_common p ∷ es) ≡ tertiaries_after (suc n) form l es
more_tertiaries n p None l es h = refl
more_tertiaries n p (Some form) l es h =
    ap (λ ws. closed (held_tertiaries l ws))
    (ap (λ ws. replicate n (tertiary_runs (held_tertiary_form l)).common ++ ws)
    (common_tertiary form p es ∙ ap (λ (t : TertiaryForm). (tertiary_runs t).common ∷ tertiaries form es) (sym h))
    ∙ shifted (tertiary_runs (held_tertiary_form l)).common n (tertiaries form es))

more_quaternaries : (reorder : ℕ → ℕ) (n p : ℕ) (form : Option QuaternaryForm) (l : Option HeldQuaternaries) (hs : List HandledElement)
    → quaternaries_after reorder n form l (stayed (with_common p) ∷ hs) ≡ quaternaries_after reorder (suc n) form l hs
more_quaternaries reorder n p None l hs = refl
more_quaternaries reorder n p (Some form) None hs = refl
more_quaternaries reorder n p (Some form) (Some l) hs =
    ap (λ ws. closed (held_quaternaries l ws))
    (ap (λ ws. replicate n (2 ^ 32) ++ ws) (common_quaternary reorder p hs) ∙ shifted (2 ^ 32) n (quaternaries reorder hs))

pub same_weights : (p s l : ℕ) → s ≡ 0x500 → l ≡ 0x500 → made p s l ≡ with_common p
same_weights p s l e f = rw (e, f) refl

-- an element with common weights counts as one more
pub counted_more : (reorder : ℕ → ℕ) (form : KeyForm) (l : LaterLevels) (cs : List ℕ) (n : ℕ) (x : Element) (hs : List HandledElement)
    → form.secondary ≡ Some Forward → HasLaterForm form l → x.secondary ≡ 0x500 → x.lower ≡ 0x500
    → levels_after reorder form l (counted_commons n form.secondary) cs (stayed x ∷ hs) ≡ levels_after reorder form l (counted_commons (suc n) form.secondary) cs hs
counted_more reorder form l cs n x hs e f s t =
    ap (λ (m : ℕ). levels_after reorder form l m cs (stayed x ∷ hs)) (counted_some n form.secondary e)
    ∙ (ap (λ (y : Element). levels_after reorder form l n cs (stayed y ∷ hs)) (same_weights x.primary x.secondary x.lower s t)
    ∙ (four_parts _ _ _ _ _ _ _ _ _ (more_secondaries n x.primary form.secondary l.secondaries l.segments (stayed_elements hs) e)
    (more_cases n x.primary form.secondary form.cases l.cases (stayed_elements hs) e)
    (more_tertiaries n x.primary form.tertiary l.tertiaries (stayed_elements hs) f)
    (more_quaternaries reorder n x.primary form.quaternary l.quaternaries hs)
    ∙ sym (ap (λ (m : ℕ). levels_after reorder form l m cs hs) (counted_some (suc n) form.secondary e))))

-- what holds of a call that succeeded, said otherwise
pub said_otherwise : {P Q : Type 0} (r : Result Unit AllocError) → (P → Q) → OnOk r P → OnOk r Q
said_otherwise (Ok v) f p = f p
said_otherwise (Err e) f p = tt
