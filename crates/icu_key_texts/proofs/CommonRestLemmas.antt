-- Keys of three levels whose elements had common weights so far.
use Rattle.std.proofs.Common.{◌≡◌, ℕ, suc, ◌+◌, Bool, true, false, List, [], ◌∷◌, ◌++◌, refl, ap, ◌∙◌, append-nil, replicate, arith, sym, subst, Result}
use Rattle.icu_order_levels.specs.Keys.{LevelPart, absent, closed, later_parts, parts_bytes}
use Rattle.icu_order_levels.specs.Secondaries.{secondary_level}
use Rattle.icu_order_levels.specs.Tertiaries.{tertiary_level, tertiary_runs}
use Rattle.icu_order_levels.specs.declared.forms.TertiaryForm.{TertiaryForm}
use Rattle.icu_table_entries.specs.Elements.{Element}
use Rattle.icu_key_writers.specs.Sinks.{SinkEffects}
use Rattle.icu_key_writers.specs.KeyWrites.{KeyWrites}
use Rattle.icu_key_writers.specs.declared.error.SortKeyError.{SortKeyError}
use Rattle.icu_order_texts.specs.weighting.Handled.{HandledElement, stayed_elements}
use Rattle.icu_order_texts.specs.weighting.Levels.{level_lists, secondaries, tertiaries, weights}
use Rattle.icu_key_texts.specs.LevelRests.{characters_left}
use Rattle.icu_key_texts.specs.CommonRests.{parts_after_commons}
use Rattle.icu_key_texts.specs.UsualForms.{form_of_three}
use Rattle.icu_key_texts.proofs.CommonElementLemmas.{common_tertiary, shifted, same_weights, with_common}

-- ---- none

pub none_counted : (t : TertiaryForm) (identical : Bool) (reorder : ℕ → ℕ) (cs : List ℕ) (hs : List HandledElement)
    → parts_after_commons t identical 0 cs (stayed_elements hs) ≡ later_parts (form_of_three t identical) (level_lists reorder (form_of_three t identical) hs cs)
none_counted t true reorder cs hs = refl
none_counted t false reorder cs hs = refl

-- ---- one more

pub two_parts : (a b c d : LevelPart) (rest : List LevelPart) → a ≡ b → c ≡ d → (a ∷ absent ∷ c ∷ absent ∷ rest) ≡ (b ∷ absent ∷ d ∷ absent ∷ rest)
two_parts a b c d rest p q = rw (p, q) refl

pub one_secondary : (n p : ℕ) (es : List Element) → replicate n 0x500 ++ secondaries (with_common p ∷ es) ≡ replicate (suc n) 0x500 ++ secondaries es
unfolding weights
one_secondary n p es = shifted 0x500 n (secondaries es)

pub one_tertiary : (t : TertiaryForm) (n p : ℕ) (es : List Element)
    → replicate n (tertiary_runs t).common ++ tertiaries t (with_common p ∷ es) ≡ replicate (suc n) (tertiary_runs t).common ++ tertiaries t es
one_tertiary t n p es =
    ap (λ ws. replicate n (tertiary_runs t).common ++ ws) (common_tertiary t p es) ∙ shifted (tertiary_runs t).common n (tertiaries t es)

one_common : (t : TertiaryForm) (identical : Bool) (n p : ℕ) (cs : List ℕ) (es : List Element)
    → parts_after_commons t identical n cs (with_common p ∷ es) ≡ parts_after_commons t identical (suc n) cs es
one_common t identical n p cs es =
    two_parts _ _ _ _ (characters_left identical cs ∷ []) (ap (λ ws. closed (secondary_level ws)) (one_secondary n p es))
    (ap (λ ws. closed (tertiary_level t ws)) (one_tertiary t n p es))

-- an element with common weights counts as one more
pub one_counted : (t : TertiaryForm) (identical : Bool) (n : ℕ) (cs : List ℕ) (x : Element) (es : List Element) → x.secondary ≡ 0x500 → x.lower ≡ 0x500
    → parts_after_commons t identical n cs (x ∷ es) ≡ parts_after_commons t identical (n + 1) cs es
one_counted t identical n cs x es p q =
    let more : suc n ≡ n + 1 = omega arith in
    ap (λ (y : Element). parts_after_commons t identical n cs (y ∷ es)) (same_weights x.primary x.secondary x.lower p q)
    ∙ (one_common t identical n x.primary cs es ∙ ap (λ (m : ℕ). parts_after_commons t identical m cs es) more)

-- ---- the end

pub parts_at_end : (t : TertiaryForm) (identical : Bool) (n : ℕ) (cs : List ℕ)
    → parts_after_commons t identical n cs [] ≡ (closed (secondary_level (replicate n 0x500)) ∷ absent ∷ closed (tertiary_level t (replicate n (tertiary_runs t).common)) ∷ absent ∷ characters_left identical cs ∷ [])
unfolding weights
parts_at_end t identical n cs =
    two_parts _ _ _ _ (characters_left identical cs ∷ []) (ap (λ ws. closed (secondary_level ws)) (append-nil (replicate n 0x500)))
    (ap (λ ws. closed (tertiary_level t ws)) (append-nil (replicate n (tertiary_runs t).common)))

-- a call that writes the levels of counted elements, where no element is left
pub ends : {X St F E O : Type 0} (effects : SinkEffects X St F E) (x y : X) (s u : St) (t : TertiaryForm) (identical : Bool) (n : ℕ) (cs : List ℕ)
    (r : Result O (SortKeyError E))
    → KeyWrites effects x s (parts_bytes (closed (secondary_level (replicate n 0x500)) ∷ absent ∷ closed (tertiary_level t (replicate n (tertiary_runs t).common)) ∷ absent ∷ characters_left identical cs ∷ [])) r y u
    → KeyWrites effects x s (parts_bytes (parts_after_commons t identical n cs [])) r y u
ends effects x y s u t identical n cs r w =
    subst (λ (ps : List LevelPart). KeyWrites effects x s (parts_bytes ps) r y u) (sym (parts_at_end t identical n cs)) w
