-- Keys of three levels, of which the later two are held.
use Rattle.std.proofs.Common.{◌≡◌, ℕ, suc, ◌+◌, Bool, List, [], ◌∷◌, ◌++◌, ap, ◌∙◌, replicate, arith, sym, Result, Ok, Err, OnOk}
use Rattle.std.specs.declared.alloc.AllocError.{AllocError}
use Rattle.icu_order_levels.specs.Keys.{LevelPart, closed, parts_bytes}
use Rattle.icu_order_levels.specs.Primaries.{Compression}
use Rattle.icu_order_levels.specs.Secondaries.{secondary_level}
use Rattle.icu_order_levels.specs.Tertiaries.{tertiary_level, tertiary_runs}
use Rattle.icu_order_levels.specs.declared.forms.TertiaryForm.{TertiaryForm}
use Rattle.icu_table_entries.specs.Elements.{Element}
use Rattle.icu_key_writers.specs.HeldRests.{held_secondaries, held_tertiaries, held_tertiary_form}
use Rattle.icu_key_writers.specs.HeldWeights.{weight_before}
use Rattle.icu_key_writers.specs.WriterRests.{primary_rest}
use Rattle.icu_order_texts.specs.weighting.Handled.{HandledElement, stayed_elements}
use Rattle.icu_order_texts.specs.weighting.Levels.{primaries, secondaries, tertiaries}
use Rattle.icu_key_texts.specs.LevelRests.{characters_left}
use Rattle.icu_key_texts.specs.CommonRests.{common_rest, parts_after_commons}
use Rattle.icu_key_texts.specs.ThreeRests.{parts_after_held, three_rest}
use Rattle.icu_key_texts.specs.declared.common_elements.CommonElements.{CommonElements}
use Rattle.icu_key_texts.specs.declared.level_pair.TwoLevels.{TwoLevels}
use Rattle.icu_key_texts.proofs.CommonElementLemmas.{same_weights}
use Rattle.icu_key_texts.proofs.CommonRestLemmas.{two_parts, one_secondary, one_tertiary}

-- ---- nothing is held yet

pub levels_begin : (t : TertiaryForm) (identical : Bool) (n : ℕ) (l : TwoLevels) (cs : List ℕ) (es : List Element)
    → ((ws : List ℕ) → held_secondaries l.secondaries ws ≡ secondary_level ws) → ((ws : List ℕ) → held_tertiaries l.tertiaries ws ≡ tertiary_level t ws)
    → parts_after_held t identical n l cs es ≡ parts_after_commons t identical n cs es
levels_begin t identical n l cs es s h =
    two_parts _ _ _ _ (characters_left identical cs ∷ []) (ap closed (s (replicate n 0x500 ++ secondaries es)))
    (ap closed (h (replicate n (tertiary_runs t).common ++ tertiaries t es)))

pub rest_begins : (c : Compression) (t : TertiaryForm) (identical : Bool) (w : CommonElements) (l : TwoLevels) (cs : List ℕ) (hs : List HandledElement)
    → ((es : List Element) → parts_after_held t identical w.count l cs es ≡ parts_after_commons t identical w.count cs es)
    → three_rest c t identical w l cs hs ≡ common_rest c t identical w cs hs
rest_begins c t identical w l cs hs h =
    ap (λ (ps : List LevelPart). primary_rest c w.primaries (primaries (stayed_elements hs)) ++ parts_bytes ps) (h (stayed_elements hs))

-- ---- common elements

-- none of them
pub none_fed : (t : TertiaryForm) (identical : Bool) (n : ℕ) (l : TwoLevels) (cs : List ℕ) (es : List Element) → n ≡ 0
    → parts_after_held t identical n l cs es ≡ parts_after_held t identical 0 l cs es
none_fed t identical n l cs es e = ap (λ (m : ℕ). parts_after_held t identical m l cs es) e

-- both levels are fed them
pub levels_fed : (t : TertiaryForm) (l m : TwoLevels) (n : ℕ) (r : Result Unit AllocError) → held_tertiary_form l.tertiaries ≡ t
    → ((ws : List ℕ) → held_secondaries l.secondaries (replicate n 0x500 ++ ws) ≡ held_secondaries m.secondaries ws)
    → OnOk r ((ws : List ℕ) → held_tertiaries l.tertiaries (replicate n (tertiary_runs (held_tertiary_form l.tertiaries)).common ++ ws) ≡ held_tertiaries m.tertiaries ws)
    → OnOk r ((identical : Bool) (cs : List ℕ) (es : List Element) → parts_after_held t identical n l cs es ≡ parts_after_held t identical 0 m cs es)
levels_fed t l m n (Ok v) f s h = λ identical cs es.
    two_parts _ _ _ _ (characters_left identical cs ∷ []) (ap closed (s (secondaries es)))
    (ap closed (ap (λ (k : TertiaryForm). held_tertiaries l.tertiaries (replicate n (tertiary_runs k).common ++ tertiaries t es)) (sym f)
    ∙ h (tertiaries t es)))
levels_fed t l m n (Err e) f s h = tt

-- an element with common weights counts as one more
pub one_held : (t : TertiaryForm) (identical : Bool) (n : ℕ) (l : TwoLevels) (cs : List ℕ) (x : Element) (es : List Element) → x.secondary ≡ 0x500 → x.lower ≡ 0x500
    → parts_after_held t identical n l cs (x ∷ es) ≡ parts_after_held t identical (n + 1) l cs es
one_held t identical n l cs x es p q =
    let more : suc n ≡ n + 1 = omega arith in
    ap (λ (y : Element). parts_after_held t identical n l cs (y ∷ es)) (same_weights x.primary x.secondary x.lower p q)
    ∙ (two_parts _ _ _ _ (characters_left identical cs ∷ []) (ap (λ ws. closed (held_secondaries l.secondaries ws)) (one_secondary n x.primary es))
    (ap (λ ws. closed (held_tertiaries l.tertiaries ws)) (one_tertiary t n x.primary es))
    ∙ ap (λ (m : ℕ). parts_after_held t identical m l cs es) more)

-- ---- another element

pub levels_pushed : (t : TertiaryForm) (l m : TwoLevels) (x : Element) (a b : ℕ) (r : Result Unit AllocError)
    → ((es : List Element) → secondaries (x ∷ es) ≡ weight_before a (secondaries es)) → ((es : List Element) → tertiaries t (x ∷ es) ≡ weight_before b (tertiaries t es))
    → ((ws : List ℕ) → held_secondaries l.secondaries (weight_before a ws) ≡ held_secondaries m.secondaries ws)
    → OnOk r ((ws : List ℕ) → held_tertiaries l.tertiaries (weight_before b ws) ≡ held_tertiaries m.tertiaries ws)
    → OnOk r ((identical : Bool) (cs : List ℕ) (es : List Element) → parts_after_held t identical 0 l cs (x ∷ es) ≡ parts_after_held t identical 0 m cs es)
levels_pushed t l m x a b (Ok v) p q s h = λ identical cs es.
    two_parts _ _ _ _ (characters_left identical cs ∷ []) (ap closed (ap (held_secondaries l.secondaries) (p es) ∙ s (secondaries es)))
    (ap closed (ap (held_tertiaries l.tertiaries) (q es) ∙ h (tertiaries t es)))
levels_pushed t l m x a b (Err e) p q s h = tt

-- after the common ones that were counted
pub fed_and_pushed : (t : TertiaryForm) (l m k : TwoLevels) (n : ℕ) (x : Element) (r : Result Unit AllocError)
    → ((identical : Bool) (cs : List ℕ) (es : List Element) → parts_after_held t identical n l cs es ≡ parts_after_held t identical 0 m cs es)
    → OnOk r ((identical : Bool) (cs : List ℕ) (es : List Element) → parts_after_held t identical 0 m cs (x ∷ es) ≡ parts_after_held t identical 0 k cs es)
    → OnOk r ((identical : Bool) (cs : List ℕ) (es : List Element) → parts_after_held t identical n l cs (x ∷ es) ≡ parts_after_held t identical 0 k cs es)
fed_and_pushed t l m k n x (Ok v) f h = λ identical cs es. f identical cs (x ∷ es) ∙ h identical cs es
fed_and_pushed t l m k n x (Err e) f h = tt
