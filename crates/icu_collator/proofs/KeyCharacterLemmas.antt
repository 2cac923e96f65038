-- Characters whose decompositions stay where they stand.
use Rattle.std.proofs.Common.{◌≡◌, ℕ, ◌≤◌, Bool, true, false, ◌&&◌, ◌||◌, nat_lt, List, [], ◌∷◌, ◌++◌, flat_map, refl, sym, ap, ◌∙◌, inl, inr, append-nil, append_assoc, arith}
use Rattle.std.specs.List.{list_all}
use Rattle.std.proofs.lemmas.Bool.{cases_Bool, and_parts, and_from, ltb-true}
use Rattle.std.proofs.Math.Bool.{and-false}
use Rattle.icu_element_cursor.proofs.StandLemmas.{or_true}
use Rattle.ucd_normal.specs.declared.forms.Form.TheVariants.{Nfd}
use Rattle.ucd_normal.specs.CanonicalCombiningClass.{canonical_combining_class as class_of}
use Rattle.unicode_normalization.specs.Decompose.{decompose}
use Rattle.unicode_normalization.specs.Forms.{nfd}
use Rattle.unicode_normalization.specs.Order.{is_starter, is_reorderable}
use Rattle.icu_element_reading.specs.boundaries.Alone.{stays_first, all_stay}
use Rattle.icu_element_reading.proofs.boundaries.NfdLemmas.{nfd-nil, nfd-starters, stays_first-starter}
use Rattle.icu_collator.specs.inner.KeyCharacters.{EndsMarks}

both_true : (b c : Bool) → ((b || (c || true)) && ((c || true) && true)) ≡ true
both_true true true = refl
both_true true false = refl
both_true false true = refl
both_true false false = refl

-- ---- texts that end marks

pub nothing_ends : EndsMarks []
unfolding stays_first
nothing_ends = λ m. refl

pub starter_ends : (c first : ℕ) (more text : List ℕ) → decompose Nfd c ≡ first ∷ more → is_starter first ≡ true → EndsMarks (c ∷ text)
starter_ends c first more text split starter = λ m. stays_first-starter m c first more text split starter

-- ---- what stays before a text

pub starter_stays : (d : ℕ) (rest : List ℕ) → is_starter d ≡ true → all_stay (d ∷ []) rest ≡ true
unfolding all_stay
starter_stays d rest starter = rw starter refl

pub one_stays : (d : ℕ) (rest : List ℕ) → stays_first d rest ≡ true → all_stay (d ∷ []) rest ≡ true
unfolding all_stay
one_stays d rest stays = rw stays (or_true (is_starter d))

pub two_stay : (d e : ℕ) (rest : List ℕ) → is_starter d ≡ true → stays_first e rest ≡ true → all_stay (d ∷ e ∷ []) rest ≡ true
unfolding all_stay
two_stay d e rest starter stays = rw (starter, stays) (or_true (is_starter e))

-- a mark whose class isn't below that of one before it doesn't go before it
pub keeps_order : (d e : ℕ) → class_of d ≤ class_of e → is_reorderable d e ≡ false
unfolding is_reorderable
keeps_order d e h = elim (cases_Bool (nat_lt (class_of e) (class_of d))) [
  | inl less ↦ absurd (omega (arith, ltb-true _ _ less, h))
  | inr more ↦ rw more (and-false (nat_lt 0 (class_of e)))
]

pub three_stay : (d e f : ℕ) (rest : List ℕ) → is_starter d ≡ true → is_reorderable e f ≡ false
    → stays_first e rest ≡ true → stays_first f rest ≡ true → all_stay (d ∷ e ∷ f ∷ []) rest ≡ true
unfolding all_stay stays_first
three_stay d e f rest starter order first second = rw (starter, order, first, second) (both_true (is_starter e) (is_starter f))

pub starters_stay : (ds rest : List ℕ) → list_all is_starter ds ≡ true → all_stay ds rest ≡ true
unfolding all_stay
starters_stay [] rest h = refl
starters_stay (d ∷ ds) rest h =
    let parts = and_parts (is_starter d) _ h in
    rw (parts.0) (starters_stay ds rest parts.1)

-- ---- lists of what was decomposed

-- a starter that decomposes to itself stands for itself
pub plain_first : (c : ℕ) (text : List ℕ) → decompose Nfd c ≡ c ∷ [] → is_starter c ≡ true → nfd (c ∷ text) ≡ (c ∷ []) ++ nfd text
plain_first c text itself starter = nfd-starters c (c ∷ []) text itself (and_from _ _ starter refl)

-- a list with more of a text has less of it left
pub one_more : (list ds rest text whole : List ℕ) → nfd text ≡ ds ++ nfd rest → list ++ nfd text ≡ whole → (list ++ ds) ++ nfd rest ≡ whole
one_more list ds rest text whole split before =
    append_assoc list ds (nfd rest) ∙ ap (λ (l : List ℕ). list ++ l) (sym split) ∙ before

-- where no text is left, the list has the whole
pub none_left : (list text whole : List ℕ) → text ≡ [] → list ++ nfd text ≡ whole → list ≡ whole
none_left list text whole e h =
    sym (append-nil list) ∙ (ap (λ (l : List ℕ). list ++ l) (sym nfd-nil) ∙ (ap (λ (l : List ℕ). list ++ nfd l) (sym e) ∙ h))
