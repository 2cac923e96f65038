-- What the weights of a part tell, level by level.
use Rattle.std.proofs.Common.{◌≡◌, ℕ, ◌-◌, ◌<◌, ◌≤◌, Bool, true, false, List, [], ◌∷◌, ◌++◌, Option, Some, None, length, map, take, drop, refl, sym, ap, ◌∙◌, subst, arith, inl, inr, append-nil, length-append}
use Rattle.std.specs.declared.cmp.Ordering.{Ordering}
use Rattle.std.specs.declared.cmp.Ordering.TheVariants.{Less, Equal, Greater}
use Rattle.std.specs.Ordering.{ordering_then}
use Rattle.std.proofs.lemmas.Bool.{cases_Bool, false≢true}
use Rattle.std.proofs.lemmas.List.{length-drop, map-append, take_all}
use Rattle.std.proofs.Math.Seq.{drop-append_seam}
use Rattle.unicode_normalization.specs.Forms.{nfd}
use Rattle.icu_table_entries.specs.Elements.{Element}
use Rattle.icu_collator.specs.LevelWeighings.{weighing_by}
use Rattle.icu_element_reading.specs.TextElements.{elements_of}
use Rattle.icu_order_levels.specs.Keys.{LevelLists, characters_order, in_turn, levels_order, primaries_order, secondaries_order, cases_order, tertiaries_order, quaternaries_order}
use Rattle.icu_order_levels.specs.Primaries.{Compression}
use Rattle.icu_order_levels.specs.CommonBeginnings.{HasFront}
use Rattle.icu_order_levels.specs.declared.forms.CaseForm.{CaseForm}
use Rattle.icu_order_levels.specs.declared.forms.KeyForm.{KeyForm}
use Rattle.icu_order_levels.specs.declared.forms.QuaternaryForm.{QuaternaryForm}
use Rattle.icu_order_levels.specs.declared.forms.SecondaryForm.{SecondaryForm}
use Rattle.icu_order_levels.specs.declared.forms.SecondaryForm.TheVariants.{Forward, Backward}
use Rattle.icu_order_levels.specs.declared.forms.TertiaryForm.{TertiaryForm}
use Rattle.icu_order_levels.proofs.Order.{tied_lists}
use Rattle.icu_order_texts.specs.level_weights.Weighings.{element_weights}
use Rattle.icu_order_texts.specs.declared.level_weights.order_level.OrderLevel.{OrderLevel}
use Rattle.icu_order_texts.specs.declared.level_weights.order_level.OrderLevel.TheVariants as levels
use Rattle.icu_order_texts.specs.weighting.Collations.{Collation}
use Rattle.icu_order_texts.specs.weighting.Forms.{compression_of, form_by}
use Rattle.icu_order_texts.specs.TextOrder.{reading_by, lists_by, text_order}
use Rattle.icu_search_places.proofs.FoundLemmas.{eq_is}
use Rattle.icu_search_places.specs.LevelWalks.{StartsUnlike, Fits, HasGoneAlong, walked_level, weighing_at, weights_at}
use Rattle.icu_search_places.specs.Searches.{Search}
use Rattle.icu_search_places.specs.declared.level_walks.LevelFit.{LevelFit}
use Rattle.icu_search_places.specs.declared.level_walks.LevelFit.TheVariants.{Unlike, Fewer, Same}
use Rattle.icu_search_places.specs.declared.level_walks.LevelWalk.{LevelWalk}
use Rattle.icu_search_places.specs.declared.level_walks.PatternLevel.{PatternLevel}
use Rattle.icu_search.proofs.LongerPartLemmas.{first_tied}
use Rattle.icu_search.specs.inner.EqualParts.{equals_pattern}
use Rattle.icu_search.specs.declared.pattern_levels.PartLevels.{PartLevels}
use Rattle.icu_search.specs.declared.pattern_levels.PatternLevels.{PatternLevels}
use Rattle.icu_search.specs.inner.PartLevels.{AreLevelsOf, HasGone, HasGoneAt, IsLevelOf, PartFits, RulesOut, is_read_forward, is_there, level_at, level_is_compared, walk_at}

-- ---- the list of a level

abbrev list_at : Compression → OrderLevel → LevelLists → List ℕ
list_at f levels.Primary t = map f.reorder t.primaries
list_at f levels.Secondary t = t.secondaries
list_at f levels.Case t = t.cases
list_at f levels.Tertiary t = t.tertiaries
list_at f levels.Quaternary t = t.quaternaries
list_at f levels.Identical t = []

-- it is what the level has for the elements of the text
weights_listed : (c : Collation) (l : OrderLevel) (text : List ℕ)
    → element_weights (weighing_by c l) (elements_of (reading_by c) (nfd text)) ≡ list_at (compression_of c.tables) l (lists_by c (nfd text))
unfolding lists_by
weights_listed c levels.Primary text = refl
weights_listed c levels.Secondary text = refl
weights_listed c levels.Case text = refl
weights_listed c levels.Tertiary text = refl
weights_listed c levels.Quaternary text = refl
weights_listed c levels.Identical text = refl

-- the list of a longer text begins with that of its front
list_grown : (f : Compression) (l : OrderLevel) (front whole rest : LevelLists) → HasFront front whole rest → list_at f l whole ≡ list_at f l front ++ list_at f l rest
list_grown f levels.Primary front whole rest has = ap (map f.reorder) has.primaries ∙ map-append f.reorder front.primaries rest.primaries
list_grown f levels.Secondary front whole rest has = has.secondaries
list_grown f levels.Case front whole rest has = has.cases
list_grown f levels.Tertiary front whole rest has = has.tertiaries
list_grown f levels.Quaternary front whole rest has = has.quaternaries
list_grown f levels.Identical front whole rest has = refl

-- ---- equal texts have the same list at each level that counts

-- orders in turn are equal only if the later ones are
later_tied : (o next : Ordering) → ordering_then o next ≡ Equal → next ≡ Equal
later_tied Less next h = cc
later_tied Equal next h = h
later_tied Greater next h = cc

secondaries_tied : (f : Option SecondaryForm) (t u : LevelLists) → is_read_forward f ≡ true → secondaries_order f t u ≡ Equal → t.secondaries ≡ u.secondaries
secondaries_tied (Some Forward) t u is h = tied_lists t.secondaries u.secondaries h
secondaries_tied (Some Backward) t u is h = absurd (false≢true is)
secondaries_tied None t u is h = absurd (false≢true is)

cases_tied : (f : Option CaseForm) (t u : LevelLists) → is_there f ≡ true → cases_order f t u ≡ Equal → t.cases ≡ u.cases
cases_tied (Some form) t u is h = tied_lists t.cases u.cases h
cases_tied None t u is h = absurd (false≢true is)

tertiaries_tied : (f : Option TertiaryForm) (t u : LevelLists) → is_there f ≡ true → tertiaries_order f t u ≡ Equal → t.tertiaries ≡ u.tertiaries
tertiaries_tied (Some form) t u is h = tied_lists t.tertiaries u.tertiaries h
tertiaries_tied None t u is h = absurd (false≢true is)

quaternaries_tied : (f : Option QuaternaryForm) (t u : LevelLists) → is_there f ≡ true → quaternaries_order f t u ≡ Equal → t.quaternaries ≡ u.quaternaries
quaternaries_tied (Some form) t u is h = tied_lists t.quaternaries u.quaternaries h
quaternaries_tied None t u is h = absurd (false≢true is)

module _ (f : Compression) (form : KeyForm) (t u : LevelLists) (tied : levels_order f form t u ≡ Equal) where
  abbrev from_identical : Ordering
  from_identical = in_turn (characters_order form.identical t u ∷ [])

  abbrev from_quaternaries : Ordering
  from_quaternaries = ordering_then (quaternaries_order form.quaternary t u) from_identical

  abbrev from_tertiaries : Ordering
  from_tertiaries = ordering_then (tertiaries_order form.tertiary t u) from_quaternaries

  abbrev from_cases : Ordering
  from_cases = ordering_then (cases_order form.cases t u) from_tertiaries

  abbrev from_secondaries : Ordering
  from_secondaries = ordering_then (secondaries_order form.secondary t u) from_cases

  after_primaries : from_secondaries ≡ Equal
  after_primaries = later_tied (primaries_order f t u) from_secondaries tied

  after_secondaries : from_cases ≡ Equal
  after_secondaries = later_tied (secondaries_order form.secondary t u) from_cases after_primaries

  after_cases : from_tertiaries ≡ Equal
  after_cases = later_tied (cases_order form.cases t u) from_tertiaries after_secondaries

  after_tertiaries : from_quaternaries ≡ Equal
  after_tertiaries = later_tied (tertiaries_order form.tertiary t u) from_quaternaries after_cases

  tied_at : (l : OrderLevel) → level_is_compared form l ≡ true → list_at f l t ≡ list_at f l u
  tied_at levels.Primary is = tied_lists (map f.reorder t.primaries) (map f.reorder u.primaries) (first_tied (primaries_order f t u) from_secondaries tied)
  tied_at levels.Secondary is = secondaries_tied form.secondary t u is (first_tied (secondaries_order form.secondary t u) from_cases after_primaries)
  tied_at levels.Case is = cases_tied form.cases t u is (first_tied (cases_order form.cases t u) from_tertiaries after_secondaries)
  tied_at levels.Tertiary is = tertiaries_tied form.tertiary t u is (first_tied (tertiaries_order form.tertiary t u) from_quaternaries after_cases)
  tied_at levels.Quaternary is = quaternaries_tied form.quaternary t u is (first_tied (quaternaries_order form.quaternary t u) from_identical after_tertiaries)
  tied_at levels.Identical is = refl

equal_at : (c : Collation) (l : OrderLevel) (t u : List ℕ) → level_is_compared (form_by c) l ≡ true → text_order c t u ≡ Equal
    → list_at (compression_of c.tables) l (lists_by c (nfd t)) ≡ list_at (compression_of c.tables) l (lists_by c (nfd u))
unfolding text_order
equal_at c l t u is equal = tied_at (compression_of c.tables) (form_by c) (lists_by c (nfd t)) (lists_by c (nfd u)) equal l is

-- ---- what a level tells

module _ (s : Search) (part : List ℕ) (l : OrderLevel) (is : level_is_compared (form_by s.collation) l ≡ true) where
  abbrev c : Collation
  c = s.collation

  abbrev listed : List ℕ → List ℕ
  listed text = list_at (compression_of c.tables) l (lists_by c (nfd text))

  -- no text whose list is another one is equal to the pattern
  unlike : (text : List ℕ) → (listed text ≡ listed s.pattern → ⊥) → equals_pattern s text ≡ false
  unlike text other =
      elim (cases_Bool (equals_pattern s text)) [
        | inl equal ↦ absurd (other (equal_at c l text s.pattern is (eq_is _ equal)))
        | inr not ↦ not
      ]

  rules_out : StartsUnlike (listed part) (listed s.pattern) → RulesOut s part
  rules_out not = λ text rest has. unlike text (λ same. not (list_at (compression_of c.tables) l rest)
      (sym (list_grown (compression_of c.tables) l (lists_by c (nfd part)) (lists_by c (nfd text)) rest has) ∙ same))

  fits_by : (fit : LevelFit) → Fits (listed part) (listed s.pattern) fit → PartFits s part fit
  fits_by Unlike not = (rules_out not, unlike part (λ same. not [] (append-nil (listed part) ∙ same)))
  fits_by Fewer not = unlike part not
  fits_by Same same = tt

  pub level_tells : (walk : LevelWalk) → HasGoneAt s l walk (elements_of (reading_by c) (nfd part)) → (fit : LevelFit)
      → Fits (element_weights (weighing_at (walked_level walk)) (elements_of (reading_by c) (nfd part))) (weights_at (walked_level walk)) fit → PartFits s part fit
  level_tells walk gone fit fits =
      let es : List Element = elements_of (reading_by c) (nfd part) in
      let one : element_weights (weighing_at (walked_level walk)) es ≡ listed part = ap (λ w. element_weights w es) gone.level.weighing ∙ weights_listed c l part in
      let other : weights_at (walked_level walk) ≡ listed s.pattern = gone.level.weights ∙ weights_listed c l s.pattern in
      fits_by fit (subst (λ (ws : List ℕ). Fits ws (listed s.pattern) fit) one (subst (λ (ws : List ℕ). Fits (element_weights (weighing_at (walked_level walk)) es) ws fit) other fits))

-- ---- all levels

-- the weights of all levels are a pattern's
pub levels_of : (c : Collation) (pattern : List ℕ) (p : PatternLevels) → p.form ≡ form_by c
    → IsLevelOf c pattern levels.Primary p.primary → IsLevelOf c pattern levels.Secondary p.secondary → IsLevelOf c pattern levels.Case p.case
    → IsLevelOf c pattern levels.Tertiary p.tertiary → IsLevelOf c pattern levels.Quaternary p.quaternary → AreLevelsOf c pattern p
levels_of c pattern p form one two three four five = record { form = form; each = each }
  where
    each : (l : OrderLevel) → level_is_compared (form_by c) l ≡ true → IsLevelOf c pattern l (level_at p l)
    each levels.Primary is = one
    each levels.Secondary is = two
    each levels.Case is = three
    each levels.Tertiary is = four
    each levels.Quaternary is = five
    each levels.Identical is = absurd (false≢true is)

-- the walk at a level has gone along elements, if the level counts
abbrev GoneAt : Search → OrderLevel → LevelWalk → List Element → Type 0
GoneAt s l walk es = level_is_compared (form_by s.collation) l ≡ true → HasGoneAt s l walk es

-- the walks at all levels have gone along elements
pub gone_of : (s : Search) (w : PartLevels) (es : List Element) → w.form ≡ form_by s.collation → w.seen ≡ length es
    → GoneAt s levels.Primary w.primary es → GoneAt s levels.Secondary w.secondary es → GoneAt s levels.Case w.case es
    → GoneAt s levels.Tertiary w.tertiary es → GoneAt s levels.Quaternary w.quaternary es → HasGone s w es
gone_of s w es form seen one two three four five = record { form = form; seen = seen; each = each }
  where
    each : (l : OrderLevel) → level_is_compared (form_by s.collation) l ≡ true → HasGoneAt s l (walk_at w l) es
    each levels.Primary is = one is
    each levels.Secondary is = two is
    each levels.Case is = three is
    each levels.Tertiary is = four is
    each levels.Quaternary is = five is
    each levels.Identical is = absurd (false≢true is)

-- before the first element
pub gone_none : (s : Search) (l : OrderLevel) (walk : LevelWalk) (level : PatternLevel) → walked_level walk ≡ level → HasGoneAlong walk []
    → (level_is_compared (form_by s.collation) l ≡ true → IsLevelOf s.collation s.pattern l level) → GoneAt s l walk []
gone_none s l walk level same walked of = λ is. record { level = subst (IsLevelOf s.collation s.pattern l) (sym same) (of is); walked = walked }

-- along more elements
pub gone_on : (s : Search) (l : OrderLevel) (form : KeyForm) (counts : Bool) (old new : LevelWalk) (es more whole : List Element) → form ≡ form_by s.collation → counts ≡ level_is_compared form l
    → walked_level new ≡ walked_level old → ((es : List Element) → counts ≡ true → HasGoneAlong old es → HasGoneAlong new (es ++ more)) → es ++ more ≡ whole → GoneAt s l old es → GoneAt s l new whole
gone_on s l form counts old new es more whole form_is counted same on all gone = λ is.
    let before = gone is in
    record {
      level = subst (IsLevelOf s.collation s.pattern l) (sym same) before.level;
      walked = subst (HasGoneAlong new) all (on es (counted ∙ ap (λ f. level_is_compared f l) form_is ∙ is) before.walked);
    }

-- the elements that are left
pub all_left : (whole es more : List Element) (seen : ℕ) → whole ≡ es ++ more → seen ≡ length es → es ++ take (length whole - seen) (drop seen whole) ≡ whole
all_left whole es more seen is at =
    let left : drop seen whole ≡ more = ap (λ n. drop n whole) at ∙ ap (drop (length es)) is ∙ drop-append_seam es more in
    let room : length (drop seen whole) ≤ length whole - seen = omega (arith, length-drop seen whole) in
    ap (λ (l : List Element). es ++ l) (take_all (length whole - seen) (drop seen whole) room ∙ left) ∙ sym is

-- no fewer than were gone along
pub none_fewer : (whole es more : List Element) (seen : ℕ) → whole ≡ es ++ more → seen ≡ length es → length whole < seen → ⊥
none_fewer whole es more seen is at fewer = omega (arith, fewer, at, ap length is, length-append es more)
