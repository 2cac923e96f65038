-- The order of elements that are one apart, without case.
use Rattle.std.proofs.Common.{◌≡◌, ◌≤◌, ℕ, ◌+◌, zero, suc, Bool, true, false, List, ◌∷◌, Option, Some, None, map, reverse, refl, ap, sym, ◌∙◌, arith, Ordering, Less, Equal}
use Rattle.std.specs.Ordering.{ordering_then}
use Rattle.icu_options.specs.Metadata.{is_backward}
use Rattle.icu_options.specs.declared.settings.Strength.{Strength}
use Rattle.icu_options.specs.declared.settings.Strength.TheVariants.{Primary, Secondary, Tertiary, Quaternary, Identical}
use Rattle.icu_table_entries.specs.Elements.{Element}
use Rattle.icu_order_levels.specs.ListOrder.{list_order}
use Rattle.icu_order_levels.specs.Keys.{LevelLists, levels_order, primaries_order, secondaries_order, cases_order, tertiaries_order, characters_order}
use Rattle.icu_order_levels.specs.declared.forms.CaseForm.{CaseForm}
use Rattle.icu_order_levels.specs.declared.forms.KeyForm.{KeyForm}
use Rattle.icu_order_levels.specs.declared.forms.TertiaryForm.{TertiaryForm}
use Rattle.icu_order_levels.specs.declared.forms.TertiaryForm.TheVariants.{WithoutCase}
use Rattle.icu_order_levels.proofs.Order.{same_lists_order}
use Rattle.icu_order_levels.proofs.KeepLemmas.{same_segments_order}
use Rattle.icu_table_provider.specs.CollatorTables.{reorder}
use Rattle.icu_order_texts.specs.weighting.Collations.{Collation}
use Rattle.icu_order_texts.specs.weighting.Forms.{compression_of, direction, is_identical, handling_form, last_variable_by}
use Rattle.icu_order_texts.specs.weighting.Levels.{level_lists, primaries}
use Rattle.icu_order_texts.specs.TextOrder.{handled_elements}
use Rattle.icu_order_texts.specs.text_laws.OrderLaws.{strength_rank}
use Rattle.icu_rule_laws.specs.apart_elements.UpperWeights.{upper_lists}
use Rattle.icu_rule_laws.specs.apart_elements.ApartElements.{AreOneApart, SettingsDecide, said_at, kept_elements}
use Rattle.icu_rule_laws.proofs.apart_elements.UpperLemmas.{upper_lower}
use Rattle.icu_rule_laws.proofs.apart_elements.ReadLevels.{primaries_same, secondaries_same, tertiaries_same, parts_same, quaternaries_same}
use Rattle.icu_rule_laws.proofs.apart_elements.ApartLevelLemmas.{upper_whole, primaries_less, secondaries_less, tertiaries_less, quaternaries_less}
use Rattle.icu_rule_laws.proofs.apart_elements.BackwardLemmas.{segments_are_less}
use Rattle.icu_rule_laws.proofs.apart_elements.SaidLemmas.{form_at, primary_after, primary_decides, secondary_decides, secondaries_said, tertiaries_after, quaternaries_after, characters_said}

-- at the primary level each strength says Less
pub said_at_first : (s : Strength) → said_at s 1 ≡ Less
said_at_first Primary = refl
said_at_first Secondary = refl
said_at_first Tertiary = refl
said_at_first Quaternary = refl
said_at_first Identical = refl

module _ (c : Collation) (xs ys : List Element) (t u : List ℕ) where
  -- the lists of both, by a form
  abbrev pub left_by : KeyForm → LevelLists
  left_by f = level_lists (reorder c.tables) f (handled_elements c false xs) t

  abbrev pub right_by : KeyForm → LevelLists
  right_by f = level_lists (reorder c.tables) f (handled_elements c false ys) u

  -- the form by a strength, cases and tertiaries
  abbrev pub form_of : Option CaseForm → TertiaryForm → Strength → KeyForm
  form_of cases tertiary s =
      form_at (compression_of c.tables) (direction (is_backward c.tables.bits)) cases tertiary (handling_form c.settings.alternate_handling) s

  -- and the order
  abbrev pub order_of : Option CaseForm → TertiaryForm → Strength → Ordering
  order_of cases tertiary s =
      levels_order (compression_of c.tables) (form_of cases tertiary s) (left_by (form_of cases tertiary s)) (right_by (form_of cases tertiary s))

  -- ---- levels that tie

  primaries_tie : (f : KeyForm) → upper_lists 2 xs ≡ upper_lists 2 ys → primaries_order (compression_of c.tables) (left_by f) (right_by f) ≡ Equal
  primaries_tie f e =
      same_lists_order _ _ (ap (map (reorder c.tables)) (primaries_same c.settings.alternate_handling (last_variable_by c) xs ys e))

  secondaries_tie : (f : KeyForm) (b : Bool) → upper_lists 3 xs ≡ upper_lists 3 ys
      → secondaries_order (Some (direction b)) (left_by f) (right_by f) ≡ Equal
  secondaries_tie f true e =
      same_segments_order _ _ (ap (λ p. map reverse (p.0 ∷ p.1)) (parts_same c.settings.alternate_handling (last_variable_by c) xs ys e))
  secondaries_tie f false e = same_lists_order _ _ (secondaries_same c.settings.alternate_handling (last_variable_by c) xs ys e)

  tertiaries_tie : (cases : Option CaseForm) (s : Strength) → upper_lists 4 xs ≡ upper_lists 4 ys → 2 ≤ strength_rank s
      → tertiaries_order (Some WithoutCase) (left_by (form_of cases WithoutCase s)) (right_by (form_of cases WithoutCase s)) ≡ Equal
  tertiaries_tie cases Primary e l = absurd (omega arith)
  tertiaries_tie cases Secondary e l = absurd (omega arith)
  tertiaries_tie cases Tertiary e l = same_lists_order _ _ (tertiaries_same c.settings.alternate_handling (last_variable_by c) xs ys e)
  tertiaries_tie cases Quaternary e l = same_lists_order _ _ (tertiaries_same c.settings.alternate_handling (last_variable_by c) xs ys e)
  tertiaries_tie cases Identical e l = same_lists_order _ _ (tertiaries_same c.settings.alternate_handling (last_variable_by c) xs ys e)

  -- ---- levels at which they part

  secondaries_part : (f : KeyForm) (b : Bool) → is_backward c.tables.bits ≡ b → (a : AreOneApart 2 xs ys) → SettingsDecide c 2 a
      → secondaries_order (Some (direction b)) (left_by f) (right_by f) ≡ Less
  secondaries_part f true e a d =
      segments_are_less c.settings.alternate_handling (last_variable_by c) xs ys a d.stays d.other_stays (d.no_separator refl e) (d.ends refl e)
  secondaries_part f false e a d = secondaries_less c.settings.alternate_handling (last_variable_by c) xs ys a d.stays d.other_stays

  tertiaries_part : (cases : Option CaseForm) (s : Strength) (a : AreOneApart 3 xs ys) → SettingsDecide c 3 a → 2 ≤ strength_rank s
      → tertiaries_order (Some WithoutCase) (left_by (form_of cases WithoutCase s)) (right_by (form_of cases WithoutCase s)) ≡ Less
  tertiaries_part cases Primary a d l = absurd (omega arith)
  tertiaries_part cases Secondary a d l = absurd (omega arith)
  tertiaries_part cases Tertiary a d l = tertiaries_less c.settings.alternate_handling (last_variable_by c) xs ys a d.stays d.other_stays
  tertiaries_part cases Quaternary a d l = tertiaries_less c.settings.alternate_handling (last_variable_by c) xs ys a d.stays d.other_stays
  tertiaries_part cases Identical a d l = tertiaries_less c.settings.alternate_handling (last_variable_by c) xs ys a d.stays d.other_stays

  -- ---- the order

  first_apart : (cases : Option CaseForm) (tertiary : TertiaryForm) (s : Strength) (a : AreOneApart 1 xs ys) → SettingsDecide c 1 a
      → order_of cases tertiary s ≡ Less
  first_apart cases tertiary s a d =
      primary_decides (compression_of c.tables) (direction (is_backward c.tables.bits)) cases tertiary (handling_form c.settings.alternate_handling)
      (left_by (form_of cases tertiary s)) (right_by (form_of cases tertiary s)) s
      (primaries_less c.settings.alternate_handling (last_variable_by c) (reorder c.tables) xs ys a d.stays d.other_stays (d.ordered refl))

  second_apart : (cases : Option CaseForm) (tertiary : TertiaryForm) (s : Strength) → 1 ≤ strength_rank s → (a : AreOneApart 2 xs ys) → SettingsDecide c 2 a
      → order_of cases tertiary s ≡ Less
  second_apart cases tertiary s l a d =
      secondary_decides (compression_of c.tables) (direction (is_backward c.tables.bits)) cases tertiary (handling_form c.settings.alternate_handling)
      (left_by (form_of cases tertiary s)) (right_by (form_of cases tertiary s)) s l
      (primaries_tie (form_of cases tertiary s) (upper_whole 2 xs ys a (upper_lower 1 3 2 (λ x. refl) a.front a.other_front a.fronts)))
      (secondaries_part (form_of cases tertiary s) (is_backward c.tables.bits) refl a d)

  -- whatever case is, the primary level decides, and from the secondary strength on the secondary one
  pub apart_is_less : (cases : Option CaseForm) (tertiary : TertiaryForm) (s : Strength) (n : ℕ) → 1 ≤ n → n ≤ 2 → n ≤ strength_rank s + 1
      → (a : AreOneApart n xs ys) → SettingsDecide c n a → order_of cases tertiary s ≡ Less
  apart_is_less cases tertiary s zero l m r a d = absurd (omega arith)
  apart_is_less cases tertiary s (suc zero) l m r a d = first_apart cases tertiary s a d
  apart_is_less cases tertiary s (suc (suc zero)) l m r a d = second_apart cases tertiary s (omega arith) a d
  apart_is_less cases tertiary s (suc (suc (suc n))) l m r a d = absurd (omega arith)

  -- what cases are by a form
  abbrev pub cases_by : Option CaseForm → TertiaryForm → Strength → Ordering
  cases_by cases tertiary s = cases_order cases (left_by (form_of cases tertiary s)) (right_by (form_of cases tertiary s))

  -- cases come first by the primary strength, and before a tertiary and a quaternary difference
  pub apart_after_case : (cases : Option CaseForm) (s : Strength) (n : ℕ) → 2 ≤ n → n ≤ 4 → (n ≡ 2 → strength_rank s ≡ 0)
      → (a : AreOneApart n xs ys) → SettingsDecide c n a → order_of cases WithoutCase s ≡ ordering_then (cases_by cases WithoutCase s) (said_at s n)
  apart_after_case cases s zero l m r a d = absurd (omega arith)
  apart_after_case cases s (suc zero) l m r a d = absurd (omega arith)
  apart_after_case cases s (suc (suc zero)) l m r a d =
      primary_after (compression_of c.tables) (direction (is_backward c.tables.bits)) cases WithoutCase (handling_form c.settings.alternate_handling)
      (left_by (form_of cases WithoutCase s)) (right_by (form_of cases WithoutCase s)) s (r refl)
      (primaries_tie (form_of cases WithoutCase s) (upper_whole 2 xs ys a (upper_lower 1 3 2 (λ x. refl) a.front a.other_front a.fronts)))
  apart_after_case cases s (suc (suc (suc zero))) l m r a d =
      let whole = upper_whole 3 xs ys a (upper_lower 2 4 3 (λ x. refl) a.front a.other_front a.fronts) in
      tertiaries_after (compression_of c.tables) (direction (is_backward c.tables.bits)) cases WithoutCase (handling_form c.settings.alternate_handling)
      (left_by (form_of cases WithoutCase s)) (right_by (form_of cases WithoutCase s)) s
      (primaries_tie (form_of cases WithoutCase s) (upper_lower 1 3 2 (λ x. refl) xs ys whole))
      (secondaries_tie (form_of cases WithoutCase s) (is_backward c.tables.bits) whole)
      (tertiaries_part cases s a d)
  apart_after_case cases s (suc (suc (suc (suc zero)))) l m r a d =
      let whole = upper_whole 4 xs ys a (upper_lower 3 5 4 (λ x. refl) a.front a.other_front a.fronts) in
      quaternaries_after (compression_of c.tables) (direction (is_backward c.tables.bits)) cases WithoutCase (handling_form c.settings.alternate_handling)
      (left_by (form_of cases WithoutCase s)) (right_by (form_of cases WithoutCase s)) s
      (primaries_tie (form_of cases WithoutCase s) (upper_lower 1 4 2 (λ x. refl) xs ys whole))
      (secondaries_tie (form_of cases WithoutCase s) (is_backward c.tables.bits) (upper_lower 2 4 3 (λ x. refl) xs ys whole))
      (tertiaries_tie cases s whole)
      (quaternaries_less c.settings.alternate_handling (last_variable_by c) (reorder c.tables) xs ys a d.stays d.other_stays)
  apart_after_case cases s (suc (suc (suc (suc (suc n))))) l m r a d = absurd (omega arith)

  -- without case it is as the strength says
  pub apart_is_said : (s : Strength) (n : ℕ) → 1 ≤ n → n ≤ 4 → (a : AreOneApart n xs ys) → SettingsDecide c n a
      → order_of None WithoutCase s ≡ said_at s n
  apart_is_said s zero l m a d = absurd (omega arith)
  apart_is_said s (suc zero) l m a d = first_apart None WithoutCase s a d ∙ sym (said_at_first s)
  apart_is_said s (suc (suc zero)) l m a d =
      secondaries_said (compression_of c.tables) (direction (is_backward c.tables.bits)) None WithoutCase (handling_form c.settings.alternate_handling)
      (left_by (form_of None WithoutCase s)) (right_by (form_of None WithoutCase s)) s
      (primaries_tie (form_of None WithoutCase s) (upper_whole 2 xs ys a (upper_lower 1 3 2 (λ x. refl) a.front a.other_front a.fronts)))
      (secondaries_part (form_of None WithoutCase s) (is_backward c.tables.bits) refl a d) refl
  apart_is_said s (suc (suc (suc n))) l m a d =
      apart_after_case None s (suc (suc (suc n))) (omega arith) m (λ two. absurd (omega (arith, two))) a d

  -- elements that the levels compare alike
  pub alike_is_said : (s : Strength) → upper_lists 5 xs ≡ upper_lists 5 ys
      → order_of None WithoutCase s ≡ characters_order (is_identical s) (left_by (form_of None WithoutCase s)) (right_by (form_of None WithoutCase s))
  alike_is_said s e =
      characters_said (compression_of c.tables) (direction (is_backward c.tables.bits)) None WithoutCase (handling_form c.settings.alternate_handling)
      (left_by (form_of None WithoutCase s)) (right_by (form_of None WithoutCase s)) s
      (primaries_tie (form_of None WithoutCase s) (upper_lower 1 5 2 (λ x. refl) xs ys e))
      (secondaries_tie (form_of None WithoutCase s) (is_backward c.tables.bits) (upper_lower 2 5 3 (λ x. refl) xs ys e)) refl
      (tertiaries_tie None s (upper_lower 3 5 4 (λ x. refl) xs ys e))
      (same_lists_order _ _ (quaternaries_same c.settings.alternate_handling (last_variable_by c) (reorder c.tables) xs ys e))

  -- the first primary decides
  pub primaries_are_less : (cases : Option CaseForm) (tertiary : TertiaryForm) (s : Strength)
      → list_order (map (reorder c.tables) (primaries (kept_elements c xs))) (map (reorder c.tables) (primaries (kept_elements c ys))) ≡ Less
      → order_of cases tertiary s ≡ Less
  primaries_are_less cases tertiary s e =
      primary_decides (compression_of c.tables) (direction (is_backward c.tables.bits)) cases tertiary (handling_form c.settings.alternate_handling)
      (left_by (form_of cases tertiary s)) (right_by (form_of cases tertiary s)) s e
