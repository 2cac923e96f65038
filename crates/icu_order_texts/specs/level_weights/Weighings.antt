-- The weights that a level has for the elements of a text (UTS #10, "Form Sort Keys"; UTS #35 part 5, "Case
-- Parameters").
use Rattle.std.specs.Prelude.{ℕ, Bool, false, nat_lt, List, [], Option, option_map, length, map, take}
use Rattle.icu_table_entries.specs.Elements.{Element}
use Rattle.icu_order_levels.specs.declared.forms.KeyForm.{KeyForm}
use Rattle.icu_options.specs.declared.settings.AlternateHandling.{AlternateHandling}
use Rattle.icu_table_provider.specs.CollatorTables.{reorder_by}
use Rattle.icu_table_provider.specs.Reorderings.{Reordering}
use Rattle.icu_table_provider.specs.StoredTables.{reordering_of}
use Rattle.icu_order_texts.specs.weighting.Handled.{HandledElement, handled, stayed_elements}
use Rattle.icu_order_texts.specs.weighting.Levels.{primaries, secondaries, cases_in, tertiaries_in, quaternaries}
use Rattle.icu_order_texts.specs.level_weights.LeastNumbers.{least_meeting}
use Rattle.icu_order_texts.specs.declared.level_weights.level_weighing.LevelWeighing.{LevelWeighing}
use Rattle.icu_order_texts.specs.declared.level_weights.order_level.OrderLevel.{OrderLevel}
use Rattle.icu_order_texts.specs.declared.level_weights.order_level.OrderLevel.TheVariants as levels

-- how a level weighs elements: which level, the forms of all, a reordering of primaries, and which elements are
-- variable
pub record Weighing : Type 0 where
  pub level : OrderLevel
  pub form : KeyForm
  pub reordering : Option Reordering
  pub handling : AlternateHandling
  pub last_variable : ℕ

-- how it does that, as code has it
abbrev pub weighing_of : LevelWeighing → Weighing
weighing_of w = record {
  level = w.level;
  form = w.form;
  reordering = option_map reordering_of w.reordering;
  handling = w.handling;
  last_variable = w.last_variable;
}

-- the list of a level, of elements as they were handled: secondaries from the front, and of the identical level none,
-- since it has characters
abbrev pub level_list : OrderLevel → KeyForm → Option Reordering → List HandledElement → List ℕ
level_list levels.Primary f r hs = map (reorder_by r) (primaries (stayed_elements hs))
level_list levels.Secondary f r hs = secondaries (stayed_elements hs)
level_list levels.Case f r hs = cases_in f.secondary f.cases (stayed_elements hs)
level_list levels.Tertiary f r hs = tertiaries_in f.tertiary (stayed_elements hs)
level_list levels.Quaternary f r hs = quaternaries (reorder_by r) hs
level_list levels.Identical f r hs = []

-- the weights of elements as they were handled
abbrev pub handled_weights : Weighing → List HandledElement → List ℕ
handled_weights w hs = level_list w.level w.form w.reordering hs

-- the weights of elements
abbrev pub element_weights : Weighing → List Element → List ℕ
element_weights w es = handled_weights w (handled w.handling w.last_variable false es)

-- so many of some elements have a weight behind so many others
abbrev pub has_enough : Weighing → ℕ → List Element → ℕ → Bool
has_enough w before es m = nat_lt before (length (element_weights w (take m es)))

-- how many of some elements it takes for a weight behind so many others: up to the element that bears it, or all where
-- none does
abbrev pub elements_with : Weighing → ℕ → List Element → ℕ
elements_with w before es = least_meeting (has_enough w before es) 0 (length es)
