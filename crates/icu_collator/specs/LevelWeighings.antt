-- How the levels of a collation weigh elements.
use Rattle.icu_order_texts.specs.weighting.Collations.{Collation}
use Rattle.icu_order_texts.specs.weighting.Forms.{form_by, last_variable_by}
use Rattle.icu_order_texts.specs.level_weights.Weighings.{Weighing}
use Rattle.icu_order_texts.specs.declared.level_weights.order_level.OrderLevel.{OrderLevel}

-- how a level of a collation weighs elements
abbrev pub weighing_by : Collation → OrderLevel → Weighing
weighing_by c l = record {
  level = l;
  form = form_by c;
  reordering = c.tables.reordering;
  handling = c.settings.alternate_handling;
  last_variable = last_variable_by c;
}
