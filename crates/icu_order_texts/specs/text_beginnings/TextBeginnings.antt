-- The primary level of texts by itself, and texts that begin with others there (UTS #10, "Multi-Level Comparison" and
-- "Form Sort Keys").
use Rattle.std.specs.Prelude.{Bool, false, ℕ, List, map, Option}
use Rattle.std.specs.declared.cmp.Ordering.{Ordering}
use Rattle.icu_options.specs.declared.settings.Strength.TheVariants.{Primary}
use Rattle.unicode_normalization.specs.Forms.{nfd}
use Rattle.icu_table_provider.specs.CollatorTables.{reorder}
use Rattle.icu_order_levels.specs.beginnings.KeyBeginnings.{least_above, begins}
use Rattle.icu_order_texts.specs.Collations.{Collation}
use Rattle.icu_order_texts.specs.TextOrder.{lists_by, text_key, text_order}

-- the same collation at the primary level alone: the strength Primary, without a case level
abbrev pub primary_collation : Collation → Collation
primary_collation c = record c { settings = record c.settings { strength = Primary; case_level = false } }

-- the order of two texts at the primary level
abbrev pub primary_order : Collation → List ℕ → List ℕ → Ordering
primary_order c t u = text_order (primary_collation c) t u

-- the primary weights of a text, as they are compared: those of its elements that aren't shifted or blanked, reordered
unfoldable pub primary_weights : Collation → List ℕ → List ℕ
primary_weights c text = map (reorder c.tables) (lists_by c (nfd text)).primaries

-- whether a text begins with another: its primary weights begin with those of the other
abbrev pub text_begins : Collation → List ℕ → List ℕ → Bool
text_begins c beginning text = begins (primary_weights c beginning) (primary_weights c text)

-- the least key of texts that begin with a text: that of the primary level alone
abbrev pub lower_bound : Collation → List ℕ → List ℕ
lower_bound c beginning = text_key (primary_collation c) beginning

-- the least bytes above all keys of texts that begin with a text, if there are such
abbrev pub upper_bound : Collation → List ℕ → Option (List ℕ)
upper_bound c beginning = least_above (lower_bound c beginning)
