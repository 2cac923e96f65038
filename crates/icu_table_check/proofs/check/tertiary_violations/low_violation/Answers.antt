use Rattle.icu_table_provider.specs.TableSets.{tables_in}
use Rattle.icu_table_check.proofs.LevelRefutes.{refute_tertiary_element}
use Rattle.icu_table_check.proofs.check.tertiary_violations.low_violation.Goals as goal

pub returns : goal.returns
returns c = λ meets.
    refute_tertiary_element (tables_in c.args.tables) c.in_ok-alone.alone c.in_ok-beside.beside c.args.pair.alone c.args.pair.beside c.in_ok-alone.ensures c.in_ok-beside.ensures c.requires.low
    (λ x is_x y is_y. meets c.in_ok-alone.alone c.in_ok-beside.beside x is_x y is_y c.later.ensures)
