use Rattle.std.proofs.Common.{refl}
use Rattle.icu_table_check.proofs.check.tertiary_violations.tertiary_violation.Goals as goal

pub returns-in-None : goal.returns-in-None
returns-in-None c = record {
  none = λ h first second x y p q. c.in-None.ensures.none refl x y (c.requires.alone.all first x p) (c.requires.beside.all second y q);
  some = tt;
}
