use Rattle.std.proofs.Common.{◌∷◌, [], refl, inr}
use Rattle.icu_cldr_files.proofs.xml.prolog.behind_mark.Goals as goal

pub returns-in-Some : goal.returns-in-Some
returns-in-Some c = (239 ∷ 187 ∷ 191 ∷ [], c.in-Some.ensures, inr refl)
