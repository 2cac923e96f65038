-- The cases of the case level, as the definitions number them (UTS #35 part 5, "Case Parameters").
use Rattle.std.specs.Prelude.{ℕ}
use Rattle.icu_order_levels.specs.declared.forms.CaseForm.{CaseForm}
use Rattle.icu_order_levels.specs.declared.forms.CaseForm.TheVariants.{LowerFirst, UpperFirst}
use Rattle.icu_key_writers.specs.declared.cases.LetterCase.{LetterCase}
use Rattle.icu_key_writers.specs.declared.cases.LetterCase.TheVariants.{Lower, Mixed, Upper}

-- the rank of a case in the order of a form
abbrev pub rank_of : CaseForm → LetterCase → ℕ
rank_of LowerFirst Lower = 0
rank_of LowerFirst Mixed = 1
rank_of LowerFirst Upper = 2
rank_of UpperFirst Lower = 2
rank_of UpperFirst Mixed = 1
rank_of UpperFirst Upper = 0
