use Rattle.std.proofs.Common.{List, ◌++◌, ◌<◌, length}
use denote.Shadow.{shadow}
use denote.Text.{Utf8}
use Rattle.icu_cldr_root.specs.WrittenElements.{WriteElements}
use Rattle.icu_cldr_root.specs.declared.fractional_element.FractionalElement.{FractionalElement}
use Rattle.icu_cldr_root.proofs.fractional_element.FractionalElement.parse_all.Given as goal

-- the elements so far stand before what is left
abbrev pub invariant-loop-rest : goal.invariant-loop-rest
invariant-loop-rest l = record {
  text : shadow (Utf8 l.rest);
  some : 0 < length l.elements.items;
  writes : (more : List FractionalElement) → WriteElements l.rest more → WriteElements l.text (l.elements.items ++ more);
}

abbrev pub decreases-loop-rest : goal.decreases-loop-rest
decreases-loop-rest l = length l.rest
