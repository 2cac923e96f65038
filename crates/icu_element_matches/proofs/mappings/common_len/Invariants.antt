use Rattle.std.proofs.Common.{◌≡◌, ◌++◌, take, drop}
use Rattle.icu_element_matches.specs.inner.Beginnings.{common_beginning}
use Rattle.icu_element_matches.proofs.mappings.common_len.Given as goal

-- the characters before this index are common
abbrev pub invariant-loop-index : goal.invariant-loop-index
invariant-loop-index l = take l.index l.text ++ common_beginning (drop l.index l.mapping) (drop l.index l.text) ≡ common_beginning l.mapping l.text
