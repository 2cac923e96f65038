use Rattle.std.proofs.Common.{[], sym}
use Rattle.icu_element_facts.specs.KeptFacts.{char_elements}
use Rattle.icu_element_cursor.proofs.ReadyLemmas.{both_empty, kept_alone}
use Rattle.icu_element_cursor.proofs.ready_elements.ReadyElementsReadyPlace.keep.Goals as goal

pub keep-requires : goal.keep-requires
keep-requires c = (both_empty _ _ c.requires).0

pub returns : goal.returns
returns c = sym (kept_alone (char_elements c.args.facts.now) [] _ _ (both_empty _ _ c.requires).1 (sym c.keep.ensures))
