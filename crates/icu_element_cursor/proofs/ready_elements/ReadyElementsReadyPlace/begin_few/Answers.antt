use Rattle.std.proofs.Common.{option_to_list}
use Rattle.icu_element_cursor.proofs.ReadyLemmas.{both_empty, kept_alone, flag_of_empty}
use Rattle.icu_element_cursor.proofs.ready_elements.ReadyElementsReadyPlace.begin_few.Goals as goal

pub begin_few-first-requires : goal.begin_few-first-requires
begin_few-first-requires c = (both_empty _ _ c.requires).0

pub invariant_of-self : goal.invariant_of-self
invariant_of-self c = record {
  no_piece = c.args.self.now.no_piece;
  none_left = λ none. record { of_char = c.is_empty.ensures (flag_of_empty _ none); of_piece = (both_empty _ _ c.requires).1 };
}

pub returns : goal.returns
returns c = kept_alone _ (option_to_list c.begin_few-first.result) _ _ (both_empty _ _ c.requires).1 c.begin_few-first.ensures
