use Rattle.std.proofs.Common.{◌≡◌, length}
use Rattle.std.specs.List.{AllByRecursion}
use Rattle.icu_key_writers.proofs.Writing.{Owes}
use Rattle.icu_order_texts.specs.weighting.HandledSources.{HasCase}
use Rattle.icu_key_texts.specs.ThreeRests.{three_rest, HasTertiaryForm}
use Rattle.icu_key_texts.proofs.whole_key.write_held.Given as goal

-- what the elements that are left give is still owed
abbrev pub invariant-writing : goal.invariant-writing
invariant-writing g l = record {
  known : g.C.PrimaryCompression.compression l.compression ≡ g.C.PrimaryCompression.compression l.fn.compression;
  sound : g.S.CollationKeySink.is_sound l.sink l.state;
  form : HasTertiaryForm l.form l.levels;
  cases : AllByRecursion HasCase (g.H.HandledSource.handled_left l.elements);
  owes : Owes g.S.CollationKeySink.effects l.fn.sink l.fn.state (three_rest (g.C.PrimaryCompression.compression l.fn.compression) l.form l.identical l.fn.commons l.fn.levels l.characters (g.H.HandledSource.handled_left l.fn.elements))
      (three_rest (g.C.PrimaryCompression.compression l.fn.compression) l.form l.identical l.commons l.levels l.characters (g.H.HandledSource.handled_left l.elements)) l.sink l.state;
}

abbrev pub decreases-writing : goal.decreases-writing
decreases-writing g l = length (g.H.HandledSource.handled_left l.elements)
