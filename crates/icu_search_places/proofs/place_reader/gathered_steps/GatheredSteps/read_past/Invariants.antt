use Rattle.std.proofs.Common.{◌≡◌, ℕ, ◌<◌, ◌≤◌, List}
use Rattle.icu_element_reading.specs.StepReaders.{CanStep, reading_in, steps_ahead}
use Rattle.icu_search_places.specs.place_reader.inner.StepsGathered.{LeavesUnread}
use Rattle.icu_search_places.proofs.place_reader.GatheredLemmas.{StillOwes}
use Rattle.icu_search_places.proofs.place_reader.gathered_steps.GatheredSteps.read_past.Given as goal

-- so many characters are still owed, of those that were
abbrev pub invariant-steps : goal.invariant-steps
invariant-steps g l = record {
  can : CanStep g.I.Iterator.can_next g.I.Iterator.remaining l.self.steps;
  some : 0 < l.still;
  reading : reading_in l.self.steps ≡ reading_in l.fn.self.steps;
  owes : (text : List ℕ) (n : ℕ) → LeavesUnread g.I.Iterator.next_gives l.fn.self text n → l.fn.owed ≤ n → StillOwes g.I.Iterator.next_gives l.self text n l.fn.owed l.still;
}

abbrev pub decreases-steps : goal.decreases-steps
decreases-steps g l = steps_ahead g.I.Iterator.remaining l.self.steps
