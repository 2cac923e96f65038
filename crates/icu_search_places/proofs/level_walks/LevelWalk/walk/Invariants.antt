-- The walk has gone along the elements so far.
use Rattle.std.proofs.Common.{◌≡◌, ◌++◌, List, take}
use Rattle.icu_table_entries.specs.Elements.{Element}
use Rattle.icu_search_places.specs.LevelWalks.{HasGoneAlong, walked_level}
use Rattle.icu_search_places.proofs.level_walks.LevelWalk.walk.Given as goal

abbrev pub invariant-loop-element : goal.invariant-loop-element
invariant-loop-element l = record {
  walked : (es : List Element) → HasGoneAlong l.fn.self es → HasGoneAlong l.self (es ++ take l.element-index l.more);
  level : walked_level l.self ≡ walked_level l.fn.self;
}
