-- How the command `sort` sorts.
use Rattle.line_sorts.specs.declared.line_order.Direction.TheVariants.{Ascending}
use Rattle.line_sorts.specs.declared.line_order.Ties.TheVariants.{AsTheyCame}
use Rattle.line_sorts.specs.declared.sort_request.Repeats.TheVariants.{All}
use Rattle.line_sorts.specs.declared.sort_request.SortRequest.{SortRequest}

-- all lines from the least on, equal ones as they stood, each with a line feed
abbrev pub all_ascending : SortRequest
all_ascending = record { order = record { direction = Ascending; ties = AsTheyCame }; repeats = All; separator = 10 }
