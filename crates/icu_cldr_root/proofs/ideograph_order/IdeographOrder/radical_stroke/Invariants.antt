use Rattle.std.proofs.Common.{ℕ, List}
use Rattle.std.specs.Io.Iter.{lines_known_bytes}
use Rattle.icu_cldr_root.specs.FileLines.{LinesRead}
use Rattle.icu_cldr_root.specs.declared.radical_line.RadicalLine.{RadicalLine}
use Rattle.icu_cldr_root.proofs.RadicalOrderLemmas.{SayRadicals}
use Rattle.icu_cldr_root.proofs.ideograph_order.IdeographOrder.radical_stroke.Given as goal

-- the lines so far are taken in
abbrev pub invariant-loop-line : goal.invariant-loop-line
invariant-loop-line g l = (lines : List (List ℕ)) × (said : List RadicalLine)
    × LinesRead (g.R.Read.remaining l.fn.reader) lines (lines_known_bytes g.R.Read.remaining l.line-iterator)
    × SayRadicals l.first.items lines said
