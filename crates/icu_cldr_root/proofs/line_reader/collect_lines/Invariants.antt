use Rattle.std.proofs.Common.{ℕ, List}
use Rattle.std.specs.Io.Iter.{lines_known_bytes}
use Rattle.icu_cldr_root.specs.FileLines.{LinesRead}
use Rattle.icu_cldr_root.specs.declared.line.Line.{Line}
use Rattle.icu_cldr_root.specs.inner.Taken.{CountsSome, HasNothing, TakesLines}
use Rattle.icu_cldr_root.specs.inner.TakenCharacters.{HasUnmapped}
use Rattle.icu_cldr_root.proofs.line_reader.collect_lines.Given as goal

-- the lines so far are taken in
abbrev pub invariant-loop-line : goal.invariant-loop-line
invariant-loop-line g l = record {
  nothing : HasNothing l.collected;
  unmapped : HasUnmapped l.collected;
  taken : (lines : List (List ℕ)) × (said : List Line) × CountsSome l.number lines
      × LinesRead (g.R.Read.remaining l.fn.reader) lines (lines_known_bytes g.R.Read.remaining l.line-iterator)
      × TakesLines l.first l.collected lines said;
}
