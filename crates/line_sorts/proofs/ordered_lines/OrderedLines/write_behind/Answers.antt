-- What was written of the lines at the places.
use Rattle.std.proofs.Common.{◌++◌, List, OnErr, subst}
use Rattle.line_sorts.specs.OrderedTexts.{WritesBeginning, ordered_text_at}
use Rattle.line_sorts.specs.declared.line_places.LinePlace.{LinePlace}
use Rattle.line_sorts.proofs.ordered_lines.OrderedLines.write_behind.Goals as goal

pub returns-clause-err : goal.returns-clause-err
returns-clause-err g c =
    let s = c.args.self in
    subst
    (λ (ps : List LinePlace). OnErr c.write_lines.result
    (WritesBeginning (g.W.Write.contents c.args.output.now) (g.W.Write.contents c.write_lines.new.output) (c.args.head.now ++ ordered_text_at s.keyed ps s.request)))
    c.as_slice.ensures.value c.write_lines.ensures.err
