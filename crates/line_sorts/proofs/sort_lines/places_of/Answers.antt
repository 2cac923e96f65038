-- No key or no line is left.
use Rattle.std.proofs.Common.{◌++◌, Bor, List, ℕ, append-nil, sym, ap, ◌∙◌, arith}
use Rattle.std.proofs.lemmas.List.{length-map}
use Rattle.line_sorts.proofs.KeyBufferLemmas.{no_pair}
use Rattle.line_sorts.specs.KeyBuffers.{keys_in, pairs_at, view_of}
use Rattle.line_sorts.specs.ShownLines.{shown_lines}
use Rattle.line_sorts.proofs.sort_lines.places_of.Goals as goal

pub returns-clause-all : goal.returns-clause-all
returns-clause-all c =
    let keyed = c.args.keyed.now in
    let k = view_of keyed in
    let shown = pairs_at k c.loop-index.places.items in
    let none = no_pair c.loop-index.index (keys_in keyed.keys.now) (shown_lines keyed.lines.now) (omega (arith, length-map keyed.lines.now (λ (line : Bor (List ℕ)). line.now))) in
    sym (append-nil shown) ∙ (ap (λ ps. shown ++ ps) (sym none) ∙ c.loop-index.invariant.all)
