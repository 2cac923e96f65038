-- A part more is cut off, up to the next separator, or the last one is left.
use Rattle.std.proofs.Common.{◌++◌, ◌==◌, drop, refl, ap, ◌∙◌}
use Rattle.std.specs.List.{slice_split}
use Rattle.line_sorts.proofs.CutLineLemmas.{last_part, one_part}
use Rattle.line_sorts.specs.ShownLines.{shown_lines}
use Rattle.line_sorts.proofs.input_lines.parts.Goals as goal

pub cutting-preserved : goal.cutting-preserved
cutting-preserved c =
    let rest = c.cutting.rest.now in
    let behind = c.behind_first-rest.result.now in
    let left = c.behind_first-rest.ensures ∙ ap (drop 1) c.split_at.ensures.back in
    ap (λ parts. shown_lines parts ++ slice_split (λ b. b == c.args.separator) behind) c.in_ok-push.ensures.items
    ∙ one_part c.args.separator c.cutting.parts.items c.split_at.result.0 rest c.args.bytes.now c.in-Some.end behind c.cutting.invariant
    c.in-Some.ensures c.split_at.ensures.front left

pub returns : goal.returns
returns c =
    let rest = c.cutting.rest in
    ap shown_lines c.in_ok-push-2.ensures.items
    ∙ last_part c.args.separator c.cutting.parts.items rest rest.now c.args.bytes.now c.cutting.invariant c.in_default.ensures refl
