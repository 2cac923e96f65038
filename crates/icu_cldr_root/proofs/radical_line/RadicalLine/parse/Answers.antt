use Rattle.std.proofs.Common.{◌≡◌, ◌++◌, codes, rules}
use Rattle.icu_cldr_root.specs.LineParts.{text_of}
use Rattle.icu_cldr_root.proofs.radical_line.RadicalLine.parse.Goals as goal

pub returns : goal.returns
returns c =
    let begins : text_of c.args.line.now ≡ codes "[radical " ++ c.in-Some.behind.now = search rules in
    (c.in-Some.behind.now, begins, c.in_ok-radical.ensures)
