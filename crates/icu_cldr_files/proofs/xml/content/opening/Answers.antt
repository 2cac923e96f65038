use Rattle.std.specs.Prelude.{codes}
use Rattle.icu_cldr_files.specs.xml.XmlMarkup.{IsTag}
use Rattle.icu_cldr_files.proofs.xml.ContentLemmas.{wrapped}
use Rattle.icu_cldr_files.proofs.xml.content.opening.Goals as goal

pub returns-in-Some-clause-piece : goal.returns-in-Some-clause-piece
returns-in-Some-clause-piece c =
    wrapped (λ part. IsTag part c.in_ok-tag.tag) (codes "<") (codes "/>") c.args.text.now c.in_ok-tag.rest.now c.in-Some.rest.now c.in_ok-tag.ensures.tag c.in-Some.ensures

pub returns-clause-piece : goal.returns-clause-piece
returns-clause-piece c =
    wrapped (λ part. IsTag part c.in_ok-tag.tag) (codes "<") (codes ">") c.args.text.now c.in_ok-tag.rest.now c.in-Some-behind.rest.now c.in_ok-tag.ensures.tag c.in-Some-behind.ensures
