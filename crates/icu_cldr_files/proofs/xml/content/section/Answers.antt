use Rattle.std.proofs.Common.{◌≡◌, ◌++◌, string_bytes, subst, sym, inr, rules}
use Rattle.std.specs.Prelude.{codes}
use Rattle.icu_cldr_files.specs.xml.SpelledParts.{Begins}
use Rattle.icu_cldr_files.specs.xml.XmlMarkup.{IsCdata}
use Rattle.icu_cldr_files.proofs.xml.ContentLemmas.{section_in}
use Rattle.icu_cldr_files.proofs.xml.content.section.Goals as goal

pub returns-clause-piece : goal.returns-clause-piece
returns-clause-piece c =
    let e : string_bytes c.in_ok-value.value ≡ c.in-Some.value.now = search rules in
    let begins = subst (λ v. Begins (λ part. IsCdata part v) (codes "<![CDATA[" ++ c.args.text.now) c.in-Some.rest.now) (sym e)
    (section_in c.args.text.now c.in-Some.value.now c.in-Some.rest.now c.in-Some.ensures) in
    (begins.0, begins.1, inr begins.2)
