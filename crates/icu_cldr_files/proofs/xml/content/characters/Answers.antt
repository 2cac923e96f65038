use Rattle.std.proofs.Common.{inl}
use Rattle.std.specs.Prelude.{codes, string_bytes}
use Rattle.icu_cldr_files.proofs.xml.ContentLemmas.{text_in, text_is_some}
use Rattle.icu_cldr_files.proofs.xml.content.characters.Goals as goal

pub returns-clause-piece : goal.returns-clause-piece
returns-clause-piece c =
    let found = text_in c.args.text.now c.in-Some.written.now c.in-Some.rest.now (string_bytes c.in_ok-value.value) c.in-Some.ensures c.in_default-cut_around.ensures c.in_ok-value.ensures.value in
    (found.0, found.1, inl found.2)

pub returns-clause-shorter : goal.returns-clause-shorter
returns-clause-shorter c begins = text_is_some (codes "<") c.args.text.now c.in-Some.written.now c.in-Some.rest.now c.in-Some.ensures begins
