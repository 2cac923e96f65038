use Rattle.icu_cldr_files.proofs.index_labels.LabelLemmas.{writes_number}
use Rattle.icu_cldr_files.proofs.index_labels.written_characters.numbered.Goals as goal

pub returns : goal.returns
returns c =
    writes_number c.args.a c.args.b c.args.c c.args.d c.from_u32.result c.in_ok-a.ensures.value c.in_ok-b.ensures.value
    c.in_ok-c.ensures.value c.in_ok-d.ensures.value c.from_u32.ensures.value
