use Rattle.std.proofs.Common.{◌∙◌, ap, sym}
use Rattle.icu_index_keys.specs.keyed_starts.Starts.{start_of, starts_in}
use Rattle.icu_index.proofs.headings.StartKeyLemmas.{heading_label, heading_limit, heading_none}
use Rattle.icu_index.specs.headings.HeadingLists.{label}
use Rattle.icu_index.proofs.headings.headings.Headings.heading.Goals as goal

pub returns-in_default : goal.returns-in_default
returns-in_default c = sym (heading_none c.args.number (starts_in c.args.self.now.starts) c.if-number-eq0.false c.in_default.ensures)

pub returns-then-start : goal.returns-then-start
returns-then-start c =
    ap label c.as_slice.ensures.value
    ∙ sym (heading_label c.args.number (starts_in c.args.self.now.starts) (start_of c.in-Some.start.now) c.if-number-eq0.false c.in-Some.ensures c.if-start.true)

pub returns-then-has_label_from : goal.returns-then-has_label_from
returns-then-has_label_from c =
    sym (heading_limit c.args.number (starts_in c.args.self.now.starts) (start_of c.in-Some.start.now) _ c.if-number-eq0.false c.in-Some.ensures c.if-start.false
    c.if-has_label_from.ensures)

pub returns-else-has_label_from : goal.returns-else-has_label_from
returns-else-has_label_from c =
    sym (heading_limit c.args.number (starts_in c.args.self.now.starts) (start_of c.in-Some.start.now) _ c.if-number-eq0.false c.in-Some.ensures c.if-start.false
    c.if-has_label_from.ensures)
