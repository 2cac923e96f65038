use Rattle.std.proofs.Common.{◌+◌, drop, sym, ◌∙◌, ap, arith, rules}
use Rattle.icu_cldr_files.specs.xml.XmlErrors.{column_from}
use Rattle.icu_cldr_files.proofs.xml.ColumnLemmas.{column_more, column_end}
use Rattle.icu_cldr_files.proofs.xml.document.column_behind.Goals as goal

pub loop-byte-preserved : goal.loop-byte-preserved
loop-byte-preserved c = record {
  column =
      ap (λ n. column_from n (drop (c.loop-byte.byte-index + 1) c.args.bytes.now)) c.next_column-column.ensures.value
      ∙ (sym (column_more c.loop-byte.column c.args.bytes.now c.loop-byte.byte-index (omega arith)) ∙ c.loop-byte.invariant.column);
  some = c.next_column-column.ensures.some c.loop-byte.invariant.some;
  bound = omega (arith, c.next_column-column.ensures.bound, c.loop-byte.invariant.bound);
}

pub returns : goal.returns
returns c = sym (column_end c.loop-byte.column c.args.bytes.now c.loop-byte.byte-index (omega arith)) ∙ c.loop-byte.invariant.column
