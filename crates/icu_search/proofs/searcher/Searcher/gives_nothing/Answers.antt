use Rattle.std.proofs.Common.{sym, ◌∙◌}
use Rattle.icu_search.proofs.searcher.Searcher.gives_nothing.Goals as goal

pub returns-then-c-lt128 : goal.returns-then-c-lt128
returns-then-c-lt128 c = λ is. c.args.self.now.silent_are c.args.c (sym c.has_mark.ensures ∙ is)

pub returns : goal.returns
returns c = λ is. record {
  ends = c.ends_at_tertiaries.ensures c.if-not-ends_at_tertiaries.false;
  silent = c.is_silent_alone.ensures is;
}
