use Rattle.std.proofs.Common.{not, ◌∙◌}
use Rattle.icu_cldr_locales.specs.declared.subtag.Subtag.{Subtag}
use Rattle.icu_cldr_locales.specs.Keywords.{is_type_part}
use Rattle.icu_cldr_locales.proofs.KeywordLemmas.{front_some, front_fits, front_all}
use Rattle.icu_cldr_locales.proofs.keywords.type_before.Goals as goal

pub split_at-requires : goal.split_at-requires
split_at-requires c = front_fits (λ (s : Subtag). not (is_type_part s.kind)) c.args.subtags.now c.in-Some.len c.in-Some.ensures

pub returns-in-Some : goal.returns-in-Some
returns-in-Some c = c.split_at.ensures.front ∙ front_some (λ (s : Subtag). not (is_type_part s.kind)) c.args.subtags.now c.in-Some.len c.in-Some.ensures

pub returns-in-None : goal.returns-in-None
returns-in-None c = front_all (λ (s : Subtag). not (is_type_part s.kind)) c.args.subtags.now c.in-None.ensures
