use Rattle.std.proofs.Common.{◌≡◌, map, string_bytes, take}
use Rattle.icu_cldr_locales.specs.locale_rules.TagRules.{group_of_code}
use Rattle.icu_cldr_locales.proofs.locale_rules.tag_rules.groups_of.Given as goal

-- the groups so far
abbrev pub invariant-loop-code : goal.invariant-loop-code
invariant-loop-code l = map string_bytes l.groups.items ≡ map group_of_code (take l.code-index l.codes)
