-- Worked rows of the grammar's words, and of how characters, strings and tokens are spelled.
use Rattle.std.proofs.Common.{true, false, [], ◌∷◌, ◌≡◌, inl, inr, refl, arith}
use Rattle.std.specs.Prelude.{codes}
use Rattle.icu_options.specs.declared.settings.Strength.TheVariants.{Secondary}
use Rattle.icu_rule_parser.specs.declared.statement.LogicalPosition.TheVariants as positions
use Rattle.icu_rule_parser.specs.RuleCharacters.{is_white, is_line_end, is_syntax, is_plain, is_word_character, is_reserved, is_blank}
use Rattle.icu_rule_parser.specs.RuleStrings.{hex_number, SpellsCharacters, ends, plain, quoted, apostrophe, opens, closes}
use Rattle.icu_rule_parser.specs.RuleWords.{NamesPosition}
use Rattle.icu_rule_parser.specs.Tokens.{IsRelationSign}
use Rattle.icu_rule_parser.specs.Statements.{NameRanges, single}

-- the left-to-right mark is white space, and the no-break space isn't
mark_is_white : is_white 0x200E ≡ true
unfolding is_white
mark_is_white = refl

space_is_plain : is_plain 0xA0 ≡ true
unfolding is_plain is_white is_syntax
space_is_plain = refl

-- letters and digits of ASCII stand for themselves, a hyphen doesn't
digit_is_plain : is_plain 0x39 ≡ true
unfolding is_plain is_white is_syntax
digit_is_plain = refl

hyphen_is_syntax : is_syntax 0x2D ≡ true
unfolding is_syntax
hyphen_is_syntax = refl

hyphen_in_word : is_word_character 0x2D ≡ true
unfolding is_word_character is_plain is_white is_syntax
hyphen_in_word = refl

-- a line ends at a form feed, and not at a tab
form_feed_ends : is_line_end 12 ≡ true
unfolding is_line_end
form_feed_ends = refl

tab_goes_on : is_line_end 9 ≡ false
unfolding is_line_end
tab_goes_on = refl

first_reserved : is_reserved 0xFFFC ≡ false
unfolding is_reserved
first_reserved = refl

replacement_reserved : is_reserved 0xFFFD ≡ true
unfolding is_reserved
replacement_reserved = refl

-- a comment with the end of its line is blank, and one without isn't
comment_is_blank : is_blank false (codes " # &a<b\n") ≡ true
unfolding is_blank is_white is_line_end
comment_is_blank = refl

open_comment : is_blank false (codes "# &a<b") ≡ false
unfolding is_blank is_white is_line_end
open_comment = refl

-- 1F600
hex : hex_number 0 (codes "1f600") ≡ 0x1F600
hex = refl

-- `a'b c'''`: a, b, a space, c and an apostrophe
quotes : SpellsCharacters false (codes "ab c'") (codes "a'b c'''")
unfolding is_plain is_white is_syntax
quotes = plain refl (opens (omega arith) (quoted (omega arith) (omega arith) (quoted (omega arith) (omega arith) (quoted (omega arith) (omega arith) (apostrophe (closes tt ends))))))

-- `last` and two words, or `top`
last_primary : NamesPosition positions.LastPrimaryIgnorable (codes "last" ∷ codes "primary" ∷ codes "ignorable" ∷ [])
last_primary = inl refl

top : NamesPosition positions.LastRegular (codes "top" ∷ [])
top = inr (inl (refl, refl))

-- `;` is `<<`
old_sign : IsRelationSign Secondary false (codes ";")
old_sign = inr refl

-- `a-cx`: a to c, and x
range_and_one : NameRanges (codes "a") (codes "cx" ∷ []) (record { first = 97; last = 99 } ∷ single 120 ∷ [])
range_and_one = ([], 97, single 120 ∷ [], omega arith, refl, refl, refl)
