-- Tokens say one thing: what the statements say, whose tokens they are.
use Rattle.std.proofs.Common.{ℕ, Bool, true, false, cond, nat_eq, ◌&&◌, Option, Some, None, String, List, [], ◌∷◌, ◌++◌, map, ◌≡◌, inl, inr, ap, ◌∙◌, sym, refl, subst, append_assoc}
use Rattle.std.specs.Char.{IsScalar}
use Rattle.std.specs.List.{AllZip}
use Rattle.std.specs.Prelude.{codes, string_bytes, encode_utf8_all}
use Rattle.std.specs.declared.alloc.Global.{Global}
use Rattle.icu_options.specs.declared.settings.Strength.{Strength}
use Rattle.icu_options.specs.declared.settings.Strength.TheVariants as strengths
use Rattle.icu_options.specs.declared.settings.AlternateHandling.{AlternateHandling}
use Rattle.icu_options.specs.declared.settings.AlternateHandling.TheVariants.{NonIgnorable, Shifted, Blanked}
use Rattle.icu_options.specs.declared.settings.MaxVariable.TheVariants.{Space, Punctuation, Symbol, Currency}
use Rattle.icu_options.specs.declared.settings.CaseLevel.TheVariants as case_levels
use Rattle.icu_options.specs.declared.settings.CollationCaseFirst.TheVariants as case_firsts
use Rattle.icu_options.specs.declared.settings.CollationNumericOrdering.TheVariants as numeric
use Rattle.icu_rule_parser.specs.declared.statement.CharacterRange.{CharacterRange}
use Rattle.icu_rule_parser.specs.declared.statement.LogicalPosition.{LogicalPosition}
use Rattle.icu_rule_parser.specs.declared.statement.LogicalPosition.TheVariants as positions
use Rattle.icu_rule_parser.specs.declared.statement.Anchor.{Anchor}
use Rattle.icu_rule_parser.specs.declared.statement.Anchor.TheVariants as anchors
use Rattle.icu_rule_parser.specs.declared.statement.RuleSetting.{RuleSetting}
use Rattle.icu_rule_parser.specs.declared.statement.RuleSetting.TheVariants as settings
use Rattle.icu_rule_parser.specs.declared.statement.Statement.{Statement}
use Rattle.icu_rule_parser.specs.declared.statement.Statement.TheVariants as statements
use Rattle.icu_rule_parser.specs.CharacterSets.{have_character, parts_have}
use Rattle.icu_rule_parser.specs.Tokens.{Token, reset_sign, relation_sign, prefix_sign, extension_sign, range_sign, vowel_sign, string, bracket, set_bracket}
use Rattle.icu_rule_parser.specs.RuleWords.{position_words, NamesPosition, level_word, IsAlternateWord}
use Rattle.icu_rule_parser.specs.Statements.{AreBefore, AreAnchor, prefix_tokens, extension_tokens, single, dashed_tokens, NameRanges, WriteWords, AreSetting, AreStatement, AreStatements}
use Rattle.icu_rule_parser.specs.Sayings.{Target, at_string, at_position, Saying, resets_to, relates, relates_each, sets, reorders, suppresses, optimizes, imports, target, setting_saying, saying, ranges_of_setting, ranges_of_set, SetsAgree}

-- ---- words

abbrev same_text : List ℕ → List ℕ → Bool
same_text [] [] = true
same_text (c ∷ cs) (d ∷ ds) = nat_eq c d && same_text cs ds
same_text cs ds = false

abbrev same_words : List (List ℕ) → List (List ℕ) → Bool
same_words [] [] = true
same_words (v ∷ vs) (w ∷ ws) = same_text v w && same_words vs ws
same_words vs ws = false

abbrev first_word : List (List ℕ) → List ℕ
first_word [] = []
first_word (word ∷ words) = word

abbrev second_word : List (List ℕ) → List ℕ
second_word [] = []
second_word (word ∷ words) = first_word words

abbrev level_by : List ℕ → Strength
level_by word =
    cond (same_text word (codes "1")) strengths.Primary (cond (same_text word (codes "2")) strengths.Secondary
    (cond (same_text word (codes "3")) strengths.Tertiary (cond (same_text word (codes "4")) strengths.Quaternary strengths.Identical)))

abbrev setting_by : List ℕ → List ℕ → RuleSetting
setting_by name value =
    cond (same_text name (codes "strength")) (settings.Strength (level_by value))
    (cond (same_text name (codes "alternate")) (settings.Alternate (cond (same_text value (codes "shifted")) Shifted NonIgnorable))
    (cond (same_text name (codes "maxVariable"))
    (settings.MaxVariable (cond (same_text value (codes "space")) Space (cond (same_text value (codes "punct")) Punctuation
    (cond (same_text value (codes "symbol")) Symbol Currency))))
    (cond (same_text name (codes "caseFirst"))
    (settings.CaseFirst (cond (same_text value (codes "off")) case_firsts.False (cond (same_text value (codes "lower")) case_firsts.Lower case_firsts.Upper)))
    (cond (same_text name (codes "caseLevel")) (settings.CaseLevel (cond (same_text value (codes "on")) case_levels.On case_levels.Off))
    (cond (same_text name (codes "numericOrdering")) (settings.NumericOrdering (cond (same_text value (codes "on")) numeric.True numeric.False))
    (cond (same_text name (codes "backwards")) settings.Backwards
    (cond (same_text name (codes "normalization")) (settings.Normalization (same_text value (codes "on"))) settings.HiraganaQuaternaryOff)))))))

abbrev words_saying : List (List ℕ) → Saying
words_saying [] = sets settings.Backwards
words_saying (name ∷ values) =
    cond (same_text name (codes "reorder")) (reorders (map encode_utf8_all values))
    (cond (same_text name (codes "import")) (imports (encode_utf8_all (first_word values))) (sets (setting_by name (first_word values))))

abbrev is_position : List (List ℕ) → LogicalPosition → Bool
is_position words position = same_words words (position_words position)

abbrev position_by : List (List ℕ) → LogicalPosition
position_by words =
    cond (is_position words positions.FirstTertiaryIgnorable) positions.FirstTertiaryIgnorable
    (cond (is_position words positions.LastTertiaryIgnorable) positions.LastTertiaryIgnorable
    (cond (is_position words positions.FirstSecondaryIgnorable) positions.FirstSecondaryIgnorable
    (cond (is_position words positions.LastSecondaryIgnorable) positions.LastSecondaryIgnorable
    (cond (is_position words positions.FirstPrimaryIgnorable) positions.FirstPrimaryIgnorable
    (cond (is_position words positions.LastPrimaryIgnorable) positions.LastPrimaryIgnorable
    (cond (is_position words positions.FirstVariable) positions.FirstVariable
    (cond (is_position words positions.LastVariable) positions.LastVariable
    (cond (is_position words positions.FirstRegular) positions.FirstRegular
    (cond (is_position words positions.LastRegular) positions.LastRegular
    (cond (is_position words positions.FirstImplicit) positions.FirstImplicit
    (cond (is_position words positions.LastImplicit) positions.LastImplicit
    (cond (is_position words positions.FirstTrailing) positions.FirstTrailing
    (cond (is_position words positions.LastTrailing) positions.LastTrailing
    (cond (same_words words (codes "top" ∷ [])) positions.LastRegular positions.LastVariable))))))))))))))

-- ---- parts of statements, and what follows them

abbrev target_by : List Token → Target × List Token
target_by (string s ∷ more) = (at_string s, more)
target_by (bracket words ∷ more) = (at_position (position_by words), more)
target_by more = (at_string [], more)

abbrev reset_before : Option Strength → Target × List Token → Saying × List Token
reset_before before t = (resets_to before t.0, t.1)

abbrev reset_by : List Token → Saying × List Token
reset_by (bracket words ∷ more) =
    cond (same_text (first_word words) (codes "before"))
    (reset_before (Some (level_by (second_word words))) (target_by more))
    (resets_to None (at_position (position_by words)), more)
reset_by more = reset_before None (target_by more)

abbrev relation_by : Strength → List Token → Saying × List Token
relation_by k (string a ∷ prefix_sign ∷ string b ∷ extension_sign ∷ string e ∷ more) = (relates k a b e, more)
relation_by k (string a ∷ prefix_sign ∷ string b ∷ more) = (relates k a b [], more)
relation_by k (string a ∷ extension_sign ∷ string e ∷ more) = (relates k [] a e, more)
relation_by k (string a ∷ more) = (relates k [] a [], more)
relation_by k more = (relates k [] [] [], more)

abbrev all_but_last : List ℕ → List ℕ
all_but_last [] = []
all_but_last (c ∷ []) = []
all_but_last (c ∷ d ∷ cs) = c ∷ all_but_last (d ∷ cs)

abbrev last_of : List ℕ → ℕ
last_of [] = 0
last_of (c ∷ []) = c
last_of (c ∷ d ∷ cs) = last_of (d ∷ cs)

abbrev ranges_by : List ℕ → List Token → List CharacterRange × List Token
ranges_by s (range_sign ∷ string (c ∷ next) ∷ more) = (
  map single (all_but_last s) ++ record { first = last_of s; last = c } ∷ (ranges_by next more).0,
  (ranges_by next more).1,
)
ranges_by s more = (map single s, more)

abbrev starred_by : Strength → List CharacterRange × List Token → Saying × List Token
starred_by k p = (relates_each k p.0, p.1)

abbrev first_saying : List Token → Saying × List Token
first_saying (reset_sign ∷ more) = reset_by more
first_saying (relation_sign k false ∷ more) = relation_by k more
first_saying (relation_sign k true ∷ string s ∷ more) = starred_by k (ranges_by s more)
first_saying (vowel_sign ∷ more) = (sets settings.VowelSign, more)
first_saying (bracket words ∷ more) = (words_saying words, more)
first_saying (set_bracket word stated ∷ more) = (cond (same_text word (codes "optimize")) optimizes suppresses, more)
first_saying more = (sets settings.VowelSign, more)

-- what a statement begins with, or nothing
abbrev Opens : List Token → Type 0
Opens [] = Unit {0}
Opens (reset_sign ∷ more) = Unit {0}
Opens (relation_sign k starred ∷ more) = Unit {0}
Opens (vowel_sign ∷ more) = Unit {0}
Opens (bracket words ∷ more) = Unit {0}
Opens (set_bracket word ranges ∷ more) = Unit {0}
Opens tokens = ⊥

-- ---- each of them

position_is : (position : LogicalPosition) → position_by (position_words position) ≡ position
position_is positions.FirstTertiaryIgnorable = refl
position_is positions.LastTertiaryIgnorable = refl
position_is positions.FirstSecondaryIgnorable = refl
position_is positions.LastSecondaryIgnorable = refl
position_is positions.FirstPrimaryIgnorable = refl
position_is positions.LastPrimaryIgnorable = refl
position_is positions.FirstVariable = refl
position_is positions.LastVariable = refl
position_is positions.FirstRegular = refl
position_is positions.LastRegular = refl
position_is positions.FirstImplicit = refl
position_is positions.LastImplicit = refl
position_is positions.FirstTrailing = refl
position_is positions.LastTrailing = refl

not_before : (position : LogicalPosition) → same_text (first_word (position_words position)) (codes "before") ≡ false
not_before positions.FirstTertiaryIgnorable = refl
not_before positions.LastTertiaryIgnorable = refl
not_before positions.FirstSecondaryIgnorable = refl
not_before positions.LastSecondaryIgnorable = refl
not_before positions.FirstPrimaryIgnorable = refl
not_before positions.LastPrimaryIgnorable = refl
not_before positions.FirstVariable = refl
not_before positions.LastVariable = refl
not_before positions.FirstRegular = refl
not_before positions.LastRegular = refl
not_before positions.FirstImplicit = refl
not_before positions.LastImplicit = refl
not_before positions.FirstTrailing = refl
not_before positions.LastTrailing = refl

named : (position : LogicalPosition) (words : List (List ℕ)) → NamesPosition position words → (position_by words ≡ position) × (same_text (first_word words) (codes "before") ≡ false)
named position words (inl e) =
    (ap position_by e ∙ position_is position, ap (λ w. same_text (first_word w) (codes "before")) e ∙ not_before position)
named position words (inr (inl (p, e))) =
    (ap position_by e ∙ sym p, ap (λ w. same_text (first_word w) (codes "before")) e)
named position words (inr (inr (p, e))) =
    (ap position_by e ∙ sym p, ap (λ w. same_text (first_word w) (codes "before")) e)

level_is : (level : Strength) → level_by (level_word level) ≡ level
level_is strengths.Primary = refl
level_is strengths.Secondary = refl
level_is strengths.Tertiary = refl
level_is strengths.Quaternary = refl
level_is strengths.Identical = refl

target_says : (anchor : Anchor) (mine more : List Token) → AreAnchor anchor mine → target_by (mine ++ more) ≡ (target anchor, more)
target_says (anchors.String s) mine more e = ap (λ t. target_by (t ++ more)) e
target_says (anchors.Position position) mine more (words, n, e) =
    ap (λ t. target_by (t ++ more)) e ∙ ap (λ p. (at_position p, more)) (named position words n).0

-- a reset without [before n]
plain_reset : (anchor : Anchor) (mine more : List Token) → AreAnchor anchor mine → reset_by (mine ++ more) ≡ (resets_to None (target anchor), more)
plain_reset (anchors.String s) mine more e = ap (λ t. reset_by (t ++ more)) e
plain_reset (anchors.Position position) mine more (words, n, e) =
    let p = named position words n in
    ap (λ t. reset_by (t ++ more)) e
    ∙ ap (λ b. cond b (reset_before (Some (level_by (second_word words))) (target_by more)) (resets_to None (at_position (position_by words)), more)) p.1
    ∙ ap (λ q. (resets_to None (at_position q), more)) p.0

reset_says : (before : Option Strength) (anchor : Anchor) (first second more : List Token) → AreBefore before first → AreAnchor anchor second → reset_by (first ++ (second ++ more)) ≡ (resets_to before (target anchor), more)
reset_says None anchor first second more e a =
    ap (λ t. reset_by (t ++ (second ++ more))) e ∙ plain_reset anchor second more a
reset_says (Some level) anchor first second more (q, i, e) a =
    ap (λ t. reset_by (t ++ (second ++ more))) e
    ∙ ap (λ k. reset_before (Some k) (target_by (second ++ more))) (level_is level)
    ∙ ap (reset_before (Some level)) (target_says anchor second more a)

whole_relation : (k : Strength) (x : List ℕ) (more : List Token) → Opens more → relation_by k (string x ∷ more) ≡ (relates k [] x [], more)
whole_relation k x [] o = refl
whole_relation k x (reset_sign ∷ more) o = refl
whole_relation k x (relation_sign strength starred ∷ more) o = refl
whole_relation k x (prefix_sign ∷ more) o = absurd o
whole_relation k x (extension_sign ∷ more) o = absurd o
whole_relation k x (range_sign ∷ more) o = absurd o
whole_relation k x (vowel_sign ∷ more) o = refl
whole_relation k x (string s ∷ more) o = absurd o
whole_relation k x (bracket words ∷ more) o = refl
whole_relation k x (set_bracket word ranges ∷ more) o = refl

prefixed_relation : (k : Strength) (p x : List ℕ) (more : List Token) → Opens more → relation_by k (string p ∷ prefix_sign ∷ string x ∷ more) ≡ (relates k p x [], more)
prefixed_relation k p x [] o = refl
prefixed_relation k p x (reset_sign ∷ more) o = refl
prefixed_relation k p x (relation_sign strength starred ∷ more) o = refl
prefixed_relation k p x (prefix_sign ∷ more) o = absurd o
prefixed_relation k p x (extension_sign ∷ more) o = absurd o
prefixed_relation k p x (range_sign ∷ more) o = absurd o
prefixed_relation k p x (vowel_sign ∷ more) o = refl
prefixed_relation k p x (string s ∷ more) o = absurd o
prefixed_relation k p x (bracket words ∷ more) o = refl
prefixed_relation k p x (set_bracket word ranges ∷ more) o = refl

relation_says : (k : Strength) (prefix x extension : List ℕ) (more : List Token) → Opens more → relation_by k (prefix_tokens prefix ++ string x ∷ extension_tokens extension ++ more) ≡ (relates k prefix x extension, more)
relation_says k [] x [] more o = whole_relation k x more o
relation_says k [] x (c ∷ extension) more o = refl
relation_says k (c ∷ prefix) x [] more o = prefixed_relation k (c ∷ prefix) x more o
relation_says k (c ∷ prefix) x (d ∷ extension) more o = refl

no_more_ranges : (s : List ℕ) (more : List Token) → Opens more → ranges_by s more ≡ (map single s, more)
no_more_ranges s [] o = refl
no_more_ranges s (reset_sign ∷ more) o = refl
no_more_ranges s (relation_sign strength starred ∷ more) o = refl
no_more_ranges s (prefix_sign ∷ more) o = absurd o
no_more_ranges s (extension_sign ∷ more) o = absurd o
no_more_ranges s (range_sign ∷ more) o = absurd o
no_more_ranges s (vowel_sign ∷ more) o = refl
no_more_ranges s (string x ∷ more) o = absurd o
no_more_ranges s (bracket words ∷ more) o = refl
no_more_ranges s (set_bracket word ranges ∷ more) o = refl

front_is : (cs : List ℕ) (last : ℕ) → all_but_last (cs ++ last ∷ []) ≡ cs
front_is [] last = refl
front_is (c ∷ []) last = refl
front_is (c ∷ d ∷ cs) last = ap (λ t. c ∷ t) (front_is (d ∷ cs) last)

last_is : (cs : List ℕ) (last : ℕ) → last_of (cs ++ last ∷ []) ≡ last
last_is [] last = refl
last_is (c ∷ []) last = refl
last_is (c ∷ d ∷ cs) last = last_is (d ∷ cs) last

ranges_say : (s : List ℕ) (others : List (List ℕ)) (ranges : List CharacterRange) (more : List Token) → NameRanges s others ranges → Opens more → ranges_by s (dashed_tokens others ++ more) ≡ (ranges, more)
ranges_say s [] ranges more e o = no_more_ranges s more o ∙ ap (λ r. (r, more)) (sym e)
ranges_say s ([] ∷ others) ranges more n o = absurd n
ranges_say s ((c ∷ next) ∷ others) ranges more (front, last, rest, le, same, named, e) o =
    let f : all_but_last s ≡ front = ap all_but_last same ∙ front_is front last in
    let l : last_of s ≡ last = ap last_of same ∙ last_is front last in
    let h = ranges_say next others rest more named o in
    ap (λ t. (map single t ++ record { first = last_of s; last = c } ∷ (ranges_by next (dashed_tokens others ++ more)).0, (ranges_by next (dashed_tokens others ++ more)).1)) f
    ∙ ap (λ k. (map single front ++ record { first = k; last = c } ∷ (ranges_by next (dashed_tokens others ++ more)).0, (ranges_by next (dashed_tokens others ++ more)).1)) l
    ∙ ap (λ p. (map single front ++ record { first = last; last = c } ∷ p.0, p.1)) h ∙ ap (λ r. (r, more)) (sym e)

-- one token in brackets
one_bracket : (words : List (List ℕ)) (mine more : List Token) (s : Saying) → mine ≡ bracket words ∷ [] → words_saying words ≡ s → first_saying (mine ++ more) ≡ (s, more)
one_bracket words mine more s e h = ap (λ t. first_saying (t ++ more)) e ∙ ap (λ k. (k, more)) h

alternate_says : (handling : AlternateHandling) (word : List ℕ) → IsAlternateWord handling word → words_saying (codes "alternate" ∷ word ∷ []) ≡ sets (settings.Alternate handling)
alternate_says NonIgnorable word e = ap (λ w. words_saying (codes "alternate" ∷ w ∷ [])) e
alternate_says Shifted word e = ap (λ w. words_saying (codes "alternate" ∷ w ∷ [])) e
alternate_says Blanked word e = absurd e

groups_say : (groups : List (String Global)) (words : List (List ℕ)) → WriteWords groups words → map encode_utf8_all words ≡ map string_bytes groups
groups_say [] words e = ap (map encode_utf8_all) e
groups_say (group ∷ groups) words (word, rest, w, more, e) =
    ap (map encode_utf8_all) e ∙ ap (λ k. k ∷ map encode_utf8_all rest) (sym w) ∙ ap (λ t. string_bytes group ∷ t) (groups_say groups rest more)

setting_says : (setting : RuleSetting) (mine more : List Token) → AreSetting setting mine → first_saying (mine ++ more) ≡ (setting_saying setting, more)
setting_says (settings.Strength level) mine more e =
    one_bracket (codes "strength" ∷ level_word level ∷ []) mine more (sets (settings.Strength level)) e
    (ap (λ k. sets (settings.Strength k)) (level_is level))
setting_says (settings.Alternate handling) mine more (word, w, e) =
    one_bracket (codes "alternate" ∷ word ∷ []) mine more (sets (settings.Alternate handling)) e (alternate_says handling word w)
setting_says (settings.MaxVariable Space) mine more e = ap (λ t. first_saying (t ++ more)) e
setting_says (settings.MaxVariable Punctuation) mine more e = ap (λ t. first_saying (t ++ more)) e
setting_says (settings.MaxVariable Symbol) mine more e = ap (λ t. first_saying (t ++ more)) e
setting_says (settings.MaxVariable Currency) mine more e = ap (λ t. first_saying (t ++ more)) e
setting_says (settings.CaseFirst case_firsts.False) mine more e = ap (λ t. first_saying (t ++ more)) e
setting_says (settings.CaseFirst case_firsts.Lower) mine more e = ap (λ t. first_saying (t ++ more)) e
setting_says (settings.CaseFirst case_firsts.Upper) mine more e = ap (λ t. first_saying (t ++ more)) e
setting_says (settings.CaseLevel case_levels.Off) mine more e = ap (λ t. first_saying (t ++ more)) e
setting_says (settings.CaseLevel case_levels.On) mine more e = ap (λ t. first_saying (t ++ more)) e
setting_says (settings.NumericOrdering numeric.False) mine more e = ap (λ t. first_saying (t ++ more)) e
setting_says (settings.NumericOrdering numeric.True) mine more e = ap (λ t. first_saying (t ++ more)) e
setting_says settings.Backwards mine more e = ap (λ t. first_saying (t ++ more)) e
setting_says (settings.Normalization true) mine more e = ap (λ t. first_saying (t ++ more)) e
setting_says (settings.Normalization false) mine more e = ap (λ t. first_saying (t ++ more)) e
setting_says settings.HiraganaQuaternaryOff mine more e = ap (λ t. first_saying (t ++ more)) e
setting_says settings.VowelSign mine more e = ap (λ t. first_saying (t ++ more)) e
setting_says (settings.Reorder groups) mine more (words, w, n, e) =
    one_bracket (codes "reorder" ∷ words) mine more (reorders (map string_bytes groups.items)) e
    (ap reorders (groups_say groups.items words w))
setting_says (settings.SuppressContractions ranges) mine more (stated, of, e) = ap (λ t. first_saying (t ++ more)) e
setting_says (settings.Optimize ranges) mine more (stated, of, e) = ap (λ t. first_saying (t ++ more)) e

statement_says : (statement : Statement) (mine more : List Token) → AreStatement statement mine → Opens more → first_saying (mine ++ more) ≡ (saying statement, more)
statement_says (statements.Reset reset) mine more (first, second, b, a, e) o =
    ap first_saying (ap (λ t. t ++ more) e ∙ append_assoc (reset_sign ∷ first) second more)
    ∙ reset_says reset.before reset.anchor first second more b a
statement_says (statements.Relation r) mine more (context, e) o =
    ap (λ t. first_saying (t ++ more)) e ∙ relation_says r.strength r.prefix.items r.string.items r.extension.items more o
statement_says (statements.Starred r) mine more (first, others, n, inert, e) o =
    ap (λ t. first_saying (t ++ more)) e ∙ ap (starred_by r.strength) (ranges_say first others r.ranges.items more n o)
statement_says (statements.Setting setting) mine more a o = setting_says setting mine more a
statement_says (statements.Import tag) mine more (word, w, e) o =
    one_bracket (codes "import" ∷ word ∷ []) mine more (imports (string_bytes tag)) e (ap imports (sym w))

-- ---- statements, one after another

-- what a statement begins with
abbrev Starts : List Token → Type 0
Starts (reset_sign ∷ more) = Unit {0}
Starts (relation_sign k starred ∷ more) = Unit {0}
Starts (vowel_sign ∷ more) = Unit {0}
Starts (bracket words ∷ more) = Unit {0}
Starts (set_bracket word ranges ∷ more) = Unit {0}
Starts tokens = ⊥

starts_opens : (tokens : List Token) → Starts tokens → Opens tokens
starts_opens [] s = tt
starts_opens (reset_sign ∷ more) s = tt
starts_opens (relation_sign k starred ∷ more) s = tt
starts_opens (prefix_sign ∷ more) s = s
starts_opens (extension_sign ∷ more) s = s
starts_opens (range_sign ∷ more) s = s
starts_opens (vowel_sign ∷ more) s = tt
starts_opens (string x ∷ more) s = s
starts_opens (bracket words ∷ more) s = tt
starts_opens (set_bracket word ranges ∷ more) s = tt

setting_starts : (setting : RuleSetting) (mine more : List Token) → AreSetting setting mine → Starts (mine ++ more)
setting_starts (settings.Strength level) mine more e = subst (λ t. Starts (t ++ more)) (sym e) tt
setting_starts (settings.Alternate handling) mine more (word, w, e) = subst (λ t. Starts (t ++ more)) (sym e) tt
setting_starts (settings.MaxVariable group) mine more e = subst (λ t. Starts (t ++ more)) (sym e) tt
setting_starts (settings.CaseFirst first) mine more e = subst (λ t. Starts (t ++ more)) (sym e) tt
setting_starts (settings.CaseLevel level) mine more e = subst (λ t. Starts (t ++ more)) (sym e) tt
setting_starts (settings.NumericOrdering ordering) mine more e = subst (λ t. Starts (t ++ more)) (sym e) tt
setting_starts settings.Backwards mine more e = subst (λ t. Starts (t ++ more)) (sym e) tt
setting_starts (settings.Normalization on) mine more e = subst (λ t. Starts (t ++ more)) (sym e) tt
setting_starts settings.HiraganaQuaternaryOff mine more e = subst (λ t. Starts (t ++ more)) (sym e) tt
setting_starts settings.VowelSign mine more e = subst (λ t. Starts (t ++ more)) (sym e) tt
setting_starts (settings.Reorder groups) mine more (words, w, n, e) = subst (λ t. Starts (t ++ more)) (sym e) tt
setting_starts (settings.SuppressContractions ranges) mine more (stated, of, e) = subst (λ t. Starts (t ++ more)) (sym e) tt
setting_starts (settings.Optimize ranges) mine more (stated, of, e) = subst (λ t. Starts (t ++ more)) (sym e) tt

statement_starts : (statement : Statement) (mine more : List Token) → AreStatement statement mine → Starts (mine ++ more)
statement_starts (statements.Reset reset) mine more (first, second, b, a, e) = subst (λ t. Starts (t ++ more)) (sym e) tt
statement_starts (statements.Relation r) mine more (context, e) = subst (λ t. Starts (t ++ more)) (sym e) tt
statement_starts (statements.Starred r) mine more (first, others, n, inert, e) = subst (λ t. Starts (t ++ more)) (sym e) tt
statement_starts (statements.Setting setting) mine more a = setting_starts setting mine more a
statement_starts (statements.Import tag) mine more (word, w, e) = subst (λ t. Starts (t ++ more)) (sym e) tt

statements_open : (stated : List Statement) (tokens : List Token) → AreStatements stated tokens → Opens tokens
statements_open [] tokens e = subst Opens (sym e) tt
statements_open (statement ∷ more) tokens (mine, rest, a, m, e) =
    subst Opens (sym e) (starts_opens (mine ++ rest) (statement_starts statement mine rest a))

nothing_stated : (statement : Statement) (mine rest : List Token) → AreStatement statement mine → [] ≡ mine ++ rest → ⊥
nothing_stated statement mine rest a e =
    let s : Starts [] = subst Starts (sym e) (statement_starts statement mine rest a) in s

both_parts : {p q : Saying × List Token} → p ≡ q → (p.0 ≡ q.0) × (p.1 ≡ q.1)
both_parts e = (ap (λ (p : Saying × List Token). p.0) e, ap (λ (p : Saying × List Token). p.1) e)

-- ---- sets

-- whether the set that tokens begin with has a character
abbrev first_has : List Token → ℕ → Option Bool
first_has (set_bracket word stated ∷ more) c = parts_have c [] stated
first_has tokens c = Some false

setting_has : (setting : RuleSetting) (mine more : List Token) (c : ℕ) → IsScalar c → AreSetting setting mine → first_has (mine ++ more) c ≡ Some (have_character (ranges_of_setting setting) c)
setting_has (settings.Strength level) mine more c k e = ap (λ t. first_has (t ++ more) c) e
setting_has (settings.Alternate handling) mine more c k (word, w, e) = ap (λ t. first_has (t ++ more) c) e
setting_has (settings.MaxVariable group) mine more c k e = ap (λ t. first_has (t ++ more) c) e
setting_has (settings.CaseFirst first) mine more c k e = ap (λ t. first_has (t ++ more) c) e
setting_has (settings.CaseLevel level) mine more c k e = ap (λ t. first_has (t ++ more) c) e
setting_has (settings.NumericOrdering ordering) mine more c k e = ap (λ t. first_has (t ++ more) c) e
setting_has settings.Backwards mine more c k e = ap (λ t. first_has (t ++ more) c) e
setting_has (settings.Normalization on) mine more c k e = ap (λ t. first_has (t ++ more) c) e
setting_has settings.HiraganaQuaternaryOff mine more c k e = ap (λ t. first_has (t ++ more) c) e
setting_has settings.VowelSign mine more c k e = ap (λ t. first_has (t ++ more) c) e
setting_has (settings.Reorder groups) mine more c k (words, w, n, e) = ap (λ t. first_has (t ++ more) c) e
setting_has (settings.SuppressContractions ranges) mine more c k (stated, of, e) = ap (λ t. first_has (t ++ more) c) e ∙ of c k
setting_has (settings.Optimize ranges) mine more c k (stated, of, e) = ap (λ t. first_has (t ++ more) c) e ∙ of c k

statement_has : (statement : Statement) (mine more : List Token) (c : ℕ) → IsScalar c → AreStatement statement mine → first_has (mine ++ more) c ≡ Some (have_character (ranges_of_set statement) c)
statement_has (statements.Reset reset) mine more c k (first, second, b, a, e) = ap (λ t. first_has (t ++ more) c) e
statement_has (statements.Relation r) mine more c k (context, e) = ap (λ t. first_has (t ++ more) c) e
statement_has (statements.Starred r) mine more c k (first, others, n, inert, e) = ap (λ t. first_has (t ++ more) c) e
statement_has (statements.Setting setting) mine more c k a = setting_has setting mine more c k a
statement_has (statements.Import tag) mine more c k (word, w, e) = ap (λ t. first_has (t ++ more) c) e

some_truth : {a b : Bool} → Some a ≡ Some b → a ≡ b
some_truth e = cc

-- Statements that have the same tokens say the same, and their sets have the same characters.
pub says_once : (first second : List Statement) (tokens others : List Token) → AreStatements first tokens → AreStatements second others → tokens ≡ others → (map saying first ≡ map saying second) × AllZip SetsAgree first second
says_once [] [] tokens others e f h = (refl, tt)
says_once [] (s ∷ second) tokens others e (mine, rest, a, m, f) h =
    absurd (nothing_stated s mine rest a (sym e ∙ h ∙ f))
says_once (s ∷ first) [] tokens others (mine, rest, a, m, e) f h =
    absurd (nothing_stated s mine rest a (sym f ∙ sym h ∙ e))
says_once (s ∷ first) (t ∷ second) tokens others (ma, ra, aa, na, ea) (mb, rb, ab, nb, eb) h =
    let p = statement_says s ma ra aa (statements_open first ra na) in
    let q = statement_says t mb rb ab (statements_open second rb nb) in
    let same : ma ++ ra ≡ mb ++ rb = sym ea ∙ h ∙ eb in
    let r = both_parts (sym p ∙ ap first_saying same ∙ q) in
    let more = says_once first second ra rb na nb r.1 in (
      ap (λ k. k ∷ map saying first) r.0 ∙ ap (λ k. saying t ∷ k) more.0,
      (
        λ c k. some_truth (sym (statement_has s ma ra c k aa) ∙ ap (λ u. first_has u c) same ∙ statement_has t mb rb c k ab),
        more.1,
      ),
    )
