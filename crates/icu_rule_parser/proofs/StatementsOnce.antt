-- The tokens of statements stand apart, so a text spells them in one way only.
use Rattle.std.proofs.Common.{ℕ, Option, Some, None, List, [], ◌∷◌, ◌++◌, ◌≡◌, ap, ◌∙◌, sym, subst, append_assoc}
use Rattle.icu_options.specs.declared.settings.Strength.{Strength}
use Rattle.icu_rule_parser.specs.declared.statement.Anchor.{Anchor}
use Rattle.icu_rule_parser.specs.declared.statement.Anchor.TheVariants as anchors
use Rattle.icu_rule_parser.specs.declared.statement.Reset.{Reset}
use Rattle.icu_rule_parser.specs.declared.statement.Relation.{Relation}
use Rattle.icu_rule_parser.specs.declared.statement.StarredRelation.{StarredRelation}
use Rattle.icu_rule_parser.specs.declared.statement.RuleSetting.{RuleSetting}
use Rattle.icu_rule_parser.specs.declared.statement.RuleSetting.TheVariants as settings
use Rattle.icu_rule_parser.specs.declared.statement.Statement.{Statement}
use Rattle.icu_rule_parser.specs.declared.statement.Statement.TheVariants as statements
use Rattle.icu_rule_parser.specs.Tokens.{Token, reset_sign, string, bracket}
use Rattle.icu_rule_parser.specs.Statements.{AreBefore, AreAnchor, AreReset, prefix_tokens, extension_tokens, AreRelation, dashed_tokens, AreStarred, AreSetting, AreStatement, AreStatements, SpellStatements}
use Rattle.icu_rule_parser.proofs.TokensOnce.{NoString, SomeString, AreApart, tokens_once}

-- the tokens stand apart, and a string may stand before them
abbrev Stands : List Token → Type 0
Stands tokens = AreApart tokens × NoString tokens

bracket_stands : {words : List (List ℕ)} {mine : List Token} → mine ≡ bracket words ∷ [] → (more : List Token) → Stands more → Stands (mine ++ more)
bracket_stands e more h = subst (λ t. Stands (t ++ more)) (sym e) ((tt, h.0), tt)

anchor_stands : (anchor : Anchor) (mine : List Token) → AreAnchor anchor mine → (more : List Token) → Stands more → AreApart (mine ++ more)
anchor_stands (anchors.String s) mine e more h = subst (λ t. AreApart (t ++ more)) (sym e) (h.1, h.0)
anchor_stands (anchors.Position position) mine (words, n, e) more h = subst (λ t. AreApart (t ++ more)) (sym e) (tt, h.0)

before_stands : (before : Option Strength) (mine : List Token) → AreBefore before mine → (more : List Token) → AreApart more → AreApart (mine ++ more)
before_stands None mine e more h = subst (λ t. AreApart (t ++ more)) (sym e) h
before_stands (Some level) mine (q, i, e) more h = subst (λ t. AreApart (t ++ more)) (sym e) (tt, h)

reset_stands : (reset : Reset) (mine : List Token) → AreReset reset mine → (more : List Token) → Stands more → Stands (mine ++ more)
reset_stands reset mine (before, anchor, b, a, e) more h =
    subst Stands (sym (ap (λ t. t ++ more) e ∙ append_assoc (reset_sign ∷ before) anchor more))
    ((tt, before_stands reset.before before b (anchor ++ more) (anchor_stands reset.anchor anchor a more h)), tt)

parts_stand : (prefix s extension : List ℕ) (more : List Token) → Stands more → AreApart (prefix_tokens prefix ++ string s ∷ extension_tokens extension ++ more) × SomeString (prefix_tokens prefix ++ string s ∷ extension_tokens extension ++ more)
parts_stand [] s [] more h = ((h.1, h.0), tt)
parts_stand [] s (c ∷ extension) more h = ((tt, (tt, (h.1, h.0))), tt)
parts_stand (c ∷ prefix) s [] more h = ((tt, (tt, (h.1, h.0))), tt)
parts_stand (c ∷ prefix) s (d ∷ extension) more h = ((tt, (tt, (tt, (tt, (h.1, h.0))))), tt)

relation_stands : (r : Relation) (mine : List Token) → AreRelation r mine → (more : List Token) → Stands more → Stands (mine ++ more)
relation_stands r mine (context, e) more h =
    let p = parts_stand r.prefix.items r.string.items r.extension.items more h in
    subst (λ t. Stands (t ++ more)) (sym e) ((p.1, p.0), tt)

dashed_stand : (others : List (List ℕ)) (more : List Token) → Stands more → Stands (dashed_tokens others ++ more)
dashed_stand [] more h = h
dashed_stand (next ∷ others) more h =
    let p = dashed_stand others more h in ((tt, (p.1, p.0)), tt)

starred_stands : (r : StarredRelation) (mine : List Token) → AreStarred r mine → (more : List Token) → Stands more → Stands (mine ++ more)
starred_stands r mine (first, others, named, inert, e) more h =
    let p = dashed_stand others more h in subst (λ t. Stands (t ++ more)) (sym e) ((tt, (p.1, p.0)), tt)

setting_stands : (setting : RuleSetting) (mine : List Token) → AreSetting setting mine → (more : List Token) → Stands more → Stands (mine ++ more)
setting_stands (settings.Strength level) mine e more h = bracket_stands e more h
setting_stands (settings.Alternate handling) mine (word, n, e) more h = bracket_stands e more h
setting_stands (settings.MaxVariable group) mine e more h = bracket_stands e more h
setting_stands (settings.CaseFirst first) mine e more h = bracket_stands e more h
setting_stands (settings.CaseLevel level) mine e more h = bracket_stands e more h
setting_stands (settings.NumericOrdering ordering) mine e more h = bracket_stands e more h
setting_stands settings.Backwards mine e more h = bracket_stands e more h
setting_stands (settings.Normalization on) mine e more h = bracket_stands e more h
setting_stands settings.HiraganaQuaternaryOff mine e more h = bracket_stands e more h
setting_stands settings.VowelSign mine e more h = subst (λ t. Stands (t ++ more)) (sym e) ((tt, h.0), tt)
setting_stands (settings.Reorder groups) mine (words, w, n, e) more h = bracket_stands e more h
setting_stands (settings.SuppressContractions ranges) mine (stated, of, e) more h =
    subst (λ t. Stands (t ++ more)) (sym e) ((tt, h.0), tt)
setting_stands (settings.Optimize ranges) mine (stated, of, e) more h = subst (λ t. Stands (t ++ more)) (sym e) ((tt, h.0), tt)

statement_stands : (statement : Statement) (mine : List Token) → AreStatement statement mine → (more : List Token) → Stands more → Stands (mine ++ more)
statement_stands (statements.Reset reset) mine a more h = reset_stands reset mine a more h
statement_stands (statements.Relation r) mine a more h = relation_stands r mine a more h
statement_stands (statements.Starred r) mine a more h = starred_stands r mine a more h
statement_stands (statements.Setting setting) mine a more h = setting_stands setting mine a more h
statement_stands (statements.Import tag) mine (word, w, e) more h = bracket_stands e more h

statements_stand : (stated : List Statement) (tokens : List Token) → AreStatements stated tokens → Stands tokens
statements_stand [] tokens e = subst Stands (sym e) (tt, tt)
statements_stand (statement ∷ more) tokens (mine, rest, a, m, e) =
    subst Stands (sym e) (statement_stands statement mine a rest (statements_stand more rest m))

-- Two lists of statements that one text spells have the same tokens.
pub same_tokens : (first second : List Statement) (text : List ℕ) (a : SpellStatements first text) (b : SpellStatements second text) → a.tokens ≡ b.tokens
same_tokens first second text a b =
    tokens_once a.tokens b.tokens text (statements_stand first a.tokens a.each).0 (statements_stand second b.tokens b.each).0 a.spelled b.spelled
