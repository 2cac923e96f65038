-- What is wrong behind the statements that are read.
use Rattle.std.proofs.Common.{ℕ, ◌+◌, ◌-◌, Bool, true, false, cond, nat_eq, ◌≡◌, ◌≢◌, ◌≤◌, ◌<◌, ◌⊎◌, inl, inr, List, [], ◌∷◌, ◌++◌, length, Result, Ok, Err, IfErr, ap, ◌∙◌, sym, refl, subst, append_assoc, arith, length-append}
use Rattle.std.specs.Prelude.{codes}
use Rattle.std.specs.Result.{IsErrAnd}
use Rattle.std.proofs.lemmas.Bool.{cases_Bool}
use Rattle.std.proofs.lemmas.Bool.Decides.{nat_tests}
use Rattle.std.proofs.lemmas.List.{append-nil}
use Rattle.icu_options.specs.declared.settings.Strength.{Strength}
use Rattle.icu_options.specs.declared.settings.Strength.TheVariants.{Primary, Secondary, Tertiary, Quaternary, Identical}
use Rattle.icu_rule_parser.specs.declared.chain.Chain.{Chain}
use Rattle.icu_rule_parser.specs.declared.chain.Chain.TheVariants as chains
use Rattle.icu_rule_parser.specs.declared.rules_error.RulesErrorKind.{RulesErrorKind}
use Rattle.icu_rule_parser.specs.declared.relations.Sign.{Sign}
use Rattle.icu_rule_parser.specs.declared.unplaced_error.UnplacedError.{UnplacedError}
use Rattle.icu_rule_parser.specs.declared.unplaced_error.UnplacedError.TheVariants.{NoMemory, Refused}
use Rattle.icu_rule_parser.specs.declared.statement.RuleSetting.{RuleSetting}
use Rattle.icu_rule_parser.specs.declared.statement.RuleSetting.TheVariants as settings
use Rattle.icu_rule_parser.specs.declared.statement.Statement.{Statement}
use Rattle.icu_rule_parser.specs.declared.statement.Statement.TheVariants as statements
use Rattle.icu_rule_parser.specs.RuleCharacters.{BeginsNoBlank}
use Rattle.icu_rule_parser.specs.Tokens.{Token, reset_sign, relation_sign, vowel_sign, string, bracket, set_bracket, IsRelationSign, SpellsTokens, angles_before, level_of_angles, strength_at}
use Rattle.icu_rule_parser.specs.Statements.{AreStatement, AreSetting, AreStatements, MayRelate, MayFollow, IsComplete, chain_after, relation_parts, prefix_tokens, extension_tokens, dashed_tokens}
use Rattle.icu_rule_parser.specs.RulePlaces.{FaultSort, IsFault, misplaced, lacks_relation, of_part, sort_of, BeginOne, IsWithinStatement, AreInLine, chain_behind, AreRead, BeginsStatement, BeginsNoSign, IsAtFault, LacksRelation, IsPlacedFault}
use Rattle.icu_rule_parser.specs.TakenStatements.{TakesSign}
use Rattle.icu_rule_parser.specs.TakenFaults.{IsPart, IsLeftBehind, BeginsNoOther, IsOtherFault, IsLeft, IsFaultHere, IsFaultIn, in_text}
use Rattle.icu_rule_parser.proofs.SkipLemmas.{nil_parts, token_nonempty}
use Rattle.icu_rule_parser.proofs.StringOnce.{not_both, head_same}
use Rattle.icu_rule_parser.proofs.WordsOnce.{StopsAt}
use Rattle.icu_rule_parser.proofs.TokensOnce.{IsVisible, blank_head, Kind, resets, relates, ends_prefix, extends, spans, marks_vowels, spells, brackets, kind, kind_at, starts, is_sign, SomeString, sign_ended}
use Rattle.icu_rule_parser.proofs.ParsingLemmas.{Told, nothing_left}

-- ---- what a text begins with

pub visible_from : (text : List ℕ) → BeginsNoBlank text → 0 < length text → IsVisible text
visible_from [] v some = absurd (omega arith)
visible_from (c ∷ text) v some = v

-- the first character, where this is the first token
first_at : (token : Token) (more : List Token) (mine after : List ℕ) {text : List ℕ} → SpellsTokens (token ∷ more) mine → text ≡ mine ++ after → IsVisible text → (c : ℕ) × (rest : List ℕ) × (kind_at c ≡ kind token) × (text ≡ c ∷ rest)
first_at token more mine after ([], m, r, b, s, k, e) f v =
    let p = starts token m s in
    (p.0, (p.1 ++ r) ++ after, p.2, f ∙ ap (λ t. t ++ after) (e ∙ ap (λ t. t ++ r) p.5))
first_at token more mine after (b ∷ bs, m, r, h, s, k, e) f v =
    let w : IsVisible (b ∷ (((bs ++ m) ++ r) ++ after)) = subst IsVisible (f ∙ ap (λ t. t ++ after) e) v in
    absurd (blank_head b bs h w.0 w.1)

-- whether a statement begins with a token of this kind
abbrev begins_statement : Kind → Bool
begins_statement resets = true
begins_statement relates = true
begins_statement marks_vowels = true
begins_statement brackets = true
begins_statement k = false

-- the kind of the first token of a statement
abbrev StartsAs : Statement → Kind → Type 0
StartsAs (statements.Reset reset) k = k ≡ resets
StartsAs (statements.Relation r) k = k ≡ relates
StartsAs (statements.Starred r) k = k ≡ relates
StartsAs (statements.Setting setting) k = (k ≡ brackets) ⊎ (k ≡ marks_vowels)
StartsAs (statements.Import tag) k = k ≡ brackets

-- the first token of a statement
abbrev First : Statement → List Token → Type 0
First s tokens = (token : Token) × (more : List Token) × StartsAs s (kind token) × (tokens ≡ token ∷ more)

-- the first token of a setting
abbrev FirstOfSetting : List Token → Type 0
FirstOfSetting tokens = (token : Token) × (more : List Token) × ((kind token ≡ brackets) ⊎ (kind token ≡ marks_vowels))
    × (tokens ≡ token ∷ more)

first_bracket : {words : List (List ℕ)} (tokens : List Token) → tokens ≡ bracket words ∷ [] → FirstOfSetting tokens
first_bracket {words} tokens e = (bracket words, [], inl refl, e)

first_of_setting : (setting : RuleSetting) (tokens : List Token) → AreSetting setting tokens → FirstOfSetting tokens
first_of_setting (settings.Strength level) tokens e = first_bracket tokens e
first_of_setting (settings.Alternate handling) tokens (word, n, e) = first_bracket tokens e
first_of_setting (settings.MaxVariable group) tokens e = first_bracket tokens e
first_of_setting (settings.CaseFirst first) tokens e = first_bracket tokens e
first_of_setting (settings.CaseLevel level) tokens e = first_bracket tokens e
first_of_setting (settings.NumericOrdering ordering) tokens e = first_bracket tokens e
first_of_setting settings.Backwards tokens e = first_bracket tokens e
first_of_setting (settings.Normalization on) tokens e = first_bracket tokens e
first_of_setting settings.HiraganaQuaternaryOff tokens e = first_bracket tokens e
first_of_setting settings.VowelSign tokens e = (vowel_sign, [], inr refl, e)
first_of_setting (settings.Reorder groups) tokens (words, w, n, e) = first_bracket tokens e
first_of_setting (settings.SuppressContractions ranges) tokens (stated, of, e) =
    (set_bracket (codes "suppressContractions") stated, [], inl refl, e)
first_of_setting (settings.Optimize ranges) tokens (stated, of, e) = (set_bracket (codes "optimize") stated, [], inl refl, e)

first_of : (s : Statement) (tokens : List Token) → AreStatement s tokens → First s tokens
first_of (statements.Reset reset) tokens (before, anchor, b, a, e) = (reset_sign, before ++ anchor, refl, e)
first_of (statements.Relation r) tokens (context, e) = (relation_sign r.strength false, relation_parts r, refl, e)
first_of (statements.Starred r) tokens (first, more, named, inert, e) =
    (relation_sign r.strength true, string first ∷ dashed_tokens more, refl, e)
first_of (statements.Setting setting) tokens a = first_of_setting setting tokens a
first_of (statements.Import tag) tokens (word, w, e) = (bracket (codes "import" ∷ word ∷ []), [], refl, e)

starts_one : (s : Statement) (k : Kind) → StartsAs s k → begins_statement k ≡ true
starts_one (statements.Reset reset) k e = ap begins_statement e
starts_one (statements.Relation r) k e = ap begins_statement e
starts_one (statements.Starred r) k e = ap begins_statement e
starts_one (statements.Setting setting) k (inl e) = ap begins_statement e
starts_one (statements.Setting setting) k (inr e) = ap begins_statement e
starts_one (statements.Import tag) k e = ap begins_statement e

-- the first character of a statement
character_of : (s : Statement) (tokens : List Token) (mine after : List ℕ) {text : List ℕ} → AreStatement s tokens → SpellsTokens tokens mine → text ≡ mine ++ after → IsVisible text → (c : ℕ) × (rest : List ℕ) × StartsAs s (kind_at c) × (text ≡ c ∷ rest)
character_of s tokens mine after are spelled e v =
    let p = first_of s tokens are in
    let q = first_at p.0 p.1 mine after (subst (λ ts. SpellsTokens ts mine) p.3 spelled) e v in
    (q.0, q.1, subst (λ k. StartsAs s k) (sym q.2) p.2, q.3)

-- ---- no statement

differs : (k c : ℕ) → c ≢ k → nat_eq c k ≡ false
differs k c h = grind (arith, nat_tests)

neither : (b : Bool) (x y : Kind) → begins_statement x ≡ false → begins_statement y ≡ false → begins_statement (cond b x y) ≡ false
neither true x y h k = h
neither false x y h k = k

no_kind : (c : ℕ) → (c ≢ 60) × (c ≢ 61) × (c ≢ 59) × (c ≢ 44) → (c ≢ 38) × (c ≢ 91) × (c ≢ 64) × (c ≢ 33) → begins_statement (kind_at c) ≡ false
no_kind c (h60, h61, h59, h44) (h38, h91, h64, h33) =
    rw (differs 38 c h38, differs 60 c h60, differs 61 c h61, differs 59 c h59, differs 44 c h44, differs 33 c h33, differs 91 c h91, differs 64 c h64)
    (neither (nat_eq c 124) ends_prefix (cond (nat_eq c 47) extends (cond (nat_eq c 45) spans spells)) refl
    (neither (nat_eq c 47) extends (cond (nat_eq c 45) spans spells) refl (neither (nat_eq c 45) spans spells refl refl)))

pub no_statement : (chain : Chain) (text : List ℕ) → IsVisible text → BeginsNoSign text → BeginsNoOther text → BeginsStatement chain text → ⊥
no_statement chain text v a b s =
    let p = character_of s.statement s.tokens s.mine s.after s.are s.spelled s.whole v in
    let signs : BeginsNoSign (p.0 ∷ p.1) = subst BeginsNoSign p.3 a in
    let others : BeginsNoOther (p.0 ∷ p.1) = subst BeginsNoOther p.3 b in
    not_both (starts_one s.statement (kind_at p.0) p.2) (no_kind p.0 signs others)

-- ---- a relation that may not stand here

stops_count : (text : List ℕ) → StopsAt is_sign text → angles_before text ≡ 0
stops_count [] h = refl
stops_count (c ∷ text) h = elim (cases_Bool (nat_eq c 60)) [
  | inl e ↦ let p : c ≡ 60 = grind (arith, nat_tests) in absurd (not_both (subst (λ k. is_sign k ≡ true) (sym p) refl) h)
  | inr e ↦ ap (λ b. cond b (angles_before text + 1) 0) e
]

-- what is not followed by one more
none_count : (text : List ℕ) → ((rest : List ℕ) → text ≢ 60 ∷ rest) → angles_before text ≡ 0
none_count [] h = refl
none_count (c ∷ text) h = elim (cases_Bool (nat_eq c 60)) [
  | inl e ↦ let p : c ≡ 60 = grind (arith, nat_tests) in absurd (h text (ap (λ k. k ∷ text) p))
  | inr e ↦ ap (λ b. cond b (angles_before text + 1) 0) e
]

one_angle : (text : List ℕ) → angles_before text ≡ 0 → strength_at (60 ∷ text) ≡ Primary
one_angle text h = ap (λ n. level_of_angles (n + 1)) h

two_angles : (text : List ℕ) → angles_before text ≡ 0 → strength_at (60 ∷ 60 ∷ text) ≡ Secondary
two_angles text h = ap (λ n. level_of_angles (n + 1 + 1)) h

three_angles : (text : List ℕ) → angles_before text ≡ 0 → strength_at (60 ∷ 60 ∷ 60 ∷ text) ≡ Tertiary
three_angles text h = ap (λ n. level_of_angles (n + 1 + 1 + 1)) h

more_angles : (n : ℕ) → 4 ≤ n → level_of_angles n ≡ Quaternary
more_angles n h =
    rw (differs 0 n (λ e. absurd (omega (arith, h, e))), differs 1 n (λ e. absurd (omega (arith, h, e))), differs 2 n (λ e. absurd (omega (arith, h, e))), differs 3 n (λ e. absurd (omega (arith, h, e)))) refl

four_angles : (text : List ℕ) → strength_at (60 ∷ 60 ∷ 60 ∷ 60 ∷ text) ≡ Quaternary
four_angles text = more_angles (angles_before text + 1 + 1 + 1 + 1) (omega arith)

pub longest_one : {s : Strength} (text : List ℕ) → s ≡ Primary → ((rest : List ℕ) → text ≢ 60 ∷ rest) → s ≡ strength_at (60 ∷ text)
longest_one text h n = h ∙ sym (one_angle text (none_count text n))

pub longest_two : {s : Strength} (text second : List ℕ) → s ≡ Secondary → text ≡ 60 ∷ second → ((rest : List ℕ) → second ≢ 60 ∷ rest) → s ≡ strength_at (60 ∷ text)
longest_two text second h e n =
    h ∙ sym (ap (λ t. strength_at (60 ∷ t)) e ∙ two_angles second (none_count second n))

pub longest_three : {s : Strength} (text second third : List ℕ) → s ≡ Tertiary → text ≡ 60 ∷ second → second ≡ 60 ∷ third → ((rest : List ℕ) → third ≢ 60 ∷ rest) → s ≡ strength_at (60 ∷ text)
longest_three text second third h e f n =
    h ∙ sym (ap (λ t. strength_at (60 ∷ t)) (e ∙ ap (λ t. 60 ∷ t) f) ∙ three_angles third (none_count third n))

pub longest_four : {s : Strength} (text second third fourth : List ℕ) → s ≡ Quaternary → text ≡ 60 ∷ second → second ≡ 60 ∷ third → third ≡ 60 ∷ fourth → s ≡ strength_at (60 ∷ text)
longest_four text second third fourth h e f g =
    h ∙ sym (ap (λ t. strength_at (60 ∷ t)) (e ∙ ap (λ t. 60 ∷ t) (f ∙ ap (λ t. 60 ∷ t) g)) ∙ four_angles fourth)

-- a sign by its first character
pub longest_at : {s : Strength} (k c : ℕ) {text after : List ℕ} → text ≡ c ∷ after → c ≡ k → s ≡ strength_at (k ∷ after) → s ≡ strength_at text
longest_at k c {text} {after} e n h = h ∙ ap strength_at (sym (e ∙ ap (λ i. i ∷ after) n))

-- the strength of a sign that doesn't go on
strength_is : (strength : Strength) (starred : Bool) (sign text : List ℕ) → IsRelationSign strength starred sign → StopsAt is_sign text → strength ≡ strength_at (sign ++ text)
strength_is Primary false sign text (inl e) h = sym (ap (λ t. strength_at (t ++ text)) e ∙ one_angle text (stops_count text h))
strength_is Secondary false sign text (inl e) h = sym (ap (λ t. strength_at (t ++ text)) e ∙ two_angles text (stops_count text h))
strength_is Tertiary false sign text (inl e) h = sym (ap (λ t. strength_at (t ++ text)) e ∙ three_angles text (stops_count text h))
strength_is Quaternary false sign text (inl e) h = sym (ap (λ t. strength_at (t ++ text)) e ∙ four_angles text)
strength_is Identical false sign text (inl e) h = sym (ap (λ t. strength_at (t ++ text)) e)
strength_is Primary false sign text (inr e) h = absurd e
strength_is Secondary false sign text (inr e) h = sym (ap (λ t. strength_at (t ++ text)) e)
strength_is Tertiary false sign text (inr e) h = sym (ap (λ t. strength_at (t ++ text)) e)
strength_is Quaternary false sign text (inr e) h = absurd e
strength_is Identical false sign text (inr e) h = absurd e
strength_is Primary true sign text e h = sym (ap (λ t. strength_at (t ++ text)) e)
strength_is Secondary true sign text e h = sym (ap (λ t. strength_at (t ++ text)) e)
strength_is Tertiary true sign text e h = sym (ap (λ t. strength_at (t ++ text)) e)
strength_is Quaternary true sign text e h = sym (ap (λ t. strength_at (t ++ text)) e)
strength_is Identical true sign text e h = sym (ap (λ t. strength_at (t ++ text)) e)

pub no_sign_at : {c : ℕ} {text after : List ℕ} → text ≡ c ∷ after → (c ≢ 60) × (c ≢ 61) × (c ≢ 59) × (c ≢ 44) → BeginsNoSign text
no_sign_at e h = subst BeginsNoSign (sym e) h

pub no_sign_in : {text : List ℕ} → text ≡ [] → BeginsNoSign text
no_sign_in e = subst BeginsNoSign (sym e) tt

pub no_other_at : {c : ℕ} {text after : List ℕ} → text ≡ c ∷ after → (c ≢ 38) × (c ≢ 91) × (c ≢ 64) × (c ≢ 33) → BeginsNoOther text
no_other_at e h = subst BeginsNoOther (sym e) h

pub no_other_in : {text : List ℕ} → text ≡ [] → BeginsNoOther text
no_other_in e = subst BeginsNoOther (sym e) tt

stops_joined : (more : List Token) (text after : List ℕ) → SomeString more → SpellsTokens more text → StopsAt is_sign (text ++ after)
stops_joined [] text after n s = absurd n
stops_joined (token ∷ more) [] after n (blank, mine, rest, b, s, m, e) =
    absurd (token_nonempty token mine (nil_parts blank mine rest e) s)
stops_joined (token ∷ more) (c ∷ text) after n s = sign_ended (token ∷ more) (c ∷ text) n s

some_parts : (prefix s extension : List ℕ) → SomeString (prefix_tokens prefix ++ string s ∷ extension_tokens extension)
some_parts [] s extension = tt
some_parts (c ∷ prefix) s extension = tt

sign_strength : (strength : Strength) (starred : Bool) (more : List Token) (mine after : List ℕ) {text : List ℕ} → SomeString more → SpellsTokens (relation_sign strength starred ∷ more) mine → text ≡ mine ++ after → IsVisible text → strength ≡ strength_at text
sign_strength strength starred more mine after n ([], m, r, b, s, k, e) f v =
    strength_is strength starred m (r ++ after) s (stops_joined more r after n k)
    ∙ ap strength_at (sym (f ∙ ap (λ t. t ++ after) e ∙ append_assoc m r after))
sign_strength strength starred more mine after n (b ∷ bs, m, r, h, s, k, e) f v =
    let w : IsVisible (b ∷ (((bs ++ m) ++ r) ++ after)) = subst IsVisible (f ∙ ap (λ t. t ++ after) e) v in
    absurd (blank_head b bs h w.0 w.1)

-- the kind of what a sign begins with
sign_kind : (strength : Strength) (starred : Bool) (sign after : List ℕ) {text : List ℕ} → IsRelationSign strength starred sign → text ≡ sign ++ after → (c : ℕ) × (rest : List ℕ) × (kind_at c ≡ relates) × (text ≡ c ∷ rest)
sign_kind strength starred sign after s e =
    let p = starts (relation_sign strength starred) sign s in (p.0, p.1 ++ after, p.2, e ∙ ap (λ t. t ++ after) p.5)

-- a statement that begins with the sign of a relation that may not stand here may not either
relation_refused : (chain : Chain) (strength : Strength) (s : Statement) (tokens : List Token) (mine after : List ℕ) (c : ℕ) {text : List ℕ} → strength ≡ strength_at text → (MayRelate chain strength → ⊥) → kind_at c ≡ relates → StartsAs s (kind_at c) → AreStatement s tokens → SpellsTokens tokens mine → text ≡ mine ++ after → IsVisible text → MayFollow chain s → ⊥
relation_refused chain strength (statements.Reset reset) tokens mine after c l never k h are s e v may = let f = sym h ∙ k in cc
relation_refused chain strength (statements.Setting setting) tokens mine after c l never k (inl h) are s e v may = let f = sym h ∙ k in cc
relation_refused chain strength (statements.Setting setting) tokens mine after c l never k (inr h) are s e v may = let f = sym h ∙ k in cc
relation_refused chain strength (statements.Import tag) tokens mine after c l never k h are s e v may = let f = sym h ∙ k in cc
relation_refused chain strength (statements.Relation r) tokens mine after c l never k h (context, are) s e v may =
    let same = sign_strength r.strength false (relation_parts r) mine after
    (some_parts r.prefix.items r.string.items r.extension.items) (subst (λ ts. SpellsTokens ts mine) are s) e v in
    never (subst (λ i. MayRelate chain i) (same ∙ sym l) may)
relation_refused chain strength (statements.Starred r) tokens mine after c l never k h (first, more, named, inert, are) s e v may =
    let same = sign_strength r.strength true (string first ∷ dashed_tokens more) mine after tt
    (subst (λ ts. SpellsTokens ts mine) are s) e v in
    never (subst (λ i. MayRelate chain i) (same ∙ sym l) may)

pub no_relation : (chain : Chain) (strength : Strength) (starred : Bool) (sign behind text : List ℕ) → IsRelationSign strength starred sign → text ≡ sign ++ behind → strength ≡ strength_at text → (MayRelate chain strength → ⊥) → IsVisible text → BeginsStatement chain text → ⊥
no_relation chain strength starred sign behind text is f l never v s =
    let p = sign_kind strength starred sign behind is f in
    let q = character_of s.statement s.tokens s.mine s.after s.are s.spelled s.whole v in
    let same : p.0 ≡ q.0 = head_same (sym p.3 ∙ q.3) in
    relation_refused chain strength s.statement s.tokens s.mine s.after q.0 l never (ap kind_at (sym same) ∙ p.2) q.2
    s.are s.spelled s.whole v s.may

-- ---- the fault, with what is left

pub part_left : (e : UnplacedError) (chain : Chain) (before : ℕ) (text : List ℕ) → IsPart BeginOne e text → IsFaultHere e chain before text
part_left NoMemory chain before text p = tt
part_left (Refused left kind) chain before text p = subst (λ s. IsLeft s chain before text left) (sym p.1) p.0

pub other_left : (e : UnplacedError) (chain : Chain) (before : ℕ) (text : List ℕ) → IsVisible text → BeginsNoSign text → IsOtherFault e text → IsFaultHere e chain before text
other_left e chain before text v a (inl p) = part_left e chain before text p
other_left e chain before text v a (inr (b, same)) =
    subst (λ k. IsFaultHere k chain before text) (sym same) (refl, no_statement chain text v a b)

-- ---- the statements that are read

pub line_more : (chain : Chain) (items : List Statement) (s : Statement) → AreInLine chain items → MayFollow (chain_behind chain items) s → AreInLine chain (items ++ s ∷ [])
line_more chain [] s l may = (may, tt)
line_more chain (x ∷ items) s l may = (l.0, line_more (chain_after chain x) items s l.1 may)

pub behind_more : (chain : Chain) (items : List Statement) (s : Statement) → chain_behind chain (items ++ s ∷ []) ≡ chain_after (chain_behind chain items) s
behind_more chain [] s = refl
behind_more chain (x ∷ items) s = behind_more (chain_after chain x) items s

-- what the statements and the text read so far have in common
pub record Front (items : List Statement) (text rest : List ℕ) : Type 0 where
  pub front : List ℕ
  pub whole : text ≡ front ++ rest
  pub read : AreRead items front

pub front_of : (items : List Statement) (text rest : List ℕ) → Told items text rest → AreInLine chains.Outside items → Front items text rest
front_of items text rest told line =
    let p = told [] [] [] rest refl refl nothing_left in record {
      front = p.1;
      whole = p.4;
      read = record {
        tokens = p.0;
        spelled = p.3;
        each = subst (λ ss. AreStatements ss p.0) (append-nil items) p.2;
        in_line = line;
      };
    }

-- where the last statement stands
pub record LastAt (items : List Statement) (text before : List ℕ) : Type 0 where
  pub earlier : List Statement
  pub last : Statement
  pub split : items ≡ earlier ++ last ∷ []
  pub front : Front earlier text before
  pub visible : BeginsNoBlank before

abbrev pub Lasts : List Statement → List ℕ → List ℕ → Type 0
Lasts items text before = (items ≡ []) ⊎ LastAt items text before

fronts : (front rest text : List ℕ) (left : ℕ) → text ≡ front ++ rest → left ≡ length rest → length text - left ≡ length front
fronts front rest text left e h = omega (arith, ap length e, length-append front rest, h)

-- how far behind the front a part is at fault
parted : (front rest text mine start part after : List ℕ) (left : ℕ) → text ≡ front ++ rest → rest ≡ mine ++ start → start ≡ part ++ after → left ≡ length after → length text - left ≡ length front + (length mine + length part)
parted front rest text mine start part after left e f g h =
    omega (arith, ap length e, length-append front rest, ap length f, length-append mine start, ap length g, length-append part after, h)

within : (front rest text : List ℕ) (left : ℕ) → text ≡ front ++ rest → IsLeftBehind BeginOne left rest → (count : ℕ) × (length text - left ≡ length front + count) × IsWithinStatement count rest
within front rest text left e l =
    let p = l.taken [] [] l.start refl nothing_left in
    let spelled : SpellsTokens l.tokens p.0 = subst (λ ts. SpellsTokens ts p.0) (append-nil l.tokens) p.1 in (
      length p.0 + length l.part,
      parted front rest text p.0 l.start l.part l.rest left e p.2 l.whole l.placed,
      record {
        tokens = l.tokens;
        begin = l.allowed;
        mine = p.0;
        spelled = spelled;
        part = l.part;
        begins = l.begins;
        rest = l.rest;
        whole = p.2 ∙ ap (λ t. p.0 ++ t) l.whole ∙ sym (append_assoc p.0 l.part l.rest);
        placed = refl;
      },
    )

lacks : (items : List Statement) (chain : Chain) (text before rest : List ℕ) (left : ℕ) → chain_behind chains.Outside items ≡ chain → Lasts items text before → left ≡ length before → (IsComplete chain → ⊥) → BeginsNoSign rest → LacksRelation (length text - left) items text rest
lacks items chain text before rest left same (inl none) l never sign =
    let out : chains.Outside ≡ chain = ap (λ ss. chain_behind chains.Outside ss) (sym none) ∙ same in
    absurd (never (subst IsComplete out tt))
lacks items chain text before rest left same (inr last) l never sign = record {
  incomplete = λ h. never (subst IsComplete same h);
  no_sign = sign;
  earlier = last.earlier;
  last = last.last;
  split = last.split;
  front = last.front.front;
  read = last.front.read;
  placed = fronts last.front.front before text left last.front.whole l;
  behind = before;
  whole = last.front.whole;
  visible = last.visible;
}

-- the fault by its sort
fault_of : (sort : FaultSort) (left : ℕ) (items : List Statement) (chain : Chain) (text before rest : List ℕ) (p : Front items text rest) → chain_behind chains.Outside items ≡ chain → Lasts items text before → IsLeft sort chain (length before) rest left → IsFault sort (length text - left) items text p.front rest
fault_of misplaced left items chain text before rest p same last (l, never) =
    (fronts p.front rest text left p.whole l, λ b. never (subst (λ k. BeginsStatement k rest) same b))
fault_of lacks_relation left items chain text before rest p same last (l, never, sign) =
    lacks items chain text before rest left same last l never sign
fault_of of_part left items chain text before rest p same last l = within p.front rest text left p.whole l

-- the fault behind the statements that are read
pub fault_in : (e : UnplacedError) (items : List Statement) (chain : Chain) (text before rest : List ℕ) → Told items text rest → AreInLine chains.Outside items → chain_behind chains.Outside items ≡ chain → Lasts items text before → BeginsNoBlank rest → IsFaultHere e chain (length before) rest → IsFaultIn e text
fault_in NoMemory items chain text before rest told line same last visible f = tt
fault_in (Refused left kind) items chain text before rest told line same last visible f =
    let p = front_of items text rest told line in
    record {
      stated = items;
      front = p.front;
      rest = rest;
      whole = p.whole;
      read = p.read;
      visible = visible;
      fault = fault_of (sort_of kind) left items chain text before rest p same last f;
    }

pub line_next : (items new : List Statement) (s : Statement) {chain : Chain} → new ≡ items ++ s ∷ [] → AreInLine chains.Outside items → chain_behind chains.Outside items ≡ chain → MayFollow chain s → AreInLine chains.Outside new
line_next items new s e line same may =
    subst (λ ss. AreInLine chains.Outside ss) (sym e)
    (line_more chains.Outside items s line (subst (λ k. MayFollow k s) (sym same) may))

pub chain_next : (items new : List Statement) (s : Statement) {chain next : Chain} → new ≡ items ++ s ∷ [] → chain_behind chains.Outside items ≡ chain → next ≡ chain_after chain s → chain_behind chains.Outside new ≡ next
chain_next items new s e same h =
    ap (λ ss. chain_behind chains.Outside ss) e ∙ behind_more chains.Outside items s ∙ ap (λ k. chain_after k s) same ∙ sym h

pub last_next : (items new : List Statement) (s : Statement) {text rest : List ℕ} → new ≡ items ++ s ∷ [] → Told items text rest → AreInLine chains.Outside items → BeginsNoBlank rest → Lasts new text rest
last_next items new s {text} {rest} e told line visible = inr (record {
  earlier = items;
  last = s;
  split = e;
  front = front_of items text rest told line;
  visible = visible;
})

-- ---- errors, handed on

pub handed_on : {T : Type 0} (r : Result T UnplacedError) (e : UnplacedError) (P : UnplacedError → Type 0) → IsErrAnd r (λ x. x ≡ e) → P e → IfErr r P
handed_on (Ok x) e P is p = tt
handed_on (Err x) e P is p = subst P (sym is) p

pub err_map : {T : Type 0} (r : Result T UnplacedError) (P Q : UnplacedError → Type 0) → ((e : UnplacedError) → P e → Q e) → IfErr r P → IfErr r Q
err_map (Ok x) P Q f h = tt
err_map (Err x) P Q f h = f x h

pub refused_left : (kind : RulesErrorKind) (chain : Chain) (before : ℕ) (text behind : List ℕ) (sign : Sign) → sort_of kind ≡ misplaced → TakesSign text sign behind → sign.strength ≡ strength_at text → (MayRelate chain sign.strength → ⊥) → IsVisible text → IsFaultHere (Refused (length text) kind) chain before text
refused_left kind chain before text behind sign h (mine, is, e) l never v =
    subst (λ s. IsLeft s chain before text (length text)) (sym h)
    (refl, no_relation chain sign.strength sign.is_starred mine behind text is e l never v)

pub placed_fault : (e : UnplacedError) (text : List ℕ) (count : ℕ) → count ≡ length text → IsFaultIn e text → IsPlacedFault (in_text e count) text
placed_fault NoMemory text count h f = tt
placed_fault (Refused left kind) text count h f = subst (λ n. IsAtFault kind (n - left) text) (sym h) f
