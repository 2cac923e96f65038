-- Statements, taken one at a time.
use Rattle.std.proofs.Common.{ℕ, true, false, ◌≡◌, inl, inr, List, [], ◌∷◌, ◌++◌, ap, ◌∙◌, sym, refl, subst, append_assoc}
use Rattle.std.specs.Prelude.{codes}
use Rattle.std.proofs.lemmas.List.{append-nil}
use Rattle.icu_options.specs.declared.settings.Strength.{Strength}
use Rattle.icu_rule_parser.specs.declared.chain.Chain.{Chain}
use Rattle.icu_rule_parser.specs.declared.chain.Chain.TheVariants as chains
use Rattle.icu_rule_parser.specs.declared.relations.Sign.{Sign}
use Rattle.icu_rule_parser.specs.declared.statement.Reset.{Reset}
use Rattle.icu_rule_parser.specs.declared.statement.Relation.{Relation}
use Rattle.icu_rule_parser.specs.declared.statement.StarredRelation.{StarredRelation}
use Rattle.icu_rule_parser.specs.declared.statement.RuleSetting.TheVariants as settings
use Rattle.icu_rule_parser.specs.declared.statement.Statement.{Statement}
use Rattle.icu_rule_parser.specs.declared.statement.Statement.TheVariants as statements
use Rattle.icu_rule_parser.specs.RuleCharacters.{is_blank, IsTrail}
use Rattle.icu_rule_parser.specs.Tokens.{Token, reset_sign, relation_sign, vowel_sign, string, bracket, IsRelationSign, SpellsTokens}
use Rattle.icu_rule_parser.specs.Statements.{HasFindableContext, relation_parts, dashed_tokens, AreStatements, MayRelate, MayFollow, IsComplete, AreInOrder, chain_after, SpellStatements}
use Rattle.icu_rule_parser.specs.TakenText.{Takes}
use Rattle.icu_rule_parser.specs.TakenStatements.{TakesSign, TakesReset, TakesStarred, TakesStatement, IsUnrelated, Relates}
use Rattle.icu_rule_parser.proofs.SkipLemmas.{takes_then}
use Rattle.icu_rule_parser.proofs.BracketLemmas.{take_token}

-- a relation, by its sign and what stands behind that
pub take_relation : {text after rest : List ℕ} (sign : Sign) (r : Relation) → TakesSign text sign after → sign.is_starred ≡ false → r.strength ≡ sign.strength → HasFindableContext r.prefix.items r.string.items → Takes after (relation_parts r) rest → TakesStatement text (statements.Relation r) rest
take_relation {text} {after} {rest} sign r (mine, spelled, e) starred strength context takes =
    let spelled' : IsRelationSign r.strength false mine =
    subst (λ k. IsRelationSign k false mine) (sym strength)
    (subst (λ b. IsRelationSign sign.strength b mine) starred spelled) in (
      relation_sign r.strength false ∷ relation_parts r,
      (context, refl),
      takes_then (relation_sign r.strength false ∷ []) (relation_parts r)
          (take_token after (relation_sign r.strength false) mine spelled' e) takes,
    )

pub take_starred : {text after rest : List ℕ} (sign : Sign) (r : StarredRelation) → TakesSign text sign after → sign.is_starred ≡ true → r.strength ≡ sign.strength → TakesStarred after r.ranges.items rest → TakesStatement text (statements.Starred r) rest
take_starred {text} {after} {rest} sign r (mine, spelled, e) starred strength (first, others, named, inert, takes) =
    let spelled' : IsRelationSign r.strength true mine =
    subst (λ k. IsRelationSign k true mine) (sym strength)
    (subst (λ b. IsRelationSign sign.strength b mine) starred spelled) in (
      relation_sign r.strength true ∷ string first ∷ dashed_tokens others,
      (first, others, named, inert, refl),
      takes_then (relation_sign r.strength true ∷ []) (string first ∷ dashed_tokens others)
          (take_token after (relation_sign r.strength true) mine spelled' e) takes,
    )

pub take_reset : {text after rest : List ℕ} (reset : Reset) → text ≡ 38 ∷ after → TakesReset after reset rest → TakesStatement text (statements.Reset reset) rest
take_reset {text} {after} {rest} reset e (tokens, are, takes) =
    (reset_sign ∷ tokens, are, takes_then (reset_sign ∷ []) tokens (take_token after reset_sign (38 ∷ []) refl e) takes)

pub take_backwards : {text after : List ℕ} → text ≡ 64 ∷ after → TakesStatement text (statements.Setting settings.Backwards) after
take_backwards {text} {after} e =
    let token : Token = bracket (codes "backwards" ∷ codes "2" ∷ []) in
    (token ∷ [], refl, take_token after token (64 ∷ []) (inr (refl, refl)) e)

pub take_vowels : {text after : List ℕ} → text ≡ 33 ∷ after → TakesStatement text (statements.Setting settings.VowelSign) after
take_vowels {text} {after} e = (vowel_sign ∷ [], refl, take_token after vowel_sign (33 ∷ []) refl e)

-- the first character under its name
pub begins : {k : ℕ} (c : ℕ) {text after : List ℕ} → text ≡ k ∷ after → k ≡ c → text ≡ c ∷ after
begins c {text} {after} e n = e ∙ ap (λ i. i ∷ after) n

pub unrelated_stands : (chain : Chain) (s : Statement) → IsUnrelated s → IsComplete chain → MayFollow chain s
unrelated_stands chain (statements.Reset reset) u h = h
unrelated_stands chain (statements.Relation r) u h = absurd u
unrelated_stands chain (statements.Starred r) u h = absurd u
unrelated_stands chain (statements.Setting s) u h = h
unrelated_stands chain (statements.Import tag) u h = h

pub related_stands : (chain : Chain) (strength : Strength) (s : Statement) → Relates strength s → MayRelate chain strength → MayFollow chain s
related_stands chain strength (statements.Reset reset) u h = absurd u
related_stands chain strength (statements.Relation r) u h = subst (λ k. MayRelate chain k) (sym u) h
related_stands chain strength (statements.Starred r) u h = subst (λ k. MayRelate chain k) (sym u) h
related_stands chain strength (statements.Setting s) u h = absurd u
related_stands chain strength (statements.Import tag) u h = absurd u

-- Whatever a beginning of the rest says follows these statements.
abbrev pub Told : List Statement → List ℕ → List ℕ → Type 0
Told items text rest = (more : List Statement) (tokens : List Token) (tail after : List ℕ) → rest ≡ tail ++ after
    → AreStatements more tokens → SpellsTokens tokens tail
    → (all : List Token) × (whole : List ℕ) × AreStatements (items ++ more) all × SpellsTokens all whole
    × (text ≡ whole ++ after)

-- Whatever may stand behind the chain follows these statements.
abbrev pub Ordered : List Statement → Chain → Type 0
Ordered items chain = (more : List Statement) → AreInOrder chain more → AreInOrder chains.Outside (items ++ more)

pub told_first : {text rest : List ℕ} → Takes text [] rest → Told [] text rest
told_first blanks more tokens tail after e are s =
    let p = blanks tokens tail after e s in (tokens, p.0, are, p.1, p.2)

pub told_step : {text rest after next : List ℕ} (items new : List Statement) (s : Statement) → new ≡ items ++ s ∷ [] → Told items text rest → TakesStatement rest s after → Takes after [] next → Told new text next
told_step {text} {rest} {after} {next} items new s e told (ts, are, takes) blanks more tokens tail left f m k =
    let b = blanks tokens tail left f k in
    let t = takes tokens b.0 left b.2 b.1 in
    subst (λ ss. (all : List Token) × (whole : List ℕ) × AreStatements ss all × SpellsTokens all whole
    × (text ≡ whole ++ left))
    (sym (ap (λ i. i ++ more) e ∙ append_assoc items (s ∷ []) more))
    (told (s ∷ more) (ts ++ tokens) t.0 left t.2 (ts, tokens, are, m, refl) t.1)

pub ordered_first : Ordered [] chains.Outside
ordered_first more o = o

pub ordered_step : {chain next : Chain} (items new : List Statement) (s : Statement) → new ≡ items ++ s ∷ [] → Ordered items chain → MayFollow chain s → next ≡ chain_after chain s → Ordered new next
ordered_step {chain} {next} items new s e ordered may h more o =
    subst (λ ss. AreInOrder chains.Outside ss) (sym (ap (λ i. i ++ more) e ∙ append_assoc items (s ∷ []) more))
    (ordered (s ∷ more) (may, subst (λ k. AreInOrder k more) h o))

pub nothing_left : IsTrail []
unfolding is_blank
nothing_left = inl refl

pub all_told : {text rest : List ℕ} {chain : Chain} (items : List Statement) → rest ≡ [] → Told items text rest → Ordered items chain → IsComplete chain → SpellStatements items text
all_told {text} {rest} {chain} items none told ordered complete =
    let p = told [] [] [] [] none refl nothing_left in record {
      tokens = p.0;
      spelled = subst (λ t. SpellsTokens p.0 t) (sym (append-nil p.1) ∙ sym p.4) p.3;
      each = subst (λ ss. AreStatements ss p.0) (append-nil items) p.2;
      in_order = subst (λ ss. AreInOrder chains.Outside ss) (append-nil items) (ordered [] complete);
    }
