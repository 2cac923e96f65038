-- The statement by which a weight is made is found among those that are left.
use Rattle.std.proofs.Common.{◌≡◌, ℕ, true, false, List, [], ◌∷◌, Some, None, ap, sym, ◌∙◌, nat_lt, cond}
use Rattle.icu_rule_parser.specs.declared.rules.PlacedStatement.{PlacedStatement}
use Rattle.icu_rule_meaning.specs.Rules.{statement_rules}
use Rattle.icu_rule_meaning.specs.TailoredRoots.{Root}
use Rattle.icu_rule_meaning.specs.Steps.{TailoringState, first_state, state_after}
use Rattle.icu_rule_steps.specs.ReadRules.{ReadsRules}
use Rattle.icu_rule_steps.specs.WeightMakers.{maker_of, statement_place}
use Rattle.icu_rule_steps.proofs.RuleLoopLemmas.{IsPlacedTo, none_placed, one_placed}

-- statements were read up to some of them, and none of them made the weight
pub record IsSearchedTo (root : Root) (weight : ℕ) (placed : List PlacedStatement) (now : TailoringState) (rest : List PlacedStatement) : Type 0 where
  pub read : IsPlacedTo root placed now rest
  pub maker : maker_of root weight now rest ≡ maker_of root weight (first_state root) placed

pub none_searched : (root : Root) (weight : ℕ) (placed : List PlacedStatement) (now : TailoringState) → now ≡ first_state root
    → IsSearchedTo root weight placed now placed
none_searched root weight placed now is = record {
  read = none_placed root placed now is;
  maker = ap (λ s. maker_of root weight s placed) is;
}

at_one : (root : Root) (weight : ℕ) (now next : TailoringState) (p : PlacedStatement) (rest : List PlacedStatement)
    → next ≡ state_after root now (statement_rules p.statement)
    → maker_of root weight now (p ∷ rest) ≡ cond (nat_lt weight next.made) (Some (statement_place p)) (maker_of root weight next rest)
unfolding maker_of
at_one root weight now next p rest is =
    ap (λ (after : TailoringState). cond (nat_lt weight after.made) (Some (statement_place p)) (maker_of root weight after rest)) (sym is)

pub one_searched : (root : Root) (weight : ℕ) (placed : List PlacedStatement) (now next : TailoringState)
    (rest rest' : List PlacedStatement) (p : PlacedStatement) → rest ≡ p ∷ rest' → IsSearchedTo root weight placed now rest
    → ReadsRules root (statement_rules p.statement) now next → nat_lt weight next.made ≡ false
    → IsSearchedTo root weight placed next rest'
one_searched root weight placed now next rest rest' p e to read not_yet = record {
  read = one_placed root placed now next rest rest' p e to.read read;
  maker =
      sym (ap (λ b. cond b (Some (statement_place p)) (maker_of root weight next rest')) not_yet)
      ∙ sym (at_one root weight now next p rest' read.state)
      ∙ sym (ap (maker_of root weight now) e) ∙ to.maker;
}

pub searched_found : (root : Root) (weight : ℕ) (placed : List PlacedStatement) (now next : TailoringState)
    (rest rest' : List PlacedStatement) (p : PlacedStatement) → rest ≡ p ∷ rest' → IsSearchedTo root weight placed now rest
    → ReadsRules root (statement_rules p.statement) now next → nat_lt weight next.made ≡ true
    → Some (statement_place p) ≡ maker_of root weight (first_state root) placed
searched_found root weight placed now next rest rest' p e to read made =
    sym (ap (λ b. cond b (Some (statement_place p)) (maker_of root weight next rest')) made)
    ∙ sym (at_one root weight now next p rest' read.state)
    ∙ sym (ap (maker_of root weight now) e) ∙ to.maker

pub searched_all : (root : Root) (weight : ℕ) (placed : List PlacedStatement) (now : TailoringState) (rest : List PlacedStatement)
    → rest ≡ [] → IsSearchedTo root weight placed now rest → None ≡ maker_of root weight (first_state root) placed
unfolding maker_of
searched_all root weight placed now rest e to = sym (ap (maker_of root weight now) e) ∙ to.maker
