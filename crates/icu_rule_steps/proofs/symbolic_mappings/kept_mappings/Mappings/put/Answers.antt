use Rattle.std.proofs.Common.{◌≡◌, ◌==◌, ℕ, List, Option, Some, None, cond, if◌then◌else◌, length, rules, refl, sym, ap, ◌∙◌}
use mathlib.Core.Path.{fun_ext}
use Rattle.std.specs.Option.{is_some}
use Rattle.std.specs.Ordering.{nat_cmp}
use Rattle.std.proofs.lemmas.List.{append-nil}
use Rattle.std.specs.BTreeMap.{get, is_at}
use Rattle.icu_rule_meaning.specs.TailoredMappings.{SymbolicMapping, with_mapping}
use Rattle.icu_rule_steps.specs.symbolic_mappings.StoredMappings.{symbolic_mapping, symbolic_mappings}
use Rattle.icu_rule_steps.specs.symbolic_mappings.KeptMappings.{mappings_in, own_or, untouched_mappings}
use Rattle.icu_rule_steps.specs.symbolic_mappings.TouchedCharacters.{touched_in}
use Rattle.icu_rule_steps.proofs.symbolic_mappings.KeptMappingLemmas.{Own, put_at, own_there, own_absent}
use Rattle.icu_rule_steps.proofs.symbolic_mappings.TouchedLemmas.{touched_put}
use Rattle.icu_rule_steps.proofs.symbolic_mappings.kept_mappings.Mappings.put.Goals as goal
use Rattle.icu_rule_steps.proofs.symbolic_mappings.kept_mappings.Mappings.put.Given.{Over}
use Rattle.icu_rule_steps.proofs.symbolic_mappings.kept_mappings.Mappings.put.Goals.{After-put_mapping, in-Some, in-None+in_ok-own-in-None}

were : (g : Over) (c : After-put_mapping g)
    → symbolic_mappings c.match-remove.own.items ≡ mappings_in g.R.RootMappings.mappings_of c.args.self.now c.args.c
were g c = elim c.match-remove.branch [
  | in-Some w ↦
      let there : get nat_cmp c.args.self.now.touched c.args.c ≡ Some c.match-remove.own = search rules in
      sym (own_there g.R.RootMappings.mappings_of c.args.self.now c.args.c c.match-remove.own there)
  | in-None+in_ok-own-in-None w ↦
      let absent : get nat_cmp c.args.self.now.touched c.args.c ≡ None = search rules in
      let made : symbolic_mappings c.match-remove.own.items ≡ untouched_mappings g.R.RootMappings.mappings_of c.args.self.now c.args.c = search rules in
      made ∙ sym (own_absent g.R.RootMappings.mappings_of c.args.self.now c.args.c absent)
]

pub returns-clause-mappings : goal.returns-clause-mappings
unfolding mappings_in
returns-clause-mappings g c =
    let held = c.args.self.now in
    let root = g.R.RootMappings.mappings_of in
    let was = were g (goal.at.returns-clause-mappings g c).After-put_mapping in
    let own : Own = c.put_mapping.new.mappings in
    let stored : symbolic_mappings own.items ≡ with_mapping (symbolic_mapping c.args.new) (mappings_in root held c.args.c) =
    c.in_ok-count.ensures.mappings ∙ ap (with_mapping (symbolic_mapping c.args.new)) was in
    fun_ext (λ (q : ℕ).
    let d : List SymbolicMapping = untouched_mappings root held q in
    let before : Option Own = get nat_cmp held.touched q in
    let now_at : get nat_cmp c.insert.new.self q ≡ cond (is_at (nat_cmp c.args.c) q) (Some own) (get nat_cmp c.remove.new.self q) = c.in_ok-insert.ensures.updates.0 q in
    let gone_at : get nat_cmp c.remove.new.self q ≡ cond (is_at (nat_cmp c.args.c) q) None before = c.remove.ensures.updates.0 q in
    ap (λ o. own_or o d) (now_at ∙ ap (λ o. cond (is_at (nat_cmp c.args.c) q) (Some own) o) gone_at)
    ∙ put_at c.args.c q own before d
    ∙ ap (λ (ms : List SymbolicMapping). if q == c.args.c then ms else own_or before d) stored)

pub returns-clause-touched : goal.returns-clause-touched
unfolding touched_in
returns-clause-touched g c = record {
  touched = λ q.
      let now_at : get nat_cmp c.insert.new.self q ≡ cond (is_at (nat_cmp c.args.c) q) (Some c.put_mapping.new.mappings) (get nat_cmp c.remove.new.self q) = c.in_ok-insert.ensures.updates.0 q in
      let gone_at : get nat_cmp c.remove.new.self q ≡ cond (is_at (nat_cmp c.args.c) q) None (get nat_cmp c.args.self.now.touched q) = c.remove.ensures.updates.0 q in
      ap is_some (now_at ∙ ap (λ o. cond (is_at (nat_cmp c.args.c) q) (Some c.put_mapping.new.mappings) o) gone_at)
      ∙ touched_put c.args.c q c.put_mapping.new.mappings (get nat_cmp c.args.self.now.touched q);
  suppressed = sym (append-nil c.args.self.now.suppressed.items);
  over = refl;
}

pub returns-clause-count : goal.returns-clause-count
returns-clause-count g c =
    c.in_ok-count.ensures.count
    ∙ ap (λ (ms : List SymbolicMapping). length (with_mapping (symbolic_mapping c.args.new) ms))
    (were g (goal.at.returns-clause-count g c).After-put_mapping)
