-- What is kept beside the tables is what was worked out from them.
use Rattle.std.proofs.Common.{◌≡◌, Result, Ok, subst, IfOk, rules}
use Rattle.icu_element_reading.specs.TextElements.{Reading}
use Rattle.icu_element_facts.specs.FactsTables.{AreFacts}
use Rattle.icu_element_reading.specs.boundaries.BoundaryTables.{boundary_reading}
use Rattle.icu_collator.proofs.collator.Collator.from_checked_tables.Goals as goal

-- what was kept is what was made
kept : {T E : Type 0} (r : Result T E) (x : T) (P : T → Type 0) → r ≡ Ok x → IfOk r P → P x
kept r x P e h = subst (λ r. IfOk r P) e h

pub invariant_of-result : goal.invariant_of-result
invariant_of-result c =
    let kept_facts = kept c.new.result c.in_ok-kept_facts.kept_facts (λ l. AreFacts (boundary_reading c.boundaries-places.result) l) c.in_ok-kept_facts.ensures.kept c.new.ensures in
    record {
      backward = search rules;
      known = subst (λ (r : Reading). AreFacts r c.in_ok-kept_facts.kept_facts) c.boundaries-places.ensures kept_facts;
      levels = c.key_form-form.ensures;
      variable = c.last_variable-last_variable.ensures;
      asked = c.first_asked-first_asked.ensures;
    }
