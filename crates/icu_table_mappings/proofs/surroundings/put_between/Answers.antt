use Rattle.std.proofs.Common.{◌≡◌, ◌∙◌, ℕ, List, subst}
use Rattle.std.specs.BTreeMap.{get_by}
use Rattle.std.specs.Cmp.Lexicographic.{slice_cmp}
use Rattle.std.specs.Global.{Vec}
use Rattle.std.specs.Map.{remove_entry}
use Rattle.std.specs.Ordering.{is_eq, nat_cmp}
use Rattle.icu_table_mappings.proofs.PutEntryLemmas.{before_put, put_between}
use Rattle.icu_table_mappings.proofs.SurroundingLemmas.{found_among}
use Rattle.icu_table_mappings.proofs.surroundings.put_between.Goals as goal

pub returns-clause-had : goal.returns-clause-had
returns-clause-had c =
    let gone = subst (λ (key : List ℕ). c.remove.new.self.entries ≡ remove_entry (λ (k : Vec ℕ). is_eq (slice_cmp nat_cmp key k.items)) c.args.contexts.now.entries)
    c.as_slice.ensures.value c.remove.ensures.entries in
    let was = subst (λ (key : List ℕ). c.remove.result ≡ get_by (λ (k : Vec ℕ). slice_cmp nat_cmp key k.items) c.args.contexts.now)
    c.as_slice.ensures.value c.remove.ensures.value in
    c.in_ok-had.ensures.old ∙ found_among c.unwrap_or-suffixes.result.entries c.args.after.items
    ∙ before_put c.args.contexts.now c.insert-2.new.self c.remove.new.self.entries c.args.before c.args.after c.remove.result c.new.result
    c.unwrap_or-suffixes.result c.insert.new.self c.args.entry gone was c.new.ensures.empty
    c.unwrap_or-suffixes.ensures c.in_ok-had.ensures.entries c.in_ok-insert.ensures.entries c.args.after.items

pub returns-clause-put : goal.returns-clause-put
returns-clause-put c =
    let gone = subst (λ (key : List ℕ). c.remove.new.self.entries ≡ remove_entry (λ (k : Vec ℕ). is_eq (slice_cmp nat_cmp key k.items)) c.args.contexts.now.entries)
    c.as_slice.ensures.value c.remove.ensures.entries in
    let was = subst (λ (key : List ℕ). c.remove.result ≡ get_by (λ (k : Vec ℕ). slice_cmp nat_cmp key k.items) c.args.contexts.now)
    c.as_slice.ensures.value c.remove.ensures.value in
    put_between c.args.contexts.now c.insert-2.new.self c.remove.new.self.entries c.args.before c.args.after c.remove.result c.new.result
    c.unwrap_or-suffixes.result c.insert.new.self c.args.entry gone was c.new.ensures.empty
    c.unwrap_or-suffixes.ensures c.in_ok-had.ensures.entries c.in_ok-insert.ensures.entries
