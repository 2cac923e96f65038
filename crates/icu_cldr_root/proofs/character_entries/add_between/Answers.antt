use Rattle.std.proofs.Common.{◌≡◌, ◌∙◌, sym, subst, List, ℕ, None}
use Rattle.icu_table_mappings.specs.Surroundings.{PutsEntryBetween, entry_between}
use Rattle.icu_cldr_root.proofs.SpeltEntryLemmas.{other_key, put_around}
use Rattle.icu_cldr_root.proofs.character_entries.add_between.Goals as goal

pub returns-in-None : goal.returns-in-None
returns-in-None c =
    let around = c.unwrap_or-around.result in
    let added = c.put_between.new.contexts in
    let after = c.args.suffix.items in
    let puts = subst (λ (before : List ℕ). PutsEntryBetween around added before after c.args.entry) c.reverse.ensures.items c.in_ok-had.ensures.put in
    let absent = subst (λ (before : List ℕ). entry_between around before after ≡ None) c.reverse.ensures.items (sym c.in_ok-had.ensures.had ∙ c.in-None.is) in
    put_around c.args.contexts.now c.insert.new.self c.args.first c.remove.result c.new.result around added _ after c.args.entry
    c.remove.ensures.value c.new.ensures.empty c.unwrap_or-around.ensures puts absent c.in_ok-insert.ensures.updates.1
    (λ x other. c.in_ok-insert.ensures.updates.2 x (other_key c.args.first x other) ∙ c.remove.ensures.updates.2 x (other_key c.args.first x other))
