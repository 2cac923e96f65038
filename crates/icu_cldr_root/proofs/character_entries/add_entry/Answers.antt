use Rattle.std.proofs.Common.{◌∙◌, reverse, sym}
use Rattle.std.proofs.lemmas.Result.{on_ok_weaker}
use Rattle.icu_cldr_root.proofs.SpeltEntryLemmas.{grow_around}
use Rattle.icu_cldr_root.proofs.TakenLemmas.{not_plain}
use Rattle.icu_cldr_root.proofs.character_entries.add_entry.Goals as goal

pub returns-clause-grow : goal.returns-clause-grow
returns-clause-grow c =
    let m = c.args.mapping in
    let some = not_plain m.prefix.items m.suffix.items (sym c.is_plain.ensures ∙ c.if-is_plain.false) in
    on_ok_weaker c.add_between.result
    (λ puts. grow_around c.args.contexts.now c.add_between.new.contexts m.first (reverse m.prefix.items) m.suffix.items c.args.entry puts some c.args.entries.now)
    c.add_between.ensures
