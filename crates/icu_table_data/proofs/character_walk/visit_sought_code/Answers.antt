use Rattle.std.proofs.Common.{◌≡◌, ◌∙◌, ◌==◌, false, sym, ap, subst, take, rules}
use Rattle.std.specs.Char.{IsScalar}
use Rattle.icu_table_data.specs.StoredData.{data_of}
use Rattle.icu_table_data.specs.inner.BlockWalks.{AreSought}
use Rattle.icu_table_data.proofs.CharacterWalkLemmas.{walked_char, walked_each}
use Rattle.icu_table_data.proofs.WalkLemmas.{on_ok}
use Rattle.icu_table_data.proofs.character_walk.visit_sought_code.Goals as goal

pub returns-then-not-is_fallback : goal.returns-then-not-is_fallback
returns-then-not-is_fallback g c =
    let found = c.args.sought.now in
    let off : c.is_fallback.result ≡ false = search rules in
    let scalar : IsScalar c.args.c = search rules in
    let kept : ((data_of c.args.home).value c.args.c == 0xC0) ≡ false = ap (λ e. e == 0xC0) (sym c.ce32_for_char-entry.ensures) ∙ sym c.is_fallback.ensures ∙ off in
    on_ok _ _ (walked_each g.V.Visit.after c.args.falls_back (data_of c.args.home) c.args.part _ _ c.args.c (take found.count found.entries) scalar kept
    (subst (AreSought c.args.part (data_of c.args.home) ((data_of c.args.home).value c.args.c) (take found.count found.entries)) c.if-sought.true c.requires)) _ c.visit_each.ensures

pub returns : goal.returns
returns g c =
    let scalar : IsScalar c.args.c = search rules in
    on_ok _ _ (walked_char g.V.Visit.after c.args.falls_back (data_of c.args.home) c.args.part _ _ c.args.c scalar) _ c.visit_char.ensures
