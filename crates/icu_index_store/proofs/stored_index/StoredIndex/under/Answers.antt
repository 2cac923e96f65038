use Rattle.std.proofs.Common.{subst}
use Rattle.std.proofs.lemmas.Result.{IfOk-weaker}
use Rattle.icu_index.specs.headings.Headed.{heading_starts}
use Rattle.icu_index.specs.headings.HeadingLaws.{KeysStandUnder}
use Rattle.icu_index_store.proofs.stored_index.StoredIndex.under.Goals as goal

pub returns : goal.returns
returns g c = record {
  begun = IfOk-weaker c.names_within.result _ _
      (λ rows h clean.
      record {
        bounds = c.key_bounds-bounds.result;
        stand = subst (λ collation. KeysStandUnder collation (heading_starts c.args.headings.now) c.args.number c.key_bounds-bounds.result) c.requires c.key_bounds-bounds.ensures;
        begun = h clean;
      })
      c.names_within.ensures.begun;
}
