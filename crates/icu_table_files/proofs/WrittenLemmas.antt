-- What is written spells what it was made of.
use Rattle.std.proofs.Common.{◌≡◌, ℕ, List, Option, Some, Result, Ok, Err, sym, ap, ◌∙◌}
use Rattle.std.specs.Prelude.{IfOk}
use Rattle.std.specs.Global.{Vec}
use Rattle.icu_table_data.specs.Data.{Data}
use Rattle.icu_table_files.specs.parts.Frames.{framed}
use Rattle.icu_table_files.specs.FileContents.{FileContents}
use Rattle.icu_table_files.specs.TableFiles.{IsFileOf}
use Rattle.icu_table_files.specs.inner.Spelt.{SpellsContents, SpellsData, SpellsTailoring}

pub tailoring_spelt : {E : Type 0} (r : Result (Vec ℕ) E) (says : Data) (o : Option Data) → Some says ≡ o → IfOk r (λ v. SpellsData says v.items) → IfOk r (λ v. SpellsTailoring o v.items)
tailoring_spelt (Ok v) says o e h =
    record { stored = Some h.stored; is = ap (λ (d : Data). Some d) h.is ∙ e; storable = h.storable; spelt = h.spelt }
tailoring_spelt (Err d) says o e h = tt

pub written_file : {E : Type 0} (r : Result (Vec ℕ) E) (says : FileContents) (body slice : List ℕ) → SpellsContents says body → slice ≡ body → IfOk r (λ v. v.items ≡ framed slice) → IfOk r (λ v. IsFileOf says v.items)
written_file (Ok v) says body slice s e h =
    record { stored = s.stored; is = s.is; storable = s.storable; spelt = ap framed (s.spelt ∙ sym e) ∙ sym h }
written_file (Err d) says body slice s e h = tt
