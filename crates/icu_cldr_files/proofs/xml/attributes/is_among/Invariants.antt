use Rattle.std.proofs.Common.{◌≡◌, ℕ, ◌<◌, get_or}
use Rattle.icu_cldr_files.specs.declared.xml.event.Attribute.{Attribute}
use Rattle.icu_cldr_files.proofs.xml.attributes.is_among.Given as goal

abbrev pub invariant-loop-other : goal.invariant-loop-other
invariant-loop-other l = (k : ℕ) (d : Attribute) → k < l.other-index → (get_or l.attributes k d).name.now ≡ l.name → ⊥
