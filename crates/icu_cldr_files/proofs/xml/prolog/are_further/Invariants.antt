use Rattle.std.proofs.Common.{take}
use Rattle.std.specs.List.{AllByRecursion}
use Rattle.icu_cldr_files.specs.xml.XmlDocuments.{IsFurther}
use Rattle.icu_cldr_files.proofs.xml.prolog.are_further.Given as goal

abbrev pub invariant-loop-attribute : goal.invariant-loop-attribute
invariant-loop-attribute l = AllByRecursion IsFurther (take l.attribute-index l.attributes)
