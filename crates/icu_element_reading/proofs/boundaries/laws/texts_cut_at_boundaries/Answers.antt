use Rattle.icu_element_reading.proofs.boundaries.CutLemmas.{boundary_cut, boundary_start}
use Rattle.icu_element_reading.proofs.boundaries.LeftContextLemmas.{elements_after-piece}
use Rattle.icu_element_reading.proofs.boundaries.laws.texts_cut_at_boundaries.Goals as goal

pub returns : goal.returns
returns g = record {
  cut = λ reading c s ts tail split boundary before head. boundary_cut reading c s ts tail split boundary before head;
  start = λ reading c s ts tail split boundary p q. boundary_start reading c s ts tail split boundary p q;
  pieces = λ reading x before head more text boundary. elements_after-piece reading x before head more text boundary;
}
