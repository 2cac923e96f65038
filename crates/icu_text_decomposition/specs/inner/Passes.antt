-- A run of marks that is read class by class.
use Rattle.std.specs.Prelude.{List, ℕ}
use Rattle.icu_text_decomposition.specs.declared.class_pass.ClassPass.{ClassPass}
use Rattle.icu_text_decomposition.specs.inner.MarksLeft.{IsPass, left_of_pass}
use Rattle.icu_text_decomposition.specs.inner.Parts.{parts_left}

-- the next class is the least one above the class that is read which stands before the place
abbrev pub IsClassPass : {T : Type 0} → (T → List ℕ) → ClassPass T → Type 0
IsClassPass text p = IsPass (parts_left text p.run) (parts_left text p.at) p.class p.next

-- what is left of the text that begins with the run
abbrev pub pass_left : {T : Type 0} → (T → List ℕ) → ClassPass T → List ℕ
pass_left text p = left_of_pass (parts_left text p.run) (parts_left text p.at) p.class
