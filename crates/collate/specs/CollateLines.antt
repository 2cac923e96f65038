-- What the program says of its errors.
use Rattle.std.specs.Prelude.{ℕ, List, [], ◌∷◌, ◌++◌, codes}
use Rattle.program_files.specs.ProgramErrors.{Lines}

-- how `collate` says what is wrong
abbrev pub collate_lines : Lines
collate_lines = record {
  usage = codes "usage: collate compare STRENGTH A B | collate key STRENGTH TEXT | collate sort STRENGTH" ++ 10 ∷ [];
  prefix = codes "collate: ";
}

-- what it says if its own tables fail a condition
abbrev pub refused_text : List ℕ
refused_text = codes "tables refused"
