-- The lines of a file, one by one.
use Rattle.std.proofs.Common.{◌≡◌, ℕ, ◌<◌, List, [], ◌∷◌, ◌++◌, Option, Some, None, sym, subst, append_assoc, length}
use Rattle.std.specs.Prelude.{IfSome}
use Rattle.std.specs.Io.BufRead.{first_line, drop_through}
use Rattle.std.specs.Io.KnownBytes.{IsAtEnd, Keeps}
use Rattle.std.proofs.lemmas.List.{append-nil}
use Rattle.icu_cldr_root.specs.FileLines.{AreLines, LinesRead}

-- none was read
pub none_read : (known : Option (List ℕ)) → LinesRead known [] known
none_read None = tt
none_read (Some bytes) = λ more lines. lines

-- a reader in front of another keeps the bytes
pub same_read : (known now : Option (List ℕ)) (done : List (List ℕ)) → Keeps known now → LinesRead now done now → LinesRead known done now
same_read None now done keeps read = tt
same_read (Some bytes) None done keeps read = keeps
same_read (Some bytes) (Some others) done keeps read =
    subst (λ (bs : List ℕ). LinesRead (Some bs) done (Some others)) keeps read

-- one line more was read
pub more_read : (known old new : Option (List ℕ)) (done : List (List ℕ)) (line : List ℕ)
    → IfSome old (λ xs. (0 < length xs) × (line ≡ first_line xs)) → IfSome old (λ xs. new ≡ Some (drop_through 10 xs))
    → LinesRead known done old → LinesRead known (done ++ line ∷ []) new
unfolding AreLines
more_read None old new done line is left read = tt
more_read (Some bytes) None new done line is left read = absurd read
more_read (Some bytes) (Some xs) None done line is left read = cc
more_read (Some bytes) (Some xs) (Some ys) done line is left read = λ more lines.
    let same : ys ≡ drop_through 10 xs = cc in
    let rest : AreLines (drop_through 10 xs) more = subst (λ (zs : List ℕ). AreLines zs more) same lines in
    subst (AreLines bytes) (sym (append_assoc done (line ∷ []) more)) (read (line ∷ more) (is.0, is.1, rest))

-- no line is left
pub all_read : (known left : Option (List ℕ)) (done : List (List ℕ)) → IsAtEnd left → LinesRead known done left
    → IfSome known (λ bytes. AreLines bytes done)
unfolding AreLines
all_read None left done ends read = tt
all_read (Some bytes) None done ends read = absurd read
all_read (Some bytes) (Some xs) done ends read = subst (AreLines bytes) (append-nil done) (read [] ends)
