-- What tables say of the lines of a file.
use Rattle.std.proofs.Common.{◌≡◌, ℕ, ◌<◌, Bool, true, false, List, [], ◌∷◌, Option, Some, None, refl, sym, ap, subst, ◌∙◌, inl, inr, if◌then◌else◌, arith}
use Rattle.std.specs.Prelude.{◌&&◌, ◌||◌, nat_le, nat_lt, IfSome, IfErr, Result, Ok, Err, length, option_and_then}
use Rattle.std.specs.Char.{IsScalar}
use Rattle.std.specs.List.{AllByRecursion, AllZip, list_any}
use Rattle.std.proofs.lemmas.Bool.Decides.{nat_tests}
use Rattle.icu_table_provider.specs.CollatorTables.{CollatorTables}
use Rattle.icu_table_data.specs.Data.{Data}
use Rattle.icu_cldr_root.specs.Errors.{IsNumbered, IsOtherError, IsRightlyRefused}
use Rattle.icu_cldr_root.specs.FileFacts.{SaysFacts}
use Rattle.icu_cldr_root.specs.FileLines.{AreLines}
use Rattle.icu_cldr_root.specs.FixedBytes.{fixes_last}
use Rattle.icu_cldr_root.specs.FileRoots.{GivesMapping, SaysFile, StandsIn}
use Rattle.icu_cldr_root.specs.HexDigits.{number_written, scalar_from}
use Rattle.icu_cldr_root.specs.IdeographOrder.{ideograph_weight, ideographs_of}
use Rattle.icu_cldr_root.specs.Ideographs.{primary_in}
use Rattle.icu_cldr_root.specs.LineParts.{text_of}
use Rattle.icu_cldr_root.specs.Unmapped.{GivesUnmapped}
use Rattle.icu_cldr_root.specs.Words.{WordsWrite, WriteCharacters}
use Rattle.icu_cldr_root.specs.WrittenLines.{LineSays}
use Rattle.icu_cldr_root.specs.WrittenMappings.{WriteContext, WritesMapping}
use Rattle.icu_cldr_root.specs.inner.SpecialParts.{MakesSpecials}
use Rattle.icu_cldr_root.specs.inner.TakenCharacters.{HasUnmapped, LeavesUnmapped}
use Rattle.icu_cldr_root.specs.inner.Taken.{HasNothing, HasSaid, KeepsMappings, TakesFile, TakesLines}
use Rattle.icu_cldr_root.specs.declared.collected.Collected.{Collected}
use Rattle.icu_cldr_root.specs.declared.error.Missing.TheVariants as missing
use Rattle.icu_cldr_root.specs.declared.error.Missing.TheVariants.{End}
use Rattle.icu_cldr_root.specs.declared.error.ReadError.{ReadError}
use Rattle.icu_cldr_root.specs.declared.error.ReadError.TheVariants as errors
use Rattle.icu_cldr_root.specs.declared.file_facts.FileFacts.{FileFacts}
use Rattle.icu_cldr_root.specs.declared.ideographs.CharRange.{CharRange}
use Rattle.icu_cldr_root.specs.declared.line.Line.{Line}
use Rattle.icu_cldr_root.specs.declared.line.Line.TheVariants as says
use Rattle.icu_cldr_root.specs.declared.mapping.Mapping.{Mapping}
use Rattle.icu_cldr_root.proofs.SaidSpecialLemmas.{specials_said}
use Rattle.icu_cldr_root.proofs.TakenLemmas.{said_further}
use Rattle.icu_cldr_root.proofs.WeightedRangeLemmas.{weights_are}

-- ---- characters that are written are no surrogates

in_ranges : (n : ℕ) → (nat_lt n 0xD800 || (nat_lt 0xDFFF n && nat_lt n 0x110000)) ≡ true → IsScalar n
in_ranges n h = grind (arith, nat_tests)

some_scalar : (o : Option ℕ) (c : ℕ) → option_and_then scalar_from o ≡ Some c → IsScalar c
some_scalar None c h = cc
some_scalar (Some n) c h = by_range (nat_lt n 0xD800 || (nat_lt 0xDFFF n && nat_lt n 0x110000)) refl h where
  by_range : (b : Bool) → (nat_lt n 0xD800 || (nat_lt 0xDFFF n && nat_lt n 0x110000)) ≡ b → (if b then Some n else None) ≡ Some c → IsScalar c
  by_range true is e = let same : n ≡ c = cc in subst IsScalar same (in_ranges n is)
  by_range false is e = cc

character_scalar : (b : Bool) (o : Option ℕ) (c : ℕ) → (if b then option_and_then scalar_from o else None) ≡ Some c → IsScalar c
character_scalar true o c h = some_scalar o c h
character_scalar false o c h = cc

first_scalar : (text : List ℕ) (c : ℕ) (cs : List ℕ) → WriteCharacters text (c ∷ cs) → IsScalar c
unfolding WordsWrite
first_scalar text c cs (word, rest, begins, is, others) = character_scalar (nat_le 4 (length word) && nat_le (length word) 6) (number_written word) c is

context_scalar : (text prefix : List ℕ) (c : ℕ) (cs : List ℕ) → WriteContext text prefix (c ∷ cs) → IsScalar c
context_scalar text prefix c cs (inl w) = first_scalar text c cs w.2
context_scalar text prefix c cs (inr (before, behind, cut, some, writes, mapped)) = first_scalar behind c cs mapped

-- the first character of a mapping is one
pub mapped_scalar : (text : List ℕ) (m : Mapping) → WritesMapping text m → IsScalar m.first
mapped_scalar text m (left, right, cut, context, elements, some) = context_scalar left m.prefix.items m.first m.suffix.items context

-- ---- line by line

-- a mapping is given by any weights of ideographs that agree
given_by : (old new : ℕ → Option ℕ) (d : Data) (m : Mapping) → ((x p : ℕ) → old x ≡ Some p → new x ≡ Some p) → GivesMapping old d m → GivesMapping new d m
given_by old new d m more g = record {
  elements = g.elements;
  letter = g.letter;
  entry = g.entry;
  said = said_further old new more m.elements.items g.elements g.said;
  spells = g.spells;
  digit = g.digit;
  gives = g.gives;
}

module _ (c : Collected) (all : CollatorTables) (nothing : HasNothing c) (keeps : KeepsMappings c all)
    (of_ideograph : ℕ → Option ℕ) (more : (x p : ℕ) → primary_in c.ideographs x ≡ Some p → of_ideograph x ≡ Some p) where
  one_stands : (line : List ℕ) (said : Line) → LineSays line said → HasSaid c said → StandsIn of_ideograph all said
  one_stands line (says.Mapping m) is has =
      given_by (primary_in c.ideographs) of_ideograph all.tables.root m more (keeps nothing m (mapped_scalar (text_of line) m is.0) has)
  one_stands line says.Nothing is has = tt
  one_stands line (says.Version v) is has = tt
  one_stands line (says.Fixed f) is has = tt
  one_stands line (says.Reserved r) is has = tt
  one_stands line (says.Ideographs r) is has = tt
  one_stands line (says.LeadByte l) is has = tt
  one_stands line (says.NumericLead n) is has = tt

  pub all_stand : (lines : List (List ℕ)) (said : List Line) → AllZip LineSays lines said → AllByRecursion (HasSaid c) said
      → AllByRecursion (StandsIn of_ideograph all) said
  all_stand [] [] are has = tt
  all_stand [] (x ∷ xs) are has = absurd are
  all_stand (l ∷ ls) [] are has = tt
  all_stand (l ∷ ls) (x ∷ xs) are has = (one_stands l x are.0 has.0, all_stand ls xs are.1 has.1)

-- all lines of known bytes stand in the tables
pub file_stands : (first : List CharRange) (c : Collected) (all : CollatorTables) (facts : FileFacts) → HasNothing c → KeepsMappings c all → MakesSpecials c.special all.special
    → HasUnmapped c → LeavesUnmapped c all → facts ≡ c.facts → list_any fixes_last c.facts.fixed.items ≡ true
    → (known : Option (List ℕ)) → IfSome known (TakesFile first c) → IfSome known (λ bytes. SaysFile first bytes all facts)
file_stands first c all facts nothing keeps makes has leaves same ends None takes = tt
file_stands first c all facts nothing keeps makes has leaves same ends (Some bytes) (lines, said, are, takes) = record {
  lines = lines;
  said = said;
  are_lines = are;
  say = takes.0;
  stand = all_stand c all nothing keeps (ideograph_weight (ideographs_of first said))
      (λ x p h. sym (weights_are c.ideographs (ideographs_of first said) x takes.2) ∙ h) lines said takes.0 takes.1;
  specials = specials_said c.special all.special said takes.3 makes;
  says_facts = subst (λ f. SaysFacts f said) (sym same) takes.5;
  ended = subst (λ (f : FileFacts). list_any fixes_last f.fixed.items ≡ true) (sym same) ends;
  unmapped = λ x scalar none. subst (GivesUnmapped all.tables.root x) (weights_are c.ideographs (ideographs_of first said) x takes.2)
      (leaves has x scalar (takes.4 x none));
}

-- ---- refusals

-- what follows from an error's property
pub err_weaker : {T E : Type 0} (r : Result T E) {P Q : E → Type 0} → ((e : E) → P e → Q e) → IfErr r P → IfErr r Q
err_weaker (Ok x) f h = tt
err_weaker (Err e) f h = f e h

-- another error than that a file is empty or cut off
pub other_numbered : (e : ReadError) → IsOtherError e → IsNumbered e
other_numbered (errors.Line line kind) h = h
other_numbered errors.NoMemory h = tt
other_numbered errors.Empty h = tt
other_numbered (errors.ReadFailed kind) h = tt
other_numbered (errors.Missing what) h = tt
other_numbered errors.FullTables h = tt
other_numbered (errors.Tables e) h = tt

other_right : (bytes : List ℕ) (e : ReadError) → IsOtherError e → IsRightlyRefused bytes e
other_right bytes (errors.Line line kind) h = tt
other_right bytes errors.NoMemory h = tt
other_right bytes errors.Empty h = absurd h
other_right bytes (errors.ReadFailed kind) h = tt
other_right bytes (errors.Missing End) h = absurd h
other_right bytes (errors.Missing missing.Radicals) h = tt
other_right bytes (errors.Missing missing.NumericLead) h = tt
other_right bytes (errors.Missing missing.Punctuation) h = tt
other_right bytes (errors.Missing missing.Symbols) h = tt
other_right bytes (errors.Missing missing.Currencies) h = tt
other_right bytes (errors.Missing missing.Digits) h = tt
other_right bytes errors.FullTables h = tt
other_right bytes (errors.Tables e) h = tt

pub other_refused : (known : Option (List ℕ)) (e : ReadError) → IsOtherError e → IfSome known (λ bytes. IsRightlyRefused bytes e)
other_refused None e h = tt
other_refused (Some bytes) e h = other_right bytes e h

-- a file without a line has no byte
pub empty_refused : (known : Option (List ℕ)) (lines : List (List ℕ)) → IfSome known (λ bytes. AreLines bytes lines) → lines ≡ []
    → IfSome known (λ bytes. IsRightlyRefused bytes errors.Empty)
unfolding AreLines
empty_refused None lines are none = tt
empty_refused (Some bytes) [] are none = are
empty_refused (Some bytes) (l ∷ ls) are none = cc

-- a file whose lines were taken in without its last one is cut off
pub cut_refused : (first : List CharRange) (c : Collected) (known : Option (List ℕ)) (lines : List (List ℕ)) (said : List Line) → IfSome known (λ bytes. AreLines bytes lines)
    → 0 < length lines → TakesLines first c lines said → list_any fixes_last c.facts.fixed.items ≡ false
    → IfSome known (λ bytes. IsRightlyRefused bytes (errors.Missing End))
unfolding AreLines
cut_refused first c None lines said are some takes none = tt
cut_refused first c (Some bytes) [] said are some takes none = absurd (omega arith)
cut_refused first c (Some bytes) (l ∷ ls) said are some takes none = record {
  lines = l ∷ ls;
  said = said;
  some = are.0;
  are_lines = are;
  say = takes.0;
  unended = sym (ap (list_any fixes_last) takes.5.fixed) ∙ none;
}
