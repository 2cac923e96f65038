-- Words that are gone through in turn, each of which names something.
use Rattle.std.proofs.Common.{◌≡◌, ℕ, ◌+◌, ◌<◌, List, [], ◌∷◌, ◌++◌, length, get_or, take, map, String, Some, None, ap, sym, ◌∙◌}
use Rattle.std.specs.Prelude.{string_bytes}
use Rattle.std.specs.declared.alloc.Global.{Global}
use Rattle.std.proofs.lemmas.List.{take_more, map-append}
use Rattle.icu_rule_tables.specs.declared.script_reordering.reorder_codes.ReorderCode.{ReorderCode}
use Rattle.icu_rule_tables.specs.script_reordering.ReorderCodes.{AreCodes, code_named, code_said}
use Rattle.icu_rule_tables.specs.script_reordering.ScriptOrders.{IsErrorOfCodes, IsWordOf}
use Rattle.icu_rule_tables.specs.declared.script_reordering.reordering_error.ReorderingError.TheVariants.{UnknownGroup}

pub one_code : (words : List (String Global)) (named : List ReorderCode) (word : String Global) (code : ReorderCode) (i : ℕ) → i < length words
    → word ≡ get_or words i word → AreCodes (take i words) named → code_said word ≡ Some code → AreCodes (take (i + 1) words) (named ++ code ∷ [])
one_code words named word code i less at before is =
    ap (map code_said) (take_more words i word less)
    ∙ map-append code_said (take i words) (get_or words i word ∷ [])
    ∙ ap (λ (w : String Global). map code_said (take i words) ++ code_said w ∷ []) (sym at)
    ∙ ap (λ c. map code_said (take i words) ++ c ∷ []) is
    ∙ ap (λ cs. cs ++ Some code ∷ []) before
    ∙ sym (map-append (λ (c : ReorderCode). Some c) named (code ∷ []))

pub word_at : (words : List (String Global)) (word code : String Global) (i : ℕ) → i < length words → word ≡ get_or words i word
    → string_bytes code ≡ string_bytes word → IsWordOf words code
word_at words word code i less at same = (i, word, less, sym at, sym same)

pub unknown_at : (words : List (String Global)) (word code : String Global) (i : ℕ) → i < length words → word ≡ get_or words i word
    → code_said word ≡ None → string_bytes code ≡ string_bytes word → IsErrorOfCodes words (UnknownGroup code)
unknown_at words word code i less at is same = (word_at words word code i less at same, ap code_named same ∙ is)
