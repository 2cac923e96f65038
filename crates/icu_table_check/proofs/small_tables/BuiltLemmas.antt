-- What a builder was given is the small root.
use Rattle.std.proofs.Common.{◌≡◌, ℕ, ap, ◌∙◌, arith, Result, Ok, Err}
use Rattle.std.specs.Prelude.{IfOk}
use Rattle.std.proofs.lemmas.Bool.Decides.{nat_tests}
use Rattle.icu_table_entries.specs.EncodedEntries.{implicit_entry}
use Rattle.icu_table_data.specs.Data.{Context, Data}
use Rattle.icu_table_provider.specs.builder.Building.{SaysOfCharacters, empty_data, and_context, set_in, with_entries}
use Rattle.icu_table_provider.specs.declared.builder.data_vectors.DataVectors.{DataVectors}
use Rattle.icu_table_provider.specs.builder.OwnedData.{vectors_data}
use Rattle.icu_table_check.specs.small_tables.SmallTables.{context_of_a, entry_of_a, letter_b, small_entry, small_root}

-- what is put in, one after another
abbrev pub given : Data
given = set_in (set_in (and_context (empty_data implicit_entry) context_of_a) 0x61 0x61 entry_of_a) 0x62 0x62 letter_b

given_entry : (c : ℕ) → with_entries 0x62 0x62 letter_b (with_entries 0x61 0x61 entry_of_a (λ x. implicit_entry)) c ≡ small_entry c
given_entry c = grind (arith, nat_tests)

says_small_root : (d : Data) → SaysOfCharacters given d → SaysOfCharacters small_root d
says_small_root d says = record {
  value = λ c few. says.value c few ∙ given_entry c;
  elements = says.elements;
  entries = says.entries;
  contexts = says.contexts;
}

pub says_if_built : {E : Type 0} (built : Result DataVectors E) → IfOk built (λ v. SaysOfCharacters given (vectors_data v))
    → IfOk built (λ v. SaysOfCharacters small_root (vectors_data v))
says_if_built (Ok v) says = says_small_root (vectors_data v) says
says_if_built (Err error) says = tt

-- a builder's data step by step, with the entries that it was given
pub given_step_by_step : (empty one two three : Data) (context : Context) (others a b : ℕ)
    → empty ≡ empty_data others → others ≡ implicit_entry
    → one ≡ and_context empty context → context ≡ context_of_a
    → two ≡ set_in one 0x61 0x61 a → a ≡ entry_of_a
    → three ≡ set_in two 0x62 0x62 b → b ≡ letter_b
    → three ≡ given
given_step_by_step empty one two three context others a b is_empty is_others is_one is_context is_two is_a is_three is_b =
    let none : Data = empty_data implicit_entry in
    let with_context : Data = and_context none context_of_a in
    let with_a : Data = set_in with_context 0x61 0x61 entry_of_a in
    let begun : empty ≡ none = is_empty ∙ ap empty_data is_others in
    let first : one ≡ with_context = is_one ∙ ap (λ x. and_context x context) begun ∙ ap (and_context none) is_context in
    let second : two ≡ with_a = is_two ∙ ap (λ x. set_in x 0x61 0x61 a) first ∙ ap (set_in with_context 0x61 0x61) is_a in
    is_three ∙ ap (λ x. set_in x 0x62 0x62 b) second ∙ ap (set_in with_a 0x62 0x62) is_b
