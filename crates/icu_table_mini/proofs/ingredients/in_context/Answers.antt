-- The one character, and the one context.
use Rattle.std.proofs.Common.{◌++◌, ◌∷◌, [], ap, subst, ◌∙◌, IfOk}
use Rattle.icu_table_provider.specs.builder.AddedContexts.{given_context}
use Rattle.icu_table_provider.specs.builder.Building.{SaysOfCharacters, empty_data}
use Rattle.icu_table_data.specs.Data.{Context, Data}
use Rattle.icu_table_provider.specs.builder.OwnedData.{vectors_data}
use Rattle.icu_table_mini.specs.Characters.{with_characters}
use Rattle.icu_table_mini.proofs.ingredients.in_context.Goals as goal

pub returns : goal.returns
returns c =
    let set : Data → Data = λ d. record d { value = with_characters ((c.args.c, c.args.entry) ∷ []) d.value } in
    let context : Context = given_context c.args.default c.args.mappings.now in
    let add : Data → Data = λ d. record d { contexts = d.contexts ++ context ∷ [] } in
    let says : Data → Type 0 = λ d. IfOk c.build.result (λ v. SaysOfCharacters d (vectors_data v)) in
    subst says (c.in_ok-add_context.ensures.adds ∙ ap add (c.set_characters.ensures ∙ ap set (c.in_ok-builder.ensures ∙ ap empty_data c.fallback.ensures.entry))) c.build.ensures.says
