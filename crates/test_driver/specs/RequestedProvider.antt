-- What the provider of the driver returns: to a request with a type, to one for a locale alone, and to the empty
-- request.
use Rattle.std.specs.Prelude.{ℕ, List, [], ◌∷◌, Some, None}
use Rattle.icu_table_provider.specs.Requests.{Request}

-- what serves a request without a type: the empty one, and one for a locale
abbrev pub by_locale : {A : Type 0} → A → A → List ℕ → A
by_locale local root [] = root
by_locale local root (_ ∷ _) = local

-- what serves a request: one with a type, one for a locale alone, the empty one
abbrev pub by_request : {A : Type 0} → A → A → A → Request → A
by_request typed local root r =
    elim r.collation_type [
      | Some _ ↦ typed
      | None ↦ by_locale local root r.locale
    ]
