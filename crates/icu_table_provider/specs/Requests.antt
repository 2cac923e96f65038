-- Requests to a provider of tables.
use Rattle.std.specs.Prelude.{◌≡◌, ℕ, List, Option, None, [], option_map}
use Rattle.icu_table_provider.specs.declared.request.DataRequest.{DataRequest}

-- for the root, and no type
pub record IsEmptyRequest (r : DataRequest) : Type 0 where
  pub locale : r.locale.now ≡ []
  pub collation_type : r.collation_type ≡ None

-- what is asked for, by the bytes of the locale and of the type
pub record Request : Type 0 where
  pub locale : List ℕ
  pub collation_type : Option (List ℕ)

-- what a request says
abbrev pub request_of : DataRequest → Request
request_of r = record { locale = r.locale.now; collation_type = option_map (λ t. t.now) r.collation_type }

-- for the root
abbrev pub empty_request : Request
empty_request = record { locale = []; collation_type = None }

-- for the locale alone
abbrev pub without_type : Request → Request
without_type r = record { locale = r.locale; collation_type = None }
