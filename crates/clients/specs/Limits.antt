-- The limits of a registry.
use Rattle.std.specs.Prelude.{ℕ}
pub use Rattle.registry_json.specs.Limits.{life_limit, key_limit, identifier_limit}

-- so many bytes has its text at most, without and with the member `limits`
abbrev pub registry_limit : ℕ
registry_limit = 1048576

abbrev pub large_registry_limit : ℕ
large_registry_limit = 16777216

-- so many owners at most, without and with the member `limits`
abbrev pub few_owner_limit : ℕ
few_owner_limit = 4096

abbrev pub owner_limit : ℕ
owner_limit = 65536

-- an owner's number is at most this
abbrev pub owner_number_limit : ℕ
owner_number_limit = 4294967295

-- so many clients and redirect URIs of a client at most

abbrev pub client_limit : ℕ
client_limit = 256

abbrev pub redirect_count_limit : ℕ
redirect_count_limit = 8

-- so many bytes has a redirect URI at most
abbrev pub redirect_limit : ℕ
redirect_limit = 2048

-- so many secrets has a client at most
abbrev pub secret_count_limit : ℕ
secret_count_limit = 2

-- so many codes and tokens that have not expired, and consents, are kept at most, where a registry does not say it
abbrev pub usual_record_limit : ℕ
usual_record_limit = 65536

abbrev pub usual_consent_limit : ℕ
usual_consent_limit = 4096

-- and a registry may say this at most
abbrev pub greatest_limit : ℕ
greatest_limit = 16777216
