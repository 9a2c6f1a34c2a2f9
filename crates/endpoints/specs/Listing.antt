-- What a server's codes, tokens and consents are listed as.
use Rattle.std.specs.Prelude.{◌≡◌, ℕ, List}
use Rattle.endpoints.specs.Names.{FitsConsents, kept_consents, Event, greatest_family, FitsHistory, FitsStore}
use Rattle.consent.specs.declared.kept_consent.KeptConsent.{KeptConsent}
use Rattle.consent.specs.declared.kept_record.KeptRecord.{KeptRecord}
use Rattle.token_store.specs.Image.{as_kept}
use Rattle.endpoints.specs.Server.{SeenServer}

-- whatever history the server fits, these are its codes and tokens
abbrev pub AreRecordsOf : {H : Type 0} → SeenServer H → List KeptRecord → Type 0
AreRecordsOf server records =
    (history : List Event) → FitsStore server.store history server.greatest → FitsHistory (as_kept records) history server.greatest

-- this is its greatest number of a family
abbrev pub IsLastOf : {H : Type 0} → SeenServer H → ℕ → Type 0
IsLastOf server last = (history : List Event) (moment : ℕ) → FitsStore server.store history moment → last ≡ greatest_family history

-- and these are its consents
abbrev pub AreConsentsOf : {H : Type 0} → SeenServer H → List KeptConsent → Type 0
AreConsentsOf server consents = (history : List Event) → FitsConsents server.consents history → FitsConsents (kept_consents consents) history
