-- What a Basic header's credentials lead to.
use Rattle.std.proofs.Common.{◌≡◌, ◌&&◌, ℕ, List, Bool, true, false, not, if◌then◌else◌, ◌⊎◌, inl, inr, refl, Result, Ok, Err, arith}
use Rattle.registry_json.specs.Faults.{◌>>=◌, GivesUnless}
use Rattle.authentication.specs.Authentication.{is_basic, basic_text, credentials_in}
use Rattle.authentication.specs.declared.authentication.AuthFault.{AuthFault}
use Rattle.authentication.specs.declared.authentication.AuthFault.TheVariants.{TwoMethods, Memory}

-- the answer is the expected one
same : {A : Type 0} (W : Type 0) (r : Result A AuthFault) → GivesUnless Memory W r r
same W (Ok x) = refl
same W (Err e) = inr refl

-- the credentials of a header were read, beside which no secret was sent
pub answered : (W : Type 0) (secret_sent : Bool) (credentials : Result (List ℕ × List ℕ) AuthFault) (next : List ℕ × List ℕ → Result ℕ AuthFault) (id secret : List ℕ) (r : Result ℕ AuthFault) →
    secret_sent ≡ false → credentials ≡ Ok (id, secret) → r ≡ next (id, secret) → GivesUnless Memory W r (if secret_sent then Err TwoMethods else (credentials >>= next))
answered W secret_sent credentials next id secret r none read is = rw none (rw read (rw is (same W (next (id, secret)))))

-- they were not
pub refused : (secret_sent basic : Bool) (credentials : Result (List ℕ × List ℕ) AuthFault) (next : List ℕ × List ℕ → Result ℕ AuthFault) (e : AuthFault) (r : Result ℕ AuthFault) →
    secret_sent ≡ false → r ≡ Err e → ((e ≡ Memory) × (basic ≡ true)) ⊎ (credentials ≡ Err e) →
    GivesUnless Memory (not secret_sent && basic ≡ true) r (if secret_sent then Err TwoMethods else (credentials >>= next))
refused secret_sent basic credentials next e r none is why = rw is (rw none (elim why [ inl memory ↦ inl memory | inr read ↦ inr (rw read refl) ]))

-- a header with a text is a Basic one
pub text_basic : (header text : List ℕ) → basic_text header ≡ Ok text → is_basic header ≡ true
text_basic header text is = grind (arith, is)

-- why its credentials were not read
pub unread : (basic : Bool) (read : Result (List ℕ) AuthFault) (text : List ℕ) (e : AuthFault) → basic ≡ true → read ≡ Ok text →
    ((e ≡ Memory) × Unit {0}) ⊎ (credentials_in text ≡ Err e) → ((e ≡ Memory) × (basic ≡ true)) ⊎ ((read >>= credentials_in) ≡ Err e)
unread basic read text e is of why = elim why [ inl memory ↦ inl (memory.0, is) | inr faulty ↦ inr (rw of faulty) ]
