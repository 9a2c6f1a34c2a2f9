-- What came, piece after piece.
use Rattle.std.proofs.Common.{◌≡◌, ◌++◌, ◌∙◌, ℕ, List, [], append_assoc, refl, sym, ap, subst}
use Rattle.std.specs.Io.KnownBytes.{Consumes}
use Rattle.std.specs.Prelude.{Option, None, Some, Result, Ok}
use Rattle.http1.specs.declared.client.Client.{Client}
use Rattle.http_call.specs.Answers.{Answers, Ends, Grows, HasRun, Reading, more, none}

pub nothing_came : (known : Option (List ℕ)) → Consumes known known []
nothing_came None = tt
nothing_came (Some bytes) = refl

pub both_came : (old mid new : Option (List ℕ)) (first second : List ℕ) → Consumes old mid first → Consumes mid new second → Consumes old new (first ++ second)
both_came None mid new first second a b = tt
both_came (Some old) None new first second a b = absurd a
both_came (Some old) (Some mid) None first second a b = absurd b
both_came (Some old) (Some mid) (Some new) first second a b = a ∙ ap (λ (l : List ℕ). first ++ l) b ∙ sym (append_assoc first second new)

pub run_none : (known : Option (List ℕ)) (first : Reading) → HasRun known known first first
run_none known first = ([], nothing_came known, none)

pub run_more : (old mid new : Option (List ℕ)) (first at now : Reading) → HasRun old mid first at → Grows mid new at now → HasRun old new first now
run_more old mid new first at now run grows =
    (run.0 ++ grows.0, both_came old mid new run.0 grows.0 run.1 grows.1, more run.2 grows.2)

pub run_ends : (old new : Option (List ℕ)) (first at last : Reading) → HasRun old new first at → Ends at last → Answers old new first last
run_ends old new first at last run ends = (run.0, run.1, record { at = at; runs = run.2; ends = ends })

-- nothing of the body has come yet
pub run_begun : (known : Option (List ℕ)) (client : Client) (unread body : List ℕ) → body ≡ []
    → HasRun known known (record { client = client; unread = unread; status = 0; body = [] }) (record { client = client; unread = unread; status = 0; body = body })
run_begun known client unread body empty =
    subst (λ (b : List ℕ). HasRun known known (record { client = client; unread = unread; status = 0; body = [] }) (record { client = client; unread = unread; status = 0; body = b }))
    (sym empty) (run_none known (record { client = client; unread = unread; status = 0; body = [] }))

pub ok_is : {A E : Type 0} (a b : A) → a ≡ b → ◌≡◌ {A = Result A E} (Ok a) (Ok b)
ok_is {A} a b is = ap (λ (x : A). Ok x) is
