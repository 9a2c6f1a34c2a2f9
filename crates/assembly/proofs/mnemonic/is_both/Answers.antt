use Rattle.std.proofs.Common.{◌≡◌, ◌≢◌, ◌++◌, sym, ap, ◌∙◌, Option, Some, None, MatchOption, Bor}
use Rattle.std.proofs.lemmas.List.{append_cancel_left}
use Rattle.std.proofs.lemmas.Bool.{false≢true}
use Rattle.std.proofs.lemmas.Bool.Decides.{Decides-eqb}
use Rattle.std.proofs.lemmas.Slice.Eq.{strip_prefix_is, bytes_eq-Decides}
use Rattle.assembly.specs.Text.{Word}
use Rattle.assembly.proofs.mnemonic.is_both.Goals as goal

-- what stands behind a front
abbrev Front : Word → Word → Option (Bor Word) → Type 0
Front s p r = MatchOption r ((rest : Word) → s ≢ p ++ rest) (λ x. s ≡ p ++ x.now)

behind : (r : Option (Bor Word)) (x : Bor Word) (s p : Word) → Front s p r → r ≡ Some x → s ≡ p ++ x.now
behind None x s p h e = absurd cc
behind (Some y) x s p h e = let same : y ≡ x = cc in h ∙ ap (λ (b : Bor Word). p ++ b.now) same

no_front : (r : Option (Bor Word)) (s p : Word) → Front s p r → r ≡ None → (rest : Word) → s ≢ p ++ rest
no_front None s p h e = h
no_front (Some y) s p h e = absurd cc

pub returns-in-Some : goal.returns-in-Some
returns-in-Some c =
    let front : Front c.args.word.now c.args.front.now c.strip_prefix.result = strip_prefix_is Decides-eqb c.args.word.now c.args.front.now c.strip_prefix.result c.strip_prefix.ensures.cases in
    let k = behind c.strip_prefix.result c.in-Some.rest c.args.word.now c.args.front.now front c.in-Some.is in
    let same = bytes_eq-Decides c.in-Some.rest.now c.args.back.now in (
      λ h. k ∙ ap (λ (r : Word). c.args.front.now ++ r) (same.0 (sym c.eq.ensures ∙ h)),
      λ h. c.eq.ensures ∙ same.1 (append_cancel_left c.args.front.now c.in-Some.rest.now c.args.back.now (sym k ∙ h)),
    )

pub returns-in-None : goal.returns-in-None
returns-in-None c =
    let front : Front c.args.word.now c.args.front.now c.strip_prefix.result = strip_prefix_is Decides-eqb c.args.word.now c.args.front.now c.strip_prefix.result c.strip_prefix.ensures.cases in
    (λ h. absurd (false≢true h), λ h. absurd (no_front c.strip_prefix.result c.args.word.now c.args.front.now front c.in-None.is c.args.back.now h))
