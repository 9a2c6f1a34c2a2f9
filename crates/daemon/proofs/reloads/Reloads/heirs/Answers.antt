use Rattle.std.proofs.Common.{◌≡◌, ◌∙◌, List, ℕ, Some, ap, subst, sym}
use Rattle.desk.specs.declared.candidate.Candidate.{Candidate}
use Rattle.daemon.specs.Reloading.{KeepsNames}
use Rattle.daemon.proofs.reloads.Reloads.heirs.Goals as goal

same_text : (one other : List ℕ) → Some one ≡ Some other → one ≡ other
same_text one other is = cc

pub returns : goal.returns
returns g c =
    let next = c.in_ok-heir.ensures in
    let former = c.in_ok-heir-2.ensures in record {
      former = ap (λ (x : Candidate). x.text.items) former ∙ sym (same_text c.in-Ok.text.items c.in_ok-former.former.text.items c.in_ok-former.ensures.read) ∙ c.in-Ok.ensures.items ∙ c.deref.ensures.value;
      named = subst (λ (x : Candidate). KeepsNames x.registry c.in_ok-heir.field-0.candidate.registry) (sym former)
          (subst (λ (x : Candidate). KeepsNames c.in_ok-former.former.registry x.registry) (sym next) c.in_default-keeps_names.ensures.kept);
    }
