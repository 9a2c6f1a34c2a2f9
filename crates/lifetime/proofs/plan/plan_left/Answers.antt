use Rattle.std.proofs.Common.{◌≡◌, ◌∙◌, ⊎_elim, inl, inr, ℕ, List, map, refl, subst}
use Rattle.batch_file.specs.Frames.{IsFileOf}
use Rattle.lifetime.proofs.Names.{hook_fact}
use Rattle.lifetime.proofs.Planning.{made_of, refuses_of}
use Rattle.lifetime.proofs.plan.plan_left.Goals as goal

pub returns-in-Ok-clause-made : goal.returns-in-Ok-clause-made
returns-in-Ok-clause-made c =
    let file = c.as_bytes.result.now in
    let whole = c.prepare-prepared.ensures.whole file c.new-source.ensures.whole in
    let over = rw c.in-Ok.is at c.prepare-prepared.ensures.over in record {
      file = file;
      is = subst (λ (bs : List (List ℕ)). IsFileOf bs file) c.as_bytes.ensures.batches c.as_bytes.ensures.readable;
      makes = made_of c.args.registry (map hook_fact c.args.hooks.now) _ file _ (over ∙ whole) c.new.ensures c.in-Ok.prepared (rw c.in-Ok.is at c.prepare-prepared.ensures.makes);
      origin = refl;
      ended = refl;
      torn = refl;
    }

pub returns-in-Err-clause-refused : goal.returns-in-Err-clause-refused
returns-in-Err-clause-refused c =
    let file = c.as_bytes.result.now in
    let whole = c.prepare-prepared.ensures.whole file c.new-source.ensures.whole in
    let is : IsFileOf c.args.left.frames file = subst (λ (bs : List (List ℕ)). IsFileOf bs file) c.as_bytes.ensures.batches c.as_bytes.ensures.readable in
    ⊎_elim (λ stops. inl stops)
    (λ refuses. inr (file, is, refuses_of c.args.registry (map hook_fact c.args.hooks.now) _ file _ (refuses.0 ∙ whole) c.new.ensures c.in-Err.not.fault refuses.1))
    (rw c.in-Err.is at c.prepare-prepared.ensures.refused)
