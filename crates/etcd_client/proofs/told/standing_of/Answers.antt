use Rattle.std.proofs.Common.{◌≡◌, ◌≤◌, ◌<◌, ◌∙◌, ℕ, List, [], ◌∷◌, length, get_or, map, refl, sym, ap, arith}
use Rattle.std.specs.Prelude.{None, Some, Option, option_map}
use Rattle.etcd_cluster.specs.declared.change.Head.{Head}
use Rattle.etcd_json.specs.Replies.{entry_fact}
use Rattle.etcd_json.specs.declared.reply.Entry.{Entry}
use Rattle.etcd_client.specs.Told.{head_in, standing_by, standing_of}
use Rattle.etcd_client.proofs.told.standing_of.Goals as goal

-- the one that there is says no head of that cluster
of_none : (prefix : List ℕ) (cluster : ℕ) (entries : List Entry) (one other : Entry) → 1 ≤ length entries → length entries < 2 → one ≡ get_or entries 0 other
    → head_in prefix cluster (entry_fact one) ≡ None → standing_of prefix cluster (map entry_fact entries) ≡ None
of_none prefix cluster [] one other some single is nothing = absurd (omega (arith, some))
of_none prefix cluster (first ∷ []) one other some single is nothing =
    ap (λ (told : Option Head). option_map (λ standing. Some standing) (option_map (standing_by first.written) told))
    (ap (λ (entry : Entry). head_in prefix cluster (entry_fact entry)) (sym is) ∙ nothing)
of_none prefix cluster (first ∷ (second ∷ more)) one other some single is nothing = absurd (omega (arith, single))

-- of several none is the head
of_several : (prefix : List ℕ) (cluster : ℕ) (entries : List Entry) → 2 ≤ length entries → standing_of prefix cluster (map entry_fact entries) ≡ None
of_several prefix cluster [] several = absurd (omega (arith, several))
of_several prefix cluster (one ∷ []) several = absurd (omega (arith, several))
of_several prefix cluster (one ∷ (two ∷ more)) several = refl

pub returns-in-None : goal.returns-in-None
returns-in-None c =
    of_none c.args.names.now.prefix.items c.args.cluster c.args.entries.now c.entry-item.result _ c.in-len1.len_at_least c.in-len1.len_below c.entry-item.is
    (sym c.head_in.ensures ∙ c.in-None.is)

pub returns-in_default : goal.returns-in_default
returns-in_default c = of_several c.args.names.now.prefix.items c.args.cluster c.args.entries.now c.in_default.len_at_least
