use Rattle.std.proofs.Common.{◌≡◌, ◌++◌, ◌∷◌, [], ◌∙◌, ap, sym, map, subst, string_bytes, rules, None}
use Rattle.params.proofs.Names.{map-append, IsCatalogue, name_fault, IsCatalogue-push}
use Rattle.params.proofs.catalogue.Catalogue.push.Goals as goal

pub invariant_of-self-2 : goal.invariant_of-self-2
invariant_of-self-2 c =
    let old = c.self.inside.names.items in
    let names = map string_bytes old in
    let fits : name_fault names c.args.name.now ≡ None = search rules in
    let items : c.push.new.self.items ≡ old ++ c.in_ok-name.name ∷ [] = search rules in
    let text : string_bytes c.in_ok-name.name ≡ c.args.name.now = search rules in
    let pushed : map string_bytes c.push.new.self.items ≡ names ++ c.args.name.now ∷ [] =
    ap (λ l. map string_bytes l) items ∙ map-append string_bytes old (c.in_ok-name.name ∷ []) ∙ ap (λ t. names ++ t ∷ []) text in
    subst IsCatalogue (sym pushed) (IsCatalogue-push names c.args.name.now c.self.invariant fits)
