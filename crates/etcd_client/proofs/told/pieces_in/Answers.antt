use Rattle.std.proofs.Common.{◌≡◌, ◌∙◌, ◌++◌, ◌∷◌, [], List, map, sym, ap, length, take, drop, ◌-◌}
use Rattle.std.proofs.lemmas.List.{map-append}
use Rattle.std.specs.Prelude.{option_map}
use Rattle.etcd_cluster.specs.Stands.{PieceFact, piece_fact}
use Rattle.etcd_cluster.specs.declared.change.Piece.{Piece}
use Rattle.etcd_json.specs.Replies.{entry_fact}
use Rattle.etcd_client.specs.Told.{each, piece_told}
use Rattle.etcd_client.proofs.Each.{one_told}
use Rattle.etcd_client.proofs.told.pieces_in.Goals as goal

pub loop-rest-preserved : goal.loop-rest-preserved
loop-rest-preserved c =
    let before = c.args.before.now in
    let done = c.loop-rest.pieces.items in
    let rest = c.loop-rest.rest.now in
    let one = c.in_ok-piece_told.field-0 in
    let told = one_told entry_fact (piece_told before) (map piece_fact done) rest c.entry-item.result _ c.in-len1-up.len_at_least c.entry-item.is (piece_fact one) c.in_ok-piece_told.ensures in
    let more : map piece_fact c.push.new.self.items ≡ map piece_fact done ++ piece_fact one ∷ [] =
    ap (λ (ps : List Piece). map piece_fact ps) c.in_ok-push.ensures.items ∙ map-append piece_fact done (one ∷ []) in
    c.loop-rest.invariant ∙ told
    ∙ ap (λ (ps : List PieceFact). option_map (λ more. ps ++ more) (each (piece_told before) (map entry_fact (take (length rest - 1) (drop 1 rest))))) (sym more)
