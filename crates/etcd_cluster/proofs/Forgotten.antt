-- What a server knows once it has forgotten pieces.
use Rattle.std.proofs.Common.{◌≡◌, ℕ, List, sym, subst}
use Rattle.std.specs.Prelude.{Option, None, Some}
use Rattle.etcd_cluster.specs.Knowing.{Agrees}
use Rattle.etcd_cluster.specs.Leading.{IsOf, Leads}
use Rattle.etcd_cluster.specs.Stands.{ChangeFact, Stand}
use Rattle.etcd_cluster.specs.Worlds.{World, forgotten}
use Rattle.etcd_cluster.proofs.Looked.{IsKnownAll}

no_piece : (piece : List ℕ) → ◌≡◌ {A = Option (List ℕ)} None (Some piece) → ⊥
no_piece piece is = cc

pub agrees_less : (known stand : Stand) → Agrees known stand → Agrees (forgotten known) stand
agrees_less known stand agrees =
    record { version = agrees.version; head = agrees.head; pieces = λ generation at piece is. absurd (no_piece piece is) }

pub leads_less : (server its version : ℕ) (before sent : ChangeFact → Type 0) (may now : World → Type 0) → its ≡ server
    → ((one : ChangeFact) → sent one → before one) → ((w : World) → now w → may w) → Leads server version before may → Leads its version sent now
leads_less server its version before sent may now same was less led = record {
  spent = λ one is. led.spent one (was one is);
  each = λ w is. subst (λ (s : ℕ). IsOf s version w) (sym same) (led.each w (less w is));
}

pub read_less : (known less : Stand) (may now : World → Type 0) → less ≡ forgotten known → ((w : World) → now w → may w) → IsKnownAll known may → IsKnownAll less now
read_less known less may now is was all =
    let so : IsKnownAll (forgotten known) now =
    record {
      no_older = λ w here. all.no_older w (was w here);
      head = λ w here same. all.head w (was w here) same;
      pieces = λ w here same generation at piece told. absurd (no_piece piece told);
    } in
    subst (λ (s : Stand). IsKnownAll s now) (sym is) so
