use Rattle.std.proofs.Common.{◌≡◌, ◌+◌, ◌∙◌, ℕ, List, length, take, drop, refl, sym, ap, subst, arith, rules}
use Rattle.std.proofs.lemmas.List.{length-drop, length-take-le}
use Rattle.std.specs.Global.{Vec}
use Rattle.std.specs.Prelude.{IsTrue}
use Rattle.batch_file.specs.Crashes.{Only}
use Rattle.etcd_cluster.specs.Stands.{Stand}
use Rattle.etcd_cluster.specs.declared.change.Head.{Head}
use Rattle.cluster_file.specs.Devices.{IsSoleSince, LeavesOrSeen, Proceeds, leaves}
use Rattle.cluster_file.specs.Files.{IsSound, IsSynced, IsWhole, piece_of, seen_of}
use Rattle.cluster_file.specs.Runs.{IsRunOf}
use Rattle.cluster_file.specs.declared.file.ClusterFile.{ClusterFile}
use Rattle.cluster_file.specs.declared.merging.Run.{Run}
use Rattle.cluster_file.proofs.Putting.{done_crash, done_only, drop_cut, made_sole, put_done, put_piece, put_run, put_undone, undone_crash}
use Rattle.cluster_file.proofs.Synced.{final_seen, final_sound, final_synced, final_whole, not_seen, not_whole}
use Rattle.cluster_file.proofs.file.ClusterFile.put_rest.Goals as goal

pub returns-clause-seen : goal.returns-clause-seen
returns-clause-seen g c =
    let D = g.C.Cluster in
    let old = c.args.self.now in
    let head : Head = record c.next_head-head.result { end = c.args.end; room = c.args.room } in
    let from = c.args.at in
    let to = c.args.size in
    let place : ℕ = c.next_head-head.result.end + from in
    let at : place ≡ old.standing.head.end + from = ap (λ (n : ℕ). n + from) c.next_head-head.ensures.end in
    let generation = c.next_head-head.ensures.generation in
    let laid = c.requires.laid in
    let new = c.put_last.new.self in
    subst (λ (x : ClusterFile _). seen_of D x ≡ seen_of D old) (sym c.note_synced.ensures.same)
    (final_seen D old c.requires.sound head place from to c.requires.within c.requires.ordered at generation c.requires.end laid.bytes laid.has laid.made new
    c.in_ok-put_last.ensures.made c.requires.zeros c.args.room refl c.requires.room c.note_synced.new.self.unsynced c.note_synced.ensures.none c.note_synced.new.self.run)

pub returns-clause-synced : goal.returns-clause-synced
returns-clause-synced g c =
    let D = g.C.Cluster in
    let old = c.args.self.now in
    let head : Head = record c.next_head-head.result { end = c.args.end; room = c.args.room } in
    let from = c.args.at in
    let to = c.args.size in
    let place : ℕ = c.next_head-head.result.end + from in
    let at : place ≡ old.standing.head.end + from = ap (λ (n : ℕ). n + from) c.next_head-head.ensures.end in
    let generation = c.next_head-head.ensures.generation in
    let laid = c.requires.laid in
    let new = c.put_last.new.self in
    subst (λ (x : ClusterFile _). IsSynced x) (sym c.note_synced.ensures.same)
    (final_synced D old c.requires.sound head place from to c.requires.within c.requires.ordered at generation c.requires.end laid.bytes laid.has laid.made new
    c.in_ok-put_last.ensures.made c.requires.zeros c.args.room refl c.requires.room c.note_synced.new.self.unsynced c.note_synced.ensures.none c.note_synced.new.self.run)

pub returns-clause-whole : goal.returns-clause-whole
returns-clause-whole g c =
    let D = g.C.Cluster in
    let old = c.args.self.now in
    let head : Head = record c.next_head-head.result { end = c.args.end; room = c.args.room } in
    let from = c.args.at in
    let to = c.args.size in
    let place : ℕ = c.next_head-head.result.end + from in
    let at : place ≡ old.standing.head.end + from = ap (λ (n : ℕ). n + from) c.next_head-head.ensures.end in
    let generation = c.next_head-head.ensures.generation in
    let laid = c.requires.laid in
    let new = c.put_last.new.self in
    λ working.
    subst (λ (x : ClusterFile _). IsSound D x × IsWhole D x) (sym c.note_synced.ensures.same) (
      final_sound D old c.requires.sound head place from to c.requires.within c.requires.ordered at generation c.requires.end laid.bytes laid.has laid.made new
          c.in_ok-put_last.ensures.made c.requires.zeros c.args.room refl c.requires.room c.note_synced.new.self.unsynced c.note_synced.ensures.none c.note_synced.new.self.run,
      final_whole D old c.requires.sound head place from to c.requires.within c.requires.ordered at generation c.requires.end laid.bytes laid.has laid.made new
          c.in_ok-put_last.ensures.made c.requires.zeros c.args.room refl c.requires.room c.note_synced.new.self.unsynced c.note_synced.ensures.none c.note_synced.new.self.run,
    )

pub returns-clause-begun : goal.returns-clause-begun
returns-clause-begun g c =
    let D = g.C.Cluster in
    let old = c.args.self.now in
    let head : Head = record c.next_head-head.result { end = c.args.end; room = c.args.room } in
    let from = c.args.at in
    let to = c.args.size in
    let place : ℕ = c.next_head-head.result.end + from in
    let at : place ≡ old.standing.head.end + from = ap (λ (n : ℕ). n + from) c.next_head-head.ensures.end in
    let generation = c.next_head-head.ensures.generation in
    let laid = c.requires.laid in
    let new = c.put_last.new.self in
    subst (λ (x : ClusterFile _). IsTrue x.has_begun) (sym c.note_synced.ensures.same) c.in_ok-put_last.ensures.made.begun

pub returns-in_err-put_last-clause-seen : goal.returns-in_err-put_last-clause-seen
returns-in_err-put_last-clause-seen g c =
    let D = g.C.Cluster in
    let old = c.args.self.now in
    let head : Head = record c.next_head-head.result { end = c.args.end; room = c.args.room } in
    let from = c.args.at in
    let to = c.args.size in
    let place : ℕ = c.next_head-head.result.end + from in
    let at : place ≡ old.standing.head.end + from = ap (λ (n : ℕ). n + from) c.next_head-head.ensures.end in
    let generation = c.next_head-head.ensures.generation in
    let laid = c.requires.laid in
    let new = c.put_last.new.self in
    not_seen D old c.requires.sound head place from to c.requires.within c.requires.ordered at generation c.requires.end laid.bytes laid.has laid.made new
    c.put_last.ensures.kept c.requires.zeros c.requires.room c.in_err-put_last.ensures.not

pub returns-in_err-put_last-clause-whole : goal.returns-in_err-put_last-clause-whole
returns-in_err-put_last-clause-whole g c =
    let D = g.C.Cluster in
    let old = c.args.self.now in
    let head : Head = record c.next_head-head.result { end = c.args.end; room = c.args.room } in
    let from = c.args.at in
    let to = c.args.size in
    let place : ℕ = c.next_head-head.result.end + from in
    let at : place ≡ old.standing.head.end + from = ap (λ (n : ℕ). n + from) c.next_head-head.ensures.end in
    let generation = c.next_head-head.ensures.generation in
    let laid = c.requires.laid in
    let new = c.put_last.new.self in
    not_whole D old c.requires.sound head place from to c.requires.within c.requires.ordered at generation c.requires.end laid.bytes laid.has laid.made new
    c.put_last.ensures.kept c.requires.zeros c.requires.room c.in_err-put_last.ensures.not

pub returns-clause-proceeds : goal.returns-clause-proceeds
returns-clause-proceeds g c =
    let D = g.C.Cluster in
    let L = g.met.C.Cluster in
    let old = c.args.self.now in
    let head : Head = record c.next_head-head.result { end = c.args.end; room = c.args.room } in
    let from = c.args.at in
    let to = c.args.size in
    let place : ℕ = c.next_head-head.result.end + from in
    let at : place ≡ old.standing.head.end + from = ap (λ (n : ℕ). n + from) c.next_head-head.ensures.end in
    let generation = c.next_head-head.ensures.generation in
    let laid = c.requires.laid in
    let new = c.put_last.new.self in
    subst (λ (x : ClusterFile _). Proceeds D old x) (sym c.note_synced.ensures.same)
    (put_done D L.counts_now L.counts_calls L.true_calls L.by_calls old c.requires.sound head place from to c.requires.within c.requires.ordered at generation
    c.requires.end laid.bytes laid.has laid.made new c.put_last.ensures.reading c.put_last.ensures.sent c.in_ok-put_last.ensures.made c.args.room
    c.note_synced.new.self.unsynced c.note_synced.new.self.run
    (subst (λ (x : ClusterFile _). IsRunOf (D.stand x.cluster) c.note_synced.new.self.run) c.note_synced.ensures.same c.note_synced.ensures.run))

pub returns-in_err-put_last-clause-proceeds : goal.returns-in_err-put_last-clause-proceeds
returns-in_err-put_last-clause-proceeds g c =
    let D = g.C.Cluster in
    let L = g.met.C.Cluster in
    let old = c.args.self.now in
    let head : Head = record c.next_head-head.result { end = c.args.end; room = c.args.room } in
    let from = c.args.at in
    let to = c.args.size in
    let place : ℕ = c.next_head-head.result.end + from in
    let at : place ≡ old.standing.head.end + from = ap (λ (n : ℕ). n + from) c.next_head-head.ensures.end in
    let generation = c.next_head-head.ensures.generation in
    let laid = c.requires.laid in
    let new = c.put_last.new.self in
    put_undone D L.counts_now L.counts_calls L.true_calls L.by_calls old c.requires.sound head place from to c.requires.within c.requires.ordered at generation
    c.requires.end laid.bytes laid.has laid.made new c.put_last.ensures.reading c.put_last.ensures.sent c.in_err-put_last.ensures.not
    c.put_last.ensures.kept

pub returns-clause-sole : goal.returns-clause-sole
returns-clause-sole g c =
    let D = g.C.Cluster in
    let L = g.met.C.Cluster in
    let old = c.args.self.now in
    let head : Head = record c.next_head-head.result { end = c.args.end; room = c.args.room } in
    let from = c.args.at in
    let to = c.args.size in
    let place : ℕ = c.next_head-head.result.end + from in
    let at : place ≡ old.standing.head.end + from = ap (λ (n : ℕ). n + from) c.next_head-head.ensures.end in
    let generation = c.next_head-head.ensures.generation in
    let laid = c.requires.laid in
    let new = c.put_last.new.self in
    subst (λ (x : ClusterFile _). IsSoleSince D old x) (sym c.note_synced.ensures.same) (made_sole D old new _ c.in_ok-put_last.ensures.made)

pub returns-clause-durable : goal.returns-clause-durable
returns-clause-durable g c =
    let D = g.C.Cluster in
    let L = g.met.C.Cluster in
    let old = c.args.self.now in
    let head : Head = record c.next_head-head.result { end = c.args.end; room = c.args.room } in
    let from = c.args.at in
    let to = c.args.size in
    let place : ℕ = c.next_head-head.result.end + from in
    let at : place ≡ old.standing.head.end + from = ap (λ (n : ℕ). n + from) c.next_head-head.ensures.end in
    let generation = c.next_head-head.ensures.generation in
    let laid = c.requires.laid in
    let new = c.put_last.new.self in
    subst (λ (x : ClusterFile _). Only (seen_of D old) (leaves D x)) (sym c.note_synced.ensures.same)
    (done_only D L.counts_now L.counts_calls L.true_calls L.by_calls old c.requires.sound head place from to c.requires.within c.requires.ordered at generation
    c.requires.end laid.bytes laid.has laid.made new c.in_ok-put_last.ensures.made c.requires.zeros c.args.room refl c.requires.room c.note_synced.new.self.unsynced
    c.note_synced.ensures.none c.note_synced.new.self.run)

pub returns-clause-crash : goal.returns-clause-crash
returns-clause-crash g c =
    let D = g.C.Cluster in
    let L = g.met.C.Cluster in
    let old = c.args.self.now in
    let head : Head = record c.next_head-head.result { end = c.args.end; room = c.args.room } in
    let from = c.args.at in
    let to = c.args.size in
    let place : ℕ = c.next_head-head.result.end + from in
    let at : place ≡ old.standing.head.end + from = ap (λ (n : ℕ). n + from) c.next_head-head.ensures.end in
    let generation = c.next_head-head.ensures.generation in
    let laid = c.requires.laid in
    let new = c.put_last.new.self in
    subst (λ (x : ClusterFile _). LeavesOrSeen D old x) (sym c.note_synced.ensures.same)
    (done_crash D L.counts_now L.counts_calls L.true_calls L.by_calls old c.requires.sound head place from to c.requires.within c.requires.ordered at generation
    c.requires.end laid.bytes laid.has laid.made new c.in_ok-put_last.ensures.made c.requires.zeros c.args.room refl c.requires.room c.note_synced.new.self.unsynced
    c.note_synced.ensures.none c.note_synced.new.self.run
    (put_done D L.counts_now L.counts_calls L.true_calls L.by_calls old c.requires.sound head place from to c.requires.within c.requires.ordered at generation
    c.requires.end laid.bytes laid.has laid.made new c.put_last.ensures.reading c.put_last.ensures.sent c.in_ok-put_last.ensures.made c.args.room
    c.note_synced.new.self.unsynced c.note_synced.new.self.run
    (subst (λ (x : ClusterFile _). IsRunOf (D.stand x.cluster) c.note_synced.new.self.run) c.note_synced.ensures.same c.note_synced.ensures.run)))

pub returns-in_err-put_last-clause-crash : goal.returns-in_err-put_last-clause-crash
returns-in_err-put_last-clause-crash g c =
    let D = g.C.Cluster in
    let L = g.met.C.Cluster in
    let old = c.args.self.now in
    let head : Head = record c.next_head-head.result { end = c.args.end; room = c.args.room } in
    let from = c.args.at in
    let to = c.args.size in
    let place : ℕ = c.next_head-head.result.end + from in
    let at : place ≡ old.standing.head.end + from = ap (λ (n : ℕ). n + from) c.next_head-head.ensures.end in
    let generation = c.next_head-head.ensures.generation in
    let laid = c.requires.laid in
    let new = c.put_last.new.self in
    undone_crash D L.counts_now L.counts_calls L.true_calls L.by_calls old c.requires.sound head place from to c.requires.within c.requires.ordered at generation
    c.requires.end laid.bytes laid.has laid.made new c.put_last.ensures.sent
    (put_undone D L.counts_now L.counts_calls L.true_calls L.by_calls old c.requires.sound head place from to c.requires.within c.requires.ordered at generation
    c.requires.end laid.bytes laid.has laid.made new c.put_last.ensures.reading c.put_last.ensures.sent c.in_err-put_last.ensures.not c.put_last.ensures.kept)
    c.in_err-put_last.ensures.not c.put_last.ensures.kept c.requires.zeros c.requires.room

pub note_synced-requires-clause-run : goal.note_synced-requires-clause-run
note_synced-requires-clause-run g c =
    let D = g.C.Cluster in
    let L = g.met.C.Cluster in
    let old = c.args.self.now in
    let head : Head = record c.next_head-head.result { end = c.args.end; room = c.args.room } in
    let from = c.args.at in
    let to = c.args.size in
    let place : ℕ = c.next_head-head.result.end + from in
    let at : place ≡ old.standing.head.end + from = ap (λ (n : ℕ). n + from) c.next_head-head.ensures.end in
    let generation = c.next_head-head.ensures.generation in
    let laid = c.requires.laid in
    let new = c.put_last.new.self in
    λ none some.
    let same = c.put_last.ensures.kept.run in
    put_run D L.counts_now L.counts_calls L.true_calls L.by_calls old c.requires.sound head place from to c.requires.within c.requires.ordered at generation
    c.requires.end laid.bytes laid.has laid.made new c.in_ok-put_last.ensures.made new.run
    (subst (λ (r : Run). IsRunOf (D.stand old.cluster) r) (sym same) c.requires.run) none some

pub note_synced-requires-clause-last : goal.note_synced-requires-clause-last
note_synced-requires-clause-last g c =
    let D = g.C.Cluster in
    let L = g.met.C.Cluster in
    let old = c.args.self.now in
    let head : Head = record c.next_head-head.result { end = c.args.end; room = c.args.room } in
    let from = c.args.at in
    let to = c.args.size in
    let place : ℕ = c.next_head-head.result.end + from in
    let at : place ≡ old.standing.head.end + from = ap (λ (n : ℕ). n + from) c.next_head-head.ensures.end in
    let generation = c.next_head-head.ensures.generation in
    let laid = c.requires.laid in
    let new = c.put_last.new.self in
    let items = old.unsynced.items in
    let within = c.requires.within in
    let same = ap (λ (v : Vec ℕ). v.items) c.put_last.ensures.kept.unsynced in
    let cut : c.truncate.new.self.items ≡ take to items = search rules in
    let long = length-take-le to items within in
    let size = ap (λ (l : List ℕ). length l) cut in
    let is : drop from c.truncate.new.self.items ≡ piece_of old from to = ap (λ (l : List ℕ). drop from l) cut ∙ drop_cut from to items c.requires.ordered in
    λ some.
    let rest = length-drop from c.truncate.new.self.items in
    put_piece D L.counts_now L.counts_calls L.true_calls L.by_calls old c.requires.sound head place from to c.requires.within c.requires.ordered at generation
    c.requires.end laid.bytes laid.has laid.made new c.in_ok-put_last.ensures.made (drop from c.truncate.new.self.items) is
    (omega (arith, rest, some))

pub note_synced-requires-clause-end : goal.note_synced-requires-clause-end
note_synced-requires-clause-end g c =
    let D = g.C.Cluster in
    let L = g.met.C.Cluster in
    let old = c.args.self.now in
    let head : Head = record c.next_head-head.result { end = c.args.end; room = c.args.room } in
    let from = c.args.at in
    let to = c.args.size in
    let place : ℕ = c.next_head-head.result.end + from in
    let at : place ≡ old.standing.head.end + from = ap (λ (n : ℕ). n + from) c.next_head-head.ensures.end in
    let generation = c.next_head-head.ensures.generation in
    let laid = c.requires.laid in
    let new = c.put_last.new.self in
    let items = old.unsynced.items in
    let within = c.requires.within in
    let ordered = c.requires.ordered in
    let same = ap (λ (v : Vec ℕ). v.items) c.put_last.ensures.kept.unsynced in
    let cut : c.truncate.new.self.items ≡ take to items = search rules in
    let long = length-take-le to items within in
    let size = ap (λ (l : List ℕ). length l) cut in
    let stands = ap (λ (s : Stand). s.head.end) c.in_ok-put_last.ensures.made.stand in
    let end = c.requires.end in
    omega (arith, long, size, stands, end, at, ordered)
