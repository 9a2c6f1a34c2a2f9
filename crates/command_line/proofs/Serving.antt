-- How a service fails.
use Rattle.std.proofs.Common.{◌≡◌, inl, inr, ℕ, List, Some, Result, Ok, Err, subst, sym}
use Rattle.command_line.specs.Names.{HoldsRegistry, Announces, ListenFault}
use Rattle.command_line.proofs.Names.{RegistryRecord, IsUntouched, Output, Outputs, FailsService, HasAll, HasEnded, HasFiles, IsMute, ServeEnded, ServiceFiles, handed, registry_bytes}
use Rattle.command_line.proofs.Names.{address_of, Startings, CommandFault, ServeWords, Service, Serve, Start}
use Rattle.command_line.specs.Listening.{LacksPlace}
use Rattle.command_line.specs.Places.{IsStarted}
use Rattle.start_words.specs.Lists.{place_of}
use Rattle.std.specs.Prelude.{OnOk, IfErr}
use Rattle.daemon.specs.ByCount.{handed_count}
use Rattle.command_line.specs.Faults.{IsOfService, IsOfServing, IsUnaudited}

-- `start` has its files, where it has all
pub has_files : (service : Service) (files : ServiceFiles) → HasAll service files → HasFiles service files
has_files (Start given) files all = all
has_files (Serve given) files all = let is = all.service_is in absurd (cc)

-- its server does not listen
pub not_heard : {W E : Type 0} (starts : Startings) (service : Service) (files : ServiceFiles) (fault : CommandFault) (to : Outputs W E) (cause : ListenFault) →
    HasFiles service files → IsUntouched to.err → IsMute service fault to.out → IsOfService service cause fault → FailsService starts service files fault to
not_heard starts service files fault to cause ready told mute is = inl (told, inr (record { ready = ready; cause = cause; fault_is = is; mute = mute }))

-- so many connections were served, or none
pub served : {W T : Type 0} (r : Result T CommandFault) (starts : Startings) (service : Service) (files : ServiceFiles) (out : Output W) (registry : RegistryRecord)
    (given : ServeWords) → HoldsRegistry (registry_bytes files) registry → service ≡ Serve given → OnOk r (Announces (out.seen out.old) (out.seen out.new)) →
    OnOk r (starts.by_count (handed_count registry given.seed given.count)) → OnOk r (ServeEnded starts service files out)
served (Ok u) starts service files out registry given held is announced done =
    record { listened = record { registry = registry; held = held; announced = announced }; given = given; service_is = is; served = done }
served (Err f) starts service files out registry given held is announced done = tt

pub not_served : {W E T : Type 0} (r : Result T CommandFault) (starts : Startings) (service : Service) (files : ServiceFiles) (to : Outputs W E) (registry : RegistryRecord)
    (given : ServeWords) → HoldsRegistry (registry_bytes files) registry → service ≡ Serve given → IsUntouched to.err →
    IfErr r (λ fault. (cause : ListenFault) × IsOfServing cause fault) → IfErr r (λ fault. FailsService starts service files fault to)
not_served (Ok u) starts service files to registry given held is same deaf = tt
not_served (Err f) starts service files to registry given held is same deaf =
    not_heard starts service files f to deaf.0 (rw is (registry, held)) same (rw is tt) (rw is deaf.1)

-- it was started where its state is to stand, by all that it has
pub was_started : {W E : Type 0} (starts : Startings) (service : Service) (files : ServiceFiles) (fault : CommandFault) (to : Outputs W E) (all : HasAll service files)
    → IsStarted starts all.given.address.now (handed all) fault to → FailsService starts service files fault to
was_started starts service files fault to all (inl not) =
    not_heard starts service files fault to not.2 (has_files service files all) not.0 (subst (λ (s : Service). IsMute s fault to.out) (sym all.service_is) not.1)
    (subst (λ (s : Service). IsOfService s not.2 fault) (sym all.service_is) not.3)
was_started starts service files fault to all (inr (inl not)) =
    inl (not.0, inl (not.1, inr (inr (inr (record { all = all; refused = subst (λ (s : Service). LacksPlace (address_of s) (place_of all.given.options) fault) (sym all.service_is) not.2 })))))
was_started starts service files fault to all (inr (inr ends)) = inr (record { all = all; ends = ends.ends })

-- the one in which it is to be told of each request was not
pub not_audited : {W E : Type 0} (starts : Startings) (service : Service) (files : ServiceFiles) (fault : CommandFault) (to : Outputs W E) (all : HasAll service files) →
    IsUntouched to.err → IsUntouched to.out → (path : List ℕ) × (all.given.options.audit ≡ Some path) × IsUnaudited path fault → FailsService starts service files fault to
not_audited starts service files fault to all told mute why =
    inl (told, inl (mute, inr (inr (inl (record { all = all; path = why.0; named = why.1; refused = why.2 })))))
