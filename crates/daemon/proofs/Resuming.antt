-- What is told of a reload by the end of a life.
use Rattle.std.proofs.Common.{◌≡◌, ◌≢◌, ◌∙◌, ℕ, List, ◌∷◌, Option, None, Some, ap, refl, sym, subst}
use Rattle.std.proofs.lemmas.Bool.{false≢true}
use Rattle.std.specs.Prelude.{IfSome, IsSome, option_map}
use Rattle.std.specs.Global.{Vec}
use Rattle.clients.specs.RegistryRecord.{RegistryRecord}
use Rattle.desk.specs.Candidates.{text_of}
use Rattle.desk.specs.Replies.{IsGrantedReply}
use Rattle.desk.specs.declared.reply.Reloaded.{Reloaded}
use Rattle.lifetime.specs.Openings.{IsOpenedBy}
use Rattle.lifetime.specs.declared.life.LifeEnd.{LifeEnd}
use Rattle.lifetime.specs.declared.life.LifeEnd.TheVariants.{ClockAhead, Refused, Stopped, Unopened}
use Rattle.state_file.specs.declared.fault.StateFault.{StateFault}
use Rattle.daemon.specs.Calls.{Replied}
use Rattle.daemon.specs.Reloading.{IsGranted, IsRefusedTo, reloaded_by}
use Rattle.daemon.specs.Reliving.{IsToldOf}
use Rattle.daemon.specs.declared.call_log.CallLog.{CallLog}
use Rattle.daemon.specs.declared.resumption.Resumption.{Resumption}

-- what holds of bytes, holds of them as a text
pub of_text : (P : List ℕ → Type 0) (reply : Option (Vec ℕ)) → IfSome reply (λ bytes. P bytes.items) → IfSome (option_map text_of reply) P
of_text P (Some bytes) holds = holds
of_text P None holds = tt

-- who waited was told of the registry by which the life went
pub told_of : (registry : RegistryRecord) (end : LifeEnd) (before : CallLog) (old new : Resumption) → ((fault : StateFault) → end ≢ Refused fault) → IsSome old.asker →
    old.log ≡ before → old.reloaded ≡ reloaded_by registry → IsOpenedBy IsGranted old end new → IsToldOf registry before.calls new.log.calls end
told_of registry (Stopped fault why) before old new not waits log is opened = (
  opened.reply,
  subst (λ (reloaded : Reloaded). IfSome opened.reply (IsGrantedReply reloaded)) is opened.granted,
  opened.noted waits ∙ ap (λ (l : CallLog). Replied opened.reply ∷ l.calls) log,
)
told_of registry (Refused fault) before old new not waits log is opened = absurd (not fault refl)
told_of registry (ClockAhead seconds) before old new not waits log is opened = ap (λ (r : Resumption). r.log.calls) opened ∙ ap (λ (l : CallLog). l.calls) log
told_of registry Unopened before old new not waits log is opened = absurd (false≢true opened.done_is)

-- nobody waits any more: no more is told
pub told_nobody : (end : LifeEnd) (old new : Resumption) → old.asker ≡ None → IsOpenedBy IsGranted old end new → new.log.calls ≡ old.log.calls
told_nobody (Stopped fault why) old new none opened = ap (λ (log : CallLog). log.calls) (opened.nobody none)
told_nobody (Refused fault) old new none opened = ap (λ (r : Resumption). r.log.calls) opened
told_nobody (ClockAhead seconds) old new none opened = ap (λ (r : Resumption). r.log.calls) opened
told_nobody Unopened old new none opened = absurd (false≢true opened.done_is)

-- where the next life is refused, that is told, and no more
pub told_refusal : (registry : RegistryRecord) (fault : StateFault) (end first : LifeEnd) (before : CallLog) (old tried refused new : Resumption) → first ≡ Refused fault →
    IsSome old.asker → old.log ≡ before → IsOpenedBy IsGranted old first tried → IsRefusedTo fault tried refused → IsOpenedBy IsGranted refused end new →
    IsToldOf registry before.calls new.log.calls first
told_refusal registry fault end first before old tried refused new is waits log opened told opened_then =
    let same : tried ≡ old = subst (λ (e : LifeEnd). IsOpenedBy IsGranted old e tried) is opened in
    let here : IsSome tried.asker = subst (λ (r : Resumption). IsSome r.asker) (sym same) waits in
    let calls : new.log.calls ≡ Replied told.reply ∷ before.calls = told_nobody end refused new told.asker_is opened_then ∙ told.noted here ∙
    ap (λ (l : CallLog). Replied told.reply ∷ l.calls) (ap (λ (r : Resumption). r.log) same ∙ log) in
    subst (IsToldOf registry before.calls new.log.calls) (sym is) (told.reply, told.refused, calls)
