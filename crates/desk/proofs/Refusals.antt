-- Replies to reloads that are not begun.
use Rattle.std.proofs.Common.{◌≡◌, ◌≢◌, ℕ, List, Option, None, Some, refl}
use Rattle.std.specs.Prelude.{IfSome}
use Rattle.std.specs.Global.{Vec}
use Rattle.messages.specs.Written.{in_writing, reply_bytes}
use Rattle.state_file.specs.declared.fault.StateFault.{StateFault}
use Rattle.state_file.specs.declared.fault.StateFault.TheVariants as state
use Rattle.desk.specs.Replies.{IsRefusedAt, IsStateReply, refused_for}

pub refused_nowhere : (detail : List ℕ) (reply : Option (Vec ℕ)) → IfSome reply (λ bytes. bytes.items ≡ reply_bytes (in_writing (refused_for detail None))) →
    IfSome reply (λ bytes. IsRefusedAt None bytes.items)
refused_nowhere detail None is = tt
refused_nowhere detail (Some bytes) is = (detail, is)

pub refused_there : (detail at : List ℕ) (reply : Option (Vec ℕ)) → IfSome reply (λ bytes. bytes.items ≡ reply_bytes (in_writing (refused_for detail (Some at)))) →
    IfSome reply (λ bytes. (spot : List ℕ) × IsRefusedAt (Some spot) bytes.items)
refused_there detail at None is = tt
refused_there detail at (Some bytes) is = (at, (detail, is))

-- a fault beside the state, for which memory was not refused
state_is : (fault : StateFault) (bytes : List ℕ) → fault ≢ state.Memory → IsRefusedAt None bytes → IsStateReply fault bytes
state_is state.Memory bytes not is = absurd (not refl)
state_is fault bytes not is = is

pub refused_state : (fault : StateFault) (detail : List ℕ) (reply : Option (Vec ℕ)) → fault ≢ state.Memory → IfSome reply (λ bytes. bytes.items ≡ reply_bytes (in_writing (refused_for detail None))) →
    IfSome reply (λ bytes. IsStateReply fault bytes.items)
refused_state fault detail None not is = tt
refused_state fault detail (Some bytes) not is = state_is fault bytes.items not (detail, is)
