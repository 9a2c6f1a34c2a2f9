-- Replies about reloads are short.
use Rattle.std.specs.Option.{option_copied}
use Rattle.std.specs.Global.{Vec}
use Rattle.std.specs.Prelude.{IfOk, IfSome}
use Rattle.std.specs.Result.{result_ok}
use Rattle.std.proofs.Common.{◌≡◌, ◌≤◌, ◌<◌, ◌^◌, ◌∙◌, ℕ, List, Option, None, Some, Result, Ok, Err, refl, sym, ap, subst, length, arith}
use Rattle.messages.specs.Reply.{Reply}
use Rattle.messages.specs.Small.{IsSmallReply, members_size}
use Rattle.messages.specs.SmallLaws.{number_short, small_bytes}
use Rattle.messages.specs.Written.{Written, in_writing, reply_bytes}
use Rattle.desk.specs.Replies.{AreShort, HasShortTexts, granted, refusal_of, refused_members}
use Rattle.desk.specs.declared.reply.Refusal.{Refusal}
use Rattle.desk.specs.declared.reply.Refusal.TheVariants as refusal
use Rattle.desk.specs.declared.reply.Reloaded.{Reloaded}

-- what is short has a short first text
pub first_short : (detail : List ℕ) (spot : Option (List ℕ)) → AreShort detail spot → length detail ≤ 512
first_short detail None short = short
first_short detail (Some spot) short = short.0

small_members : (detail : List ℕ) (spot : Option (List ℕ)) → AreShort detail spot → members_size (refused_members detail spot) ≤ 2500
small_members detail None short = omega (arith, short)
small_members detail (Some spot) short = (let one = short.0 in let other = short.1 in omega (arith, one, other))

small_refusal : (why : Refusal) → HasShortTexts why → IsSmallReply (refusal_of why)
small_refusal refusal.NoKey short = record { status = refl; short = tt }
small_refusal refusal.NotNow short = record { status = refl; short = tt }
small_refusal (refusal.For detail spot) short = record { status = refl; short = small_members detail.now (option_copied spot) short }

few_bytes : (reply : Reply) → IsSmallReply reply → length (reply_bytes (in_writing reply)) ≤ 32768
few_bytes reply small = let less = small_bytes reply small in omega (arith, less)

pub refusal_few : (why : Refusal) → HasShortTexts why → length (reply_bytes (in_writing (refusal_of why))) ≤ 32768
refusal_few why short = few_bytes (refusal_of why) (small_refusal why short)

pub granted_few : (reloaded : Reloaded) → reloaded.clients < 2 ^ 64 → reloaded.owners < 2 ^ 64 → length (reply_bytes (in_writing (granted reloaded))) ≤ 32768
granted_few reloaded clients owners =
    let one = number_short reloaded.clients clients in
    let other = number_short reloaded.owners owners in
    few_bytes (granted reloaded) (record { status = refl; short = omega (arith, one, other) })

-- what came where something came
pub of_some : {A E : Type 0} (r : Result A E) (x y : A) → result_ok r ≡ Some x → IfOk r (λ z. z ≡ y) → x ≡ y
of_some (Ok z) x y some is = (let same : z ≡ x = cc in sym same ∙ is)
of_some (Err e) x y some is = (cc)

-- the bytes, where they came
bytes_if : {E : Type 0} (r : Result (Vec ℕ) E) (w v : Written) → w ≡ v → IfOk r (λ bytes. bytes.items ≡ reply_bytes w) → IfSome (result_ok r) (λ bytes. bytes.items ≡ reply_bytes v)
bytes_if (Ok bytes) w v same has = has ∙ ap reply_bytes same
bytes_if (Err e) w v same has = tt

pub bytes_given : {E : Type 0} (r : Result (Vec ℕ) E) (o : Option (Vec ℕ)) (w v : Written) → o ≡ result_ok r → w ≡ v → IfOk r (λ bytes. bytes.items ≡ reply_bytes w) →
    IfSome o (λ bytes. bytes.items ≡ reply_bytes v)
bytes_given r o w v is same has = subst (λ (x : Option (Vec ℕ)). IfSome x (λ bytes. bytes.items ≡ reply_bytes v)) (sym is) (bytes_if r w v same has)
