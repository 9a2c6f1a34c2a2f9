-- What a reader gives beside what a reply tells.
use Rattle.std.specs.Prelude.{◌≡◌, Option, None, Some, Result, Ok, Err, ⊤}
use Rattle.etcd_json.specs.declared.reply.ReplyFault.{ReplyFault}
use Rattle.etcd_json.specs.declared.reply.ReplyFault.TheVariants.{Memory, Strange}

-- it is read as what was told; or nothing of the kind was, or memory was refused
abbrev pub ReadsAs : {A B : Type 0} → (A → B) → Result A ReplyFault → Option B → Type 0
ReadsAs view (Ok read) told = told ≡ Some (view read)
ReadsAs view (Err Memory) told = ⊤
ReadsAs view (Err Strange) told = told ≡ None
