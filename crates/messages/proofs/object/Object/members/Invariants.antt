use Rattle.std.proofs.Common.{◌≡◌, ◌++◌, take}
use Rattle.std.specs.List.{flat_map}
use Rattle.messages.specs.Members.{member_tokens}
use Rattle.messages.proofs.object.Object.members.Given as goal

abbrev pub invariant-loop-member : goal.invariant-loop-member
invariant-loop-member l = l.self.json.tokens ≡ l.fn.self.json.tokens ++ flat_map member_tokens (take l.member-index l.members)
