use Rattle.std.proofs.Common.{◌≢◌, ℕ, ◌<◌, get_or}
use Rattle.manual.specs.declared.topic.Topic.{Topic}
use Rattle.manual.proofs.topic.text_named.Given as goal

abbrev pub invariant-loop-topic : goal.invariant-loop-topic
invariant-loop-topic l = (k : ℕ) (d : Topic) → k < l.topic-index → (get_or l.topics k d).name.now ≢ l.name
