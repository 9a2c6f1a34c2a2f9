use Rattle.standby.proofs.Listed.{taken_of}
use Rattle.standby.proofs.copying.take_list.Goals as goal

pub returns-clause-list : goal.returns-clause-list
returns-clause-list g c = (
  _,
  taken_of c.args.terms.prefix.now c.in_ok-names.names.prefix.items _ _ c.in_ok-bytes.ensures.listed.0 c.in_ok-bytes.bytes.items c.in_ok-names.ensures c.in_ok-bytes.ensures.listed.1
      c.new-asking.ensures.exchanges c.in_ok-bytes.ensures.reads,
)

pub returns-clause-taken : goal.returns-clause-taken
returns-clause-taken g c =
    taken_of c.args.terms.prefix.now c.in_ok-names.names.prefix.items _ _ c.in_ok-bytes.ensures.listed.0 c.in_ok-bytes.bytes.items c.in_ok-names.ensures c.in_ok-bytes.ensures.listed.1
    c.new-asking.ensures.exchanges c.in_ok-bytes.ensures.reads
