use Rattle.std.proofs.Common.{sym, ◌∙◌}
use Rattle.heads.proofs.Lookups.{lookup_named, lookup_other}
use Rattle.heads.proofs.fields.noted.Goals as goal

pub returns-then-is_named : goal.returns-then-is_named
returns-then-is_named c = λ headers was. record {
  found = lookup_named c.args.name.now c.args.bytes.now headers c.args.header _ _ (sym (rw c.of.ensures at c.is_named.ensures) ∙ c.if-is_named.true) c.one_more.ensures.value was.found;
  within = c.one_more.ensures.within _ c.requires;
}

pub returns-else-is_named : goal.returns-else-is_named
returns-else-is_named c = λ headers was. record {
  found = lookup_other c.args.name.now c.args.bytes.now headers c.args.header _ (sym (rw c.of.ensures at c.is_named.ensures) ∙ c.if-is_named.false) was.found;
  within = was.within;
}
