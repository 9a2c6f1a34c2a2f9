use Rattle.std.proofs.Common.{◌∙◌, ap, sym}
use Rattle.std.specs.Prelude.{bytes_eq}
use Rattle.std.specs.List.{list_any}
use Rattle.clients.proofs.Listed.{any_text}
use Rattle.registry_warnings.proofs.objects.Objects.has.Goals as goal

pub returns : goal.returns
returns c = c.stands_among.ensures ∙ sym (any_text c.args.name.now c.innermost.result.now) ∙ ap (list_any (bytes_eq c.args.name.now)) c.innermost.ensures
