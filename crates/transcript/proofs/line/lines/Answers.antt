use Rattle.std.proofs.Common.{◌≡◌, lit<, ◌∙◌, ap, ℕ, List, Bor}
use Rattle.transcript.proofs.Names.{map_from_collect, YieldsList-from_str_split, strip_last}
use Rattle.std.proofs.lemmas.Str.Pattern.{strip_suffix_char}
use Rattle.transcript.proofs.Feeds.{without_feed}
use Rattle.transcript.proofs.line.lines.Goals as goal

pub returns : goal.returns
returns c =
    let cut = strip_suffix_char 10 c.args.text.now c.strip_suffix.result c.strip_suffix.ensures.cases (lit< tt) in
    let body : c.unwrap_or.result.now ≡ strip_last 10 c.args.text.now = ap (λ (t : Bor (List ℕ)). t.now) c.unwrap_or.ensures ∙ without_feed c.strip_suffix.result c.args.text cut in
    map_from_collect _ c.collect.ensures.ran (YieldsList-from_str_split 10 _ (lit< tt) (c.split.ensures.text ∙ body) c.split.ensures.has_more c.split.ensures.pattern)
