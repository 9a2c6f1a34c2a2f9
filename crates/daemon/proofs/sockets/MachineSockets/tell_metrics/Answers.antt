use Rattle.std.proofs.Common.{inr}
use Rattle.std.specs.Prelude.{option_map}
use Rattle.desk.specs.Candidates.{text_of}
use Rattle.daemon.proofs.Asking.{serving_told, wanted_told}
use Rattle.daemon.proofs.Resuming.{of_text}
use Rattle.daemon.specs.Scraping.{IsMetricsPage, MayBeScraped}
use Rattle.daemon.proofs.sockets.MachineSockets.tell_metrics.Goals as goal

pub returns-clause-told : goal.returns-clause-told
returns-clause-told g c = inr (option_map text_of c.page-page.result, of_text IsMetricsPage c.page-page.result c.page-page.ensures, c.tell_metrics.ensures)

pub returns-clause-serving : goal.returns-clause-serving
returns-clause-serving g c =
    serving_told _ _ c.args.with_key (inr (option_map text_of c.page-page.result, of_text IsMetricsPage c.page-page.result c.page-page.ensures, c.tell_metrics.ensures))

pub returns-clause-wanted : goal.returns-clause-wanted
returns-clause-wanted g c =
    wanted_told _ _ c.args.with_key (inr (option_map text_of c.page-page.result, of_text IsMetricsPage c.page-page.result c.page-page.ensures, c.tell_metrics.ensures))
