-- The line of a notice.
use Rattle.std.specs.Prelude.{ℕ, Bool, true, false, List, ◌++◌, codes}
use Rattle.std.specs.Fmt.{decimal}
use Rattle.json.specs.Print.{print}
use Rattle.outside.specs.declared.report.Notice.{Notice}
use Rattle.outside.specs.declared.report.Notice.TheVariants.{Reported, StoreFull, ShorteningRefused, WantsRoom, SetAside, Narrowed, Ahead}
use Rattle.reports.specs.ReportTokens.{report_tokens}

-- how many bytes of an unfinished write are beside the file of a path
abbrev pub set_aside_text : List ℕ → ℕ → List ℕ
set_aside_text path count =
    codes "oauthd: state: " ++ decimal count ++ codes " bytes of an unfinished write are in " ++ path ++ codes ".torn\n"

-- the disk refuses room for what is kept, or has some again
abbrev pub room_text : Bool → List ℕ
room_text true = codes "oauthd: state: no room on the disk; what was reserved serves until it is used up\n"
room_text false = codes "oauthd: state: there is room on the disk again\n"

-- with the path of the file of the state, where there is one
abbrev pub notice_text : List ℕ → Notice → List ℕ
notice_text path (Reported report) = print (report_tokens report) ++ codes "\n"
notice_text path StoreFull = codes "oauthd: store full\n"
notice_text path ShorteningRefused = codes "oauthd: state: the file cannot be shortened; it grows until that works\n"
notice_text path (WantsRoom wants) = room_text wants
notice_text path (SetAside count) = set_aside_text path count
notice_text path (Narrowed count) = codes "oauthd: state: " ++ decimal count ++ codes " codes and tokens ended, beyond the registry\n"
notice_text path (Ahead count) = codes "oauthd: state: " ++ decimal count ++ codes " seconds ahead of the clock; nothing expires until then\n"
