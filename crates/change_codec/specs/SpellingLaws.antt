-- What is spelled is read again, and no bytes spell two lists.
use Rattle.std.specs.Prelude.{◌≡◌, List, Ok}
use Rattle.consent.specs.History.{Event}
use Rattle.wire.specs.declared.fault.Fault.TheVariants.{Version}
use Rattle.wire.specs.Lists.{behind, list_of}
use Rattle.wire.specs.Whole.{all_again, spells_one_alone}
use Rattle.change_codec.specs.Spelling.{HaveSpelling, batch_spelling, dated_format, reading}

pub reading_again : (ds : List Event) → HaveSpelling ds → reading (batch_spelling ds) ≡ Ok ds
reading_again ds fits = all_again (behind 1 Version (list_of dated_format)) ds fits

pub one_list : (some others : List Event) → HaveSpelling some → HaveSpelling others → batch_spelling some ≡ batch_spelling others → some ≡ others
one_list some others fits fit e = spells_one_alone (behind 1 Version (list_of dated_format)) some others fits fit e
