use Rattle.std.proofs.Common.{◌≡◌, ◌++◌, ◌∙◌, drop, sym}
use Rattle.std.proofs.lemmas.Bool.Decides.{Decides-eqb}
use Rattle.std.proofs.lemmas.Slice.Eq.{starts_is}
use Rattle.batch_file.specs.Frames.{header}
use Rattle.batch_file.proofs.reader.FrameReader.begin.Goals as goal

pub begin-requires : goal.begin-requires
begin-requires g c =
    let bytes = c.deref.result.now in
    let starts : bytes ≡ header ++ drop 16 bytes = (starts_is Decides-eqb bytes header c.starts_with.result c.starts_with.ensures.value).0 c.if-starts_with.true in
    (drop 16 bytes, sym c.deref.ensures.value ∙ starts)
